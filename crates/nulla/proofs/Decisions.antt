-- Each ground of each call holds or does not, so that a call is refused on its first or is clear. Assumes nothing.
use Rattle.std.proofs.Common.{◌≡◌, ℕ, zero, suc, ◌+◌, ◌*◌, ◌<◌, ◌≤◌, min, max, Bool, true, false, ◌⊎◌, List, [], ◌∷◌, ◌++◌, length, refl, subst, inl, inr, arith}
use Rattle.std.proofs.lemmas.Bool.{cases_lt, cases_eq, cases_Bool, both_ways}
use Rattle.fields.specs.Field.{Ops}
use Rattle.certificates.specs.declared.refusal.Refusal.{Refusal}
use Rattle.certificates.specs.Checking.{degree_of, BitPast, BadCode, checking}
use Rattle.certificates.specs.Grounds.{Ground, First, Clear, large, room}
use Rattle.certificates.specs.Outcome.{Memory}
use Rattle.layout.specs.Reading.{byte, stands, before}
use Rattle.layout.specs.Length.{map_bytes, certificate_bytes}
use Rattle.certificates.specs.Sizes.{products, rows, cells}
use Rattle.nulla.specs.Requests.{Request, open_vertex, add_edge, remove_edge, raise_degree, try_edge, check_certificate}
use Rattle.nulla.specs.State.{State}
use Rattle.nulla.specs.Steps.{Lists, unnamed, ends, ends_at, standing, lacking, joined_too, equations, grounds}

-- it is known whether P holds
abbrev pub Known : Type 0 → Type 0
Known P = P ⊎ (P → ⊥)

-- every ground is known
abbrev pub AllKnown : List Ground → Type 0
AllKnown [] = Unit {0}
AllKnown (g ∷ gs) = Known g.holds × AllKnown gs

-- then one of them is the first that holds, or none holds
pub first_or_clear : (gs : List Ground) → AllKnown gs → ((r : Refusal) × First gs r) ⊎ Clear gs
first_or_clear [] k = inr tt
first_or_clear (g ∷ gs) (inl h, k) = inl (g.name, inl (h, refl))
first_or_clear (g ∷ gs) (inr n, k) = elim (first_or_clear gs k) [ inl f ↦ inl (f.0, inr (n, f.1)) | inr c ↦ inr (n, c) ]

both_known : (gs hs : List Ground) → AllKnown gs → AllKnown hs → AllKnown (gs ++ hs)
both_known [] hs k j = j
both_known (g ∷ gs) hs k j = (k.0, both_known gs hs k.1 j)

known_lt : (a b : ℕ) → Known (a < b)
known_lt a b = elim (cases_lt a b) [ inl l ↦ inl l | inr l ↦ inr (λ h. omega arith) ]

known_le : (a b : ℕ) → Known (a ≤ b)
known_le a b = elim (cases_lt b a) [ inl l ↦ inr (λ h. omega arith) | inr l ↦ inl l ]

known_true : (b : Bool) → Known (b ≡ true)
known_true b = elim (cases_Bool b) [ inl e ↦ inl e | inr e ↦ inr (λ t. both_ways b e t) ]

known_false : (b : Bool) → Known (b ≡ false)
known_false b = elim (cases_Bool b) [ inl e ↦ inr (λ f. both_ways b f e) | inr e ↦ inl e ]

pub known_not : {P : Type 0} → Known P → Known (P → ⊥)
known_not (inl h) = inr (λ n. n h)
known_not (inr n) = inl n

known_or : {P Q : Type 0} → Known P → Known Q → Known (P ⊎ Q)
known_or (inl h) k = inl (inl h)
known_or (inr n) (inl h) = inl (inr h)
known_or {P} {Q} (inr n) (inr m) = inr (λ (e : P ⊎ Q). elim e [ inl h ↦ n h | inr h ↦ m h ])

known_and : {P Q : Type 0} → Known P → Known Q → Known (P × Q)
known_and (inl h) (inl k) = inl (h, k)
known_and (inl h) (inr m) = inr (λ e. m e.1)
known_and (inr n) k = inr (λ e. n e.0)

-- a search among the numbers below n
search_below : (P : ℕ → Type 0) → ((k : ℕ) → Known (P k)) → (n : ℕ) → ((k : ℕ) × (k < n) × P k) ⊎ ((k : ℕ) → k < n → P k → ⊥)
search_below P known zero = inr (λ k l h. omega arith)
search_below P known (suc n) = elim (known n) [
  | inl h ↦ inl (n, omega arith, h)
  | inr m ↦ elim (search_below P known n) [
    | inl f ↦ inl (f.0, omega (arith, f.1), f.2)
    | inr none ↦ inr (λ k l h. elim (cases_eq k n) [ inl e ↦ m (subst P e h) | inr e ↦ none k (omega arith) h ])
  ]
]

-- whether all of them have P
pub known_below : (P : ℕ → Type 0) → ((k : ℕ) → Known (P k)) → (n : ℕ) → Known ((k : ℕ) → k < n → P k)
known_below P known n = elim (search_below (λ k. P k → ⊥) (λ k. known_not (known k)) n) [
  | inl f ↦ inr (λ all. f.2 (all f.0 f.1))
  | inr none ↦ inl (λ k l. elim (known k) [ inl h ↦ h | inr m ↦ absurd (none k l m) ])
]

known_bit : (p : ℕ) (bytes : List ℕ) → Known (BitPast p bytes)
known_bit p bytes = elim (search_below (λ k. (p ≤ k) × (stands bytes k ≡ true)) (λ k. known_and (known_le p k) (known_true (stands bytes k))) (8 * map_bytes p)) [
  | inl f ↦ inl (f.0, f.2.0, f.1, f.2.1)
  | inr none ↦ inr (λ b. none b.0 b.2 (b.1, b.3))
]

known_code : (order p : ℕ) (bytes : List ℕ) → Known (BadCode order p bytes)
known_code order p bytes =
    elim (search_below (λ i. (6 + map_bytes p ≤ i) × ((byte bytes i ≡ 0) ⊎ (order ≤ byte bytes i)))
    (λ i. known_and (known_le (6 + map_bytes p) i) (known_or (cases_eq (byte bytes i) 0) (known_le order (byte bytes i)))) (length bytes)) [
      | inl f ↦ inl (f.0, f.2.0, f.1, f.2.1)
      | inr none ↦ inr (λ b. none b.0 b.2 (b.1, b.3))
    ]

known_large : (e n d : ℕ) → Known (large e n d).holds
known_large e n d = known_or (known_lt 1000000 (rows n d)) (known_lt 1000000 (products e n d))

known_room : (e n d elements bytes : ℕ) → AllKnown (room e n d elements bytes)
known_room e n d elements bytes = (known_large e n d, (known_lt elements (cells e n d), (known_lt bytes (certificate_bytes (products e n d)), tt)))

known_unnamed : (i j : ℕ) (s : State) → AllKnown (unnamed i j s)
known_unnamed i j s = (known_or (known_le s.vertices i) (known_le s.vertices j), (cases_eq i j, tt))

known_ends : (i j : ℕ) (s : State) → AllKnown (ends i j s)
known_ends i j s = (known_or (known_lt 23 i) (known_lt 23 j), known_unnamed i j s)

known_ends_at : (i j d : ℕ) (s : State) → AllKnown (ends_at i j d s)
known_ends_at i j d s = (known_or (known_lt 23 i) (known_or (known_lt 23 j) (known_or (known_lt d 1) (known_lt 48 d))), known_unnamed i j s)

known_standing : (i j : ℕ) (s : State) → AllKnown (standing i j s)
known_standing i j s = (known_true (s.joins (min i j) (max i j)), tt)

known_checking : (order n e : ℕ) (bytes : List ℕ) (elements : ℕ) → AllKnown (checking order n e bytes elements)
known_checking order n e bytes elements =
    let d = degree_of bytes in
    let p = products e n d in
    let head = known_or (known_lt (length bytes) 6) (known_or (known_not (cases_eq (byte bytes 0) 1)) (known_or (known_lt d 1) (known_lt 48 d))) in
    let other = known_or (known_not (cases_eq (byte bytes 1) order)) (known_or (known_not (cases_eq (byte bytes 2) n)) (known_not (cases_eq (byte bytes 4 * 256 + byte bytes 5) e))) in
    let long = known_not (cases_eq (length bytes) (6 + map_bytes p + before bytes p)) in
    (head, (other, (known_large e n d, (long, (known_or (known_bit p bytes) (known_code order p bytes), (known_lt elements (rows n d), tt))))))

module _ {F : Type 0} (o : Ops F) (l : Lists F) where
  pub known_grounds : (q : Request) (s : State) (m : Memory F) → AllKnown (grounds o l q s m)
  known_grounds open_vertex s m = (known_le 24 s.vertices, tt)
  known_grounds (add_edge i j) s m = both_known (ends i j s) (standing i j s) (known_ends i j s) (known_standing i j s)
  known_grounds (remove_edge i j) s m = both_known (ends i j s) (lacking i j s) (known_ends i j s) (known_false (s.joins (min i j) (max i j)), tt)
  known_grounds raise_degree s m =
      (known_true s.infeasible, (known_le 48 s.degree, known_room (equations o l s) s.vertices (s.degree + 1) (length m.table) (length m.certificate)))
  known_grounds (try_edge i j d) s m =
      let working = room (length (l s.vertices (joined_too s i j))) s.vertices d (length m.table) (length m.certificate) in
      both_known (ends_at i j d s) (standing i j s ++ working) (known_ends_at i j d s)
      (both_known (standing i j s) working (known_standing i j s) (known_room (length (l s.vertices (joined_too s i j))) s.vertices d (length m.table) (length m.certificate)))
  known_grounds (check_certificate bytes) s m = known_checking o.size s.vertices (length (l s.vertices s.joins)) bytes (length m.table)
