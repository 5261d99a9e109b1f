-- A certificate that was written passes its check. Assumes nothing.
use Rattle.std.proofs.Common.{◌≡◌, ℕ, zero, suc, ◌+◌, ◌-◌, ◌<◌, ◌≤◌, Bool, true, cond, ◌⊎◌, List, ◌++◌, length, take, drop, sym, refl, ap, subst, inl, inr, arith, Ok}
use Rattle.std.proofs.lemmas.List.{take_at}
use Rattle.std.proofs.lemmas.Bool.{cases_lt, cases_Bool, both_ways, cond-true, cond-false}
use Rattle.fields.specs.Field.{Ops, Laws}
use Rattle.coloring.specs.Encoding.{Bounded}
use Rattle.polynomials.specs.declared.term.Term.{Term}
use Rattle.polynomials.specs.Product.{products}
use Rattle.certificates.specs.declared.verdict.Verdict.{Verdict}
use Rattle.certificates.specs.declared.verdict.Verdict.TheVariants.{Infeasible}
use Rattle.certificates.specs.Checking.{degree_of, MalformedHeads, Others, BitPast, BadCode, checking, Passes}
use Rattle.certificates.specs.Grounds.{Clear}
use Rattle.certificates.specs.Measures.{Excess}
use Rattle.certificates.specs.Outcome.{Memory, Chosen, written, Worked, certified, uncertified}
use Rattle.layout.specs.Reading.{byte, stands, before, code_at, WellFormed}
use Rattle.layout.specs.Length.{map_bytes}
use Rattle.certificates.specs.Sizes.{rows}
use Rattle.layout.proofs.Inverse.{inverse}
use Rattle.nulla.specs.declared.reply.Answer.TheVariants.{Passed}
use Rattle.nulla.specs.Replies.{told, Reply}
use Rattle.nulla.specs.Requests.{raise_degree, try_edge, check_certificate}
use Rattle.nulla.specs.State.{State}
use Rattle.nulla.specs.Theorems.{PassesCheck, WrittenPass}
use Rattle.nulla.specs.Steps.{Lists, joined_too, summed, works, tries, passes, Step, refuses, answers}

-- each place among the codes is that of a product that has one
coded : (bytes : List ℕ) (j p : ℕ) → j < before bytes p → (k : ℕ) × (k < p) × (stands bytes k ≡ true) × (before bytes k ≡ j)
unfolding before
coded bytes j zero h = absurd (omega arith)
coded bytes j (suc p) h = elim (cases_lt j (before bytes p)) [
  | inl l ↦ let c = coded bytes j p l in (c.0, omega (arith, c.1), c.2, c.3)
  | inr l ↦ elim (cases_Bool (stands bytes p)) [
    | inl s ↦ let one : ◌≡◌ {A = ℕ} (cond (stands bytes p) 1 0) 1 = cond-true (stands bytes p) 1 0 s in (p, omega arith, s, omega arith)
    | inr s ↦ let none : ◌≡◌ {A = ℕ} (cond (stands bytes p) 1 0) 0 = cond-false (stands bytes p) 1 0 s in absurd (omega arith)
  ]
]

-- bytes that are well-formed have a good body
no_bit : {F : Type 0} {o : Ops F} {n d e p : ℕ} (bytes : List ℕ) → WellFormed o n d e p bytes → BitPast p bytes → ⊥
no_bit bytes w (k, above, below, s) = both_ways (stands bytes k) (w.unused k above below) s

bad_code : (v order : ℕ) → 0 < v → v < order → (v ≡ 0) ⊎ (order ≤ v) → ⊥
bad_code v order low high (inl e) = omega (arith, e)
bad_code v order low high (inr l) = omega arith

good_codes : {F : Type 0} {o : Ops F} {n d e p : ℕ} (bytes : List ℕ) → WellFormed o n d e p bytes → BadCode o.size p bytes → ⊥
good_codes {o = o} {p = p} bytes w (i, behind, inside, bad) =
    let c = coded bytes (i - (6 + map_bytes p)) p (omega (arith, w.long)) in
    let place : 6 + map_bytes p + before bytes c.0 ≡ i = omega (arith, c.3) in
    let code : code_at bytes p c.0 ≡ byte bytes i = ap (byte bytes) place in
    let is = w.codes c.0 c.1 c.2 in
    bad_code (byte bytes i) o.size (omega (arith, is.0, code)) (omega (arith, is.1, code)) bad

module _ {F : Type 0} {o : Ops F} (laws : Laws o) (l : Lists F) (most : ℕ) (bounded : Bounded o l most) where
  -- what was written is found without fault, and passes
  module _ (n d : ℕ) (eqs : List (List (Term F))) (x : ℕ → F) (few : n ≤ 24) (low : 1 ≤ d) (high : d ≤ 48) (short : length eqs ≤ 4095) where
    abbrev bytes : List ℕ
    bytes = written o n d eqs x

    well : WellFormed o n d (length eqs) (products n d eqs) bytes
    well = (inverse laws).written n d (length eqs) (products n d eqs) x (omega arith) (omega arith) (omega arith)

    head_good : MalformedHeads bytes → ⊥
    head_good (inl h) = omega (arith, well.long)
    head_good (inr (inl h)) = h refl
    head_good (inr (inr (inl h))) = omega arith
    head_good (inr (inr (inr h))) = omega arith

    this_solver : Others o.size n (length eqs) bytes → ⊥
    this_solver (inl h) = h refl
    this_solver (inr (inl h)) = h refl
    this_solver (inr (inr h)) = h (omega arith)

    body_good : BitPast (products n d eqs) bytes ⊎ BadCode o.size (products n d eqs) bytes → ⊥
    body_good (inl h) = no_bit bytes well h
    body_good (inr h) = good_codes bytes well h

    faultless : (elements : ℕ) → (Excess (length eqs) n d → ⊥) → rows n d ≤ elements → Clear (checking o.size n (length eqs) bytes elements)
    faultless elements fits room = (head_good, (this_solver, (fits, ((λ h. h well.long), (body_good, ((λ h. omega arith), tt))))))

    sums_up : Chosen o n d eqs x → Passes o n eqs bytes
    sums_up c = (x, (inverse laws).means n d (length eqs) (products n d eqs) x, c.sums)

  -- on n vertices of which the pairs f are joined, the bytes are without fault and pass
  abbrev Good : ℕ → (ℕ → ℕ → Bool) → List ℕ → ℕ → Type 0
  Good n f bytes elements = Clear (checking o.size n (length (l n f)) bytes elements) × Passes o n (l n f) bytes

  good_passes : (s : State) (m : Memory F) (n : ℕ) (f : ℕ → ℕ → Bool) (bytes : List ℕ) → s.vertices ≡ n → s.joins ≡ f → Good n f bytes (length m.table)
      → Step o l (check_certificate bytes) s m (Ok Passed) s (summed o l bytes s m)
  good_passes s m n f bytes p q g =
      let here : Good s.vertices s.joins bytes (length m.table) =
      subst (λ h. Good s.vertices h bytes (length m.table)) (sym q) (subst (λ k. Good k f bytes (length m.table)) (sym p) g) in
      answers here.0 (passes here.1)

  worked_passes : {n d : ℕ} {f : ℕ → ℕ → Bool} {m p : Memory F} {v : Verdict} (e k : ℕ) → n ≤ 24 → 1 ≤ d → d ≤ 48 → (Excess (length (l n f)) n d → ⊥)
      → told v ≡ told (Infeasible e k) → Worked o n d (l n f) m v p → PassesCheck o l n f k p.certificate
  worked_passes {n} {d} {f} {m} e k few low high fits told_is (certified x c) s m' same-n same-f room =
      let bytes = written o n d (l n f) x in
      let long : length bytes ≡ k = cc in
      let front : bytes ≡ take k (bytes ++ drop (length bytes) m.certificate) = sym (take_at bytes (drop (length bytes) m.certificate) k long) in
      let room' : rows n d ≤ length m'.table = subst (λ b. rows n (degree_of b) ≤ length m'.table) (sym front) room in
      let short : length (l n f) ≤ 4095 = omega (arith, bounded.count n f few, bounded.small) in
      subst (λ b. Step o l (check_certificate b) s m' (Ok Passed) s (summed o l b s m')) front
      (good_passes s m' n f bytes same-n same-f (faultless n d (l n f) x few low high short (length m'.table) fits room', sums_up n d (l n f) x few low high short c))
  worked_passes e k few low high fits told_is (uncertified h) s m' same-n same-f room = let z : ◌≡◌ {A = ℕ} 0 1 = cc in absurd (omega arith)

  raise_passes : {s t : State} {m p : Memory F} {a : Reply} (d k : ℕ) → s.vertices ≤ 24 → a ≡ told (Infeasible d k) → Step o l raise_degree s m a t p → PassesCheck o l s.vertices s.joins k p.certificate
  raise_passes d k few e (refuses f) = let z : ◌≡◌ {A = ℕ} 0 1 = cc in absurd (omega arith)
  raise_passes {s} d k few e (answers c (works w)) =
      let low : s.degree < 48 = elim (cases_lt s.degree 48) [ inl h ↦ h | inr h ↦ absurd (c.1.0 h) ] in
      worked_passes d k few (omega arith) (omega arith) c.1.1.0 e w

  try_passes : {i j : ℕ} {d : ℕ} {s t : State} {m p : Memory F} {a : Reply} (e k : ℕ) → s.vertices ≤ 24 → a ≡ told (Infeasible e k) → Step o l (try_edge i j d) s m a t p → PassesCheck o l s.vertices (joined_too s i j) k p.certificate
  try_passes e k few is (refuses f) = let z : ◌≡◌ {A = ℕ} 0 1 = cc in absurd (omega arith)
  try_passes {d = d} e k few is (answers c (tries w)) =
      let low : 1 ≤ d = elim (cases_lt d 1) [ inl h ↦ absurd (c.0 (inr (inr (inl h)))) | inr h ↦ h ] in
      let high : d ≤ 48 = elim (cases_lt 48 d) [ inl h ↦ absurd (c.0 (inr (inr (inr h)))) | inr h ↦ h ] in
      worked_passes e k few low high c.1.1.1.1.0 is w

  pub written_pass : WrittenPass o l
  written_pass = record {
    raises = λ d k s t m p few h. raise_passes d k few refl h;
    trials = λ i j e d k s t m p few h. try_passes d k few refl h;
  }
