-- How many monomials there are, the place of each, and that each place is taken.
-- Assumes nothing.
use Rattle.std.proofs.Common.{◌≡◌, ℕ, zero, suc, ◌+◌, ◌-◌, ◌<◌, ◌≤◌, ◌⊎◌, List, [], ◌∷◌, ◌++◌, map, length, get_or, sym, refl, ap, ◌∙◌, subst, inl, inr, not-suc-le-zero, add-zero, zero-add, arith, length-append}
use lib.ListN.{length-map}
use Rattle.std.proofs.lemmas.List.{get_or_append_left, get_or-append-add, get_or-map}
use Rattle.std.proofs.lemmas.Bool.{cases_lt}
use Rattle.monomials.specs.Choose.{choose}
use Rattle.monomials.proofs.Binomials.{choose_none, choose_all, pascal_sum}
use Rattle.monomials.specs.Order.{degree, lead, up_to, exactly, at_most, lower, rank_of, Counted, Placed, Onto}

-- the count
none_length : (n : ℕ) → length (exactly n 0) ≡ 1
unfolding exactly up_to
none_length zero = refl
none_length (suc n) = length-map (exactly n 0) (lead 0) ∙ none_length n

count_step : (n : ℕ) → ((e : ℕ) → length (up_to (exactly n) e) ≡ choose (n + e) n) →
    (e : ℕ) → length (up_to (exactly (suc n)) e) ≡ choose (suc n + e) (suc n)
unfolding exactly up_to
count_step n h zero = none_length (suc n) ∙ sym (choose_all (suc n)) ∙ ap (λ (m : ℕ). choose m (suc n)) (sym (add-zero (suc n)))
count_step n h (suc e) =
    length-append (up_to (exactly (suc n)) e) (map (lead (suc e)) (up_to (exactly n) (suc e)))
    ∙ ap (λ (m : ℕ). length (up_to (exactly (suc n)) e) + m) (length-map (up_to (exactly n) (suc e)) (lead (suc e)) ∙ h (suc e))
    ∙ ap (λ (m : ℕ). m + choose (n + suc e) n) (count_step n h e)
    ∙ sym (pascal_sum n e)

count_none : (e : ℕ) → up_to (exactly 0) e ≡ [] ∷ []
unfolding exactly up_to
count_none zero = refl
count_none (suc e) = ap (λ (l : List (List ℕ)). l ++ []) (count_none e)

pub counted : Counted
counted zero e = ap length (count_none e) ∙ sym (choose_none (0 + e))
counted (suc n) e = count_step n (counted n) e

-- one list after the other
before : (ℕ → List (List ℕ)) → ℕ → ℕ
before f zero = 0
before f (suc d) = length (up_to f d)

-- the ways that d can be at most e + 1
last_or : (d e : ℕ) → d ≤ suc e → (d ≤ e) ⊎ (suc e ≡ d)
last_or d e h = elim (cases_lt e d) [ inl l ↦ inr (omega arith) | inr l ↦ inl l ]

inside : (f : ℕ → List (List ℕ)) (e d k : ℕ) → d ≤ e → k < length (f d) → before f d + k < length (up_to f e)
unfolding up_to before
inside f zero zero k h l = omega arith
inside f zero (suc d) k h l = absurd (not-suc-le-zero h)
inside f (suc e) d k h l =
    elim (last_or d e h) [
      | inl le ↦ omega (arith, inside f e d k le l, length-append (up_to f e) (f (suc e)))
      | inr is ↦ subst (λ (m : ℕ). k < length (f m) → before f m + k < length (up_to f (suc e))) is (λ q. omega (arith, length-append (up_to f e) (f (suc e)))) l
    ]

up_to_at : (f : ℕ → List (List ℕ)) (e d k : ℕ) → d ≤ e → k < length (f d) → get_or (up_to f e) (before f d + k) [] ≡ get_or (f d) k []
unfolding up_to before
up_to_at f zero zero k h l = ap (λ (m : ℕ). get_or (f 0) m []) (zero-add k)
up_to_at f zero (suc d) k h l = absurd (not-suc-le-zero h)
up_to_at f (suc e) d k h l =
    elim (last_or d e h) [
      | inl le ↦ get_or_append_left (up_to f e) (f (suc e)) [] (before f d + k) (inside f e d k le l) ∙ up_to_at f e d k le l
      | inr is ↦ subst (λ (m : ℕ). get_or (up_to f (suc e)) (before f m + k) [] ≡ get_or (f m) k []) is (get_or-append-add (up_to f e) (f (suc e)) k [])
    ]

up_to_split : (f : ℕ → List (List ℕ)) (e r : ℕ) → r < length (up_to f e) → (d : ℕ) × (k : ℕ) × (d ≤ e) × (k < length (f d)) × (r ≡ before f d + k)
unfolding up_to before
up_to_split f zero r h = (0, r, omega arith, h, sym (zero-add r))
up_to_split f (suc e) r h =
    elim (cases_lt r (length (up_to f e))) [
      | inl l ↦ (let (d, k, a, b, c) = up_to_split f e r l in (d, k, omega arith, b, c))
      | inr l ↦ (suc e, r - length (up_to f e), omega arith, omega (arith, length-append (up_to f e) (f (suc e))), omega arith)
    ]

-- `before` counts by binomials
before_lower : (n d : ℕ) → before (exactly n) d ≡ lower n d
unfolding before lower
before_lower n zero = refl
before_lower n (suc d) = counted n d

exact_length : (n d : ℕ) → length (exactly (suc n) d) ≡ choose (n + d) n
unfolding exactly
exact_length n d = length-map (up_to (exactly n) d) (lead d) ∙ counted n d

-- at a place of degree d in one variable more
at_degree : (n e d k : ℕ) → d ≤ e → k < choose (n + d) n → get_or (up_to (exactly (suc n)) e) (lower (suc n) d + k) [] ≡ lead d (get_or (up_to (exactly n) d) k [])
unfolding exactly
at_degree n e d k h l =
    let q : k < length (up_to (exactly n) d) = omega (arith, counted n d) in
    let p : k < length (exactly (suc n) d) = omega (arith, exact_length n d) in
    ap (λ (m : ℕ). get_or (up_to (exactly (suc n)) e) (m + k) []) (sym (before_lower (suc n) d))
    ∙ up_to_at (exactly (suc n)) e d k h p
    ∙ get_or-map (lead d) (up_to (exactly n) d) k [] [] q

pub placed : Placed
unfolding rank_of
placed [] e h =
    (omega (arith, choose_none (0 + e)), ap (λ (l : List (List ℕ)). get_or l 0 []) (count_none e))
placed (x ∷ xs) e h =
    let ih = placed xs (x + degree xs) (omega arith) in
    let p : rank_of xs < length (exactly (suc (length xs)) (x + degree xs)) = omega (arith, exact_length (length xs) (x + degree xs), ih.0) in
    let s : x + degree xs - degree xs ≡ x = omega arith in (
      omega (arith, inside (exactly (suc (length xs))) e (x + degree xs) (rank_of xs) h p, before_lower (suc (length xs)) (x + degree xs), counted (suc (length xs)) e),
      at_degree (length xs) e (x + degree xs) (rank_of xs) h ih.0
          ∙ ap (lead (x + degree xs)) ih.1
          ∙ ap (λ (m : ℕ). m ∷ xs) s,
    )

pub onto : Onto
unfolding rank_of
onto zero e r h =
    let z : r ≡ 0 = omega (arith, choose_none (0 + e)) in
    let i : get_or (at_most 0 e) r [] ≡ [] = ap (λ (l : List (List ℕ)). get_or l r []) (count_none e) ∙ ap (λ (m : ℕ). get_or ([] ∷ []) m []) z in
    (ap length i, omega (arith, ap degree i), ap rank_of i ∙ sym z)
onto (suc n) e r h =
    let (d, k, a, b, c) = up_to_split (exactly (suc n)) e r (omega (arith, counted (suc n) e)) in
    let q : k < choose (n + d) n = omega (arith, exact_length n d) in
    let ih = onto n d k q in
    let m = get_or (up_to (exactly n) d) k [] in
    let w : r ≡ lower (suc n) d + k = omega (arith, before_lower (suc n) d) in
    let i : get_or (at_most (suc n) e) r [] ≡ lead d m = ap (λ (v : ℕ). get_or (at_most (suc n) e) v []) w ∙ at_degree n e d k a q in
    let s : d - degree m + degree m ≡ d = omega (arith, ih.1) in (
      ap length i ∙ ap suc ih.0,
      omega (arith, ap degree i),
      ap rank_of i
          ∙ ap (λ (v : ℕ). lower (suc (length m)) v + rank_of m) s
          ∙ ap (λ (v : ℕ). lower (suc v) d + rank_of m) ih.0
          ∙ ap (λ (v : ℕ). lower (suc n) d + v) ih.2
          ∙ sym w,
    )
