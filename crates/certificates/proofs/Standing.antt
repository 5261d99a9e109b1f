-- The bits of a certificate's map one after the other, and what a check of its bits and codes finds. Assumes nothing.
use Rattle.std.proofs.Common.{◌≡◌, ℕ, zero, suc, ◌+◌, ◌<◌, ◌≤◌, Bool, true, false, cond, ◌||◌, List, [], ◌∷◌, length, Decides, sym, refl, ap, ◌∙◌, inl, inr, add-one, arith}
use Rattle.std.specs.List.{filter, list_any, range_with_len}
use Rattle.std.proofs.lemmas.Bool.{cases_Bool, cases_eq, cases_lt, cond-true, cond-false, false≢true}
use Rattle.layout.specs.Length.{map_bytes}
use Rattle.layout.specs.Reading.{byte, stands, before, code_at}
use Rattle.certificates.specs.Checking.{BadCode}

module _ (p : ℕ → Bool) where
  counted : (x : ℕ) (xs : List ℕ) → length (filter p (x ∷ xs)) ≡ cond (p x) 1 0 + length (filter p xs)
  counted x xs = elim (cases_Bool (p x)) [
    | inl t ↦
        let one : ◌≡◌ {A = ℕ} (cond (p x) 1 0) 1 = cond-true (p x) 1 0 t in
        ap length (cond-true (p x) (x ∷ filter p xs) (filter p xs) t) ∙ omega (arith, one)
    | inr f ↦
        let none : ◌≡◌ {A = ℕ} (cond (p x) 1 0) 0 = cond-false (p x) 1 0 f in
        ap length (cond-false (p x) (x ∷ filter p xs) (filter p xs) f) ∙ omega (arith, none)
  ]

  -- how many numbers of a range pass a test, with one number more
  counted_more : (a n : ℕ) → length (filter p (range_with_len a (suc n))) ≡ length (filter p (range_with_len a n)) + cond (p (a + n)) 1 0
  counted_more a zero =
      let same : a + 0 ≡ a = omega arith in
      counted a [] ∙ ap (λ (k : ℕ). cond (p k) 1 0 + 0) (sym same) ∙ omega arith
  counted_more a (suc n) =
      let same : (a + 1) + n ≡ a + suc n = omega arith in
      let last : ◌≡◌ {A = ℕ} (cond (p ((a + 1) + n)) 1 0) (cond (p (a + suc n)) 1 0) = ap (λ (k : ℕ). cond (p k) 1 0) same in
      counted a (range_with_len (a + 1) (suc n)) ∙ omega (arith, counted_more (a + 1) n, counted a (range_with_len (a + 1) n), last)

  -- whether a number of a range passes a test
  pub any_of_range : (a n : ℕ) → Decides (list_any p (range_with_len a n)) ((k : ℕ) × (a ≤ k) × (k < a + n) × (p k ≡ true))
  any_of_range a zero = ((λ e. absurd (false≢true e)), λ w. absurd (omega (arith, w.1, w.2)))
  any_of_range a (suc n) =
      let rest = any_of_range (a + 1) n in
      let more = list_any p (range_with_len (a + 1) n) in
      elim (cases_Bool (p a)) [
        | inl t ↦ ((λ e. (a, omega arith, omega arith, t)), λ w. ap (λ (b : Bool). b || more) t)
        | inr f ↦ (
          (λ e. let w = rest.0 (sym (ap (λ (b : Bool). b || more) f) ∙ e) in (w.0, omega (arith, w.1), omega (arith, w.2), w.3)),
          λ (k, lo, hi, t). ap (λ (b : Bool). b || more) f ∙ elim (cases_eq a k) [
            | inl e ↦ absurd (false≢true (sym f ∙ ap p e ∙ t))
            | inr e ↦ rest.1 (k, omega arith, omega arith, t)
          ],
        )
      ]

module _ (bytes : List ℕ) where
  pub before_counts : (k : ℕ) → length (filter (stands bytes) (range_with_len 0 k)) ≡ before bytes k
  unfolding before
  before_counts zero = refl
  before_counts (suc k) =
      let same : 0 + k ≡ k = omega arith in
      let last : ◌≡◌ {A = ℕ} (cond (stands bytes (0 + k)) 1 0) (cond (stands bytes k) 1 0) = ap (λ (j : ℕ). cond (stands bytes j) 1 0) same in
      counted_more (stands bytes) 0 k ∙ omega (arith, before_counts k, last)

  pub before_none : before bytes 0 ≡ 0
  unfolding before
  before_none = refl

  pub before_more : (k : ℕ) (v : Bool) → v ≡ stands bytes k → before bytes (k + 1) ≡ before bytes k + cond v 1 0
  unfolding before
  before_more k v e = rw (add-one k) (ap (λ (t : Bool). before bytes k + cond t 1 0) (sym e))

  weight : (b : Bool) → cond b 1 0 ≤ 1
  weight true = omega arith
  weight false = omega arith

  -- at most as many stand as there are
  pub before_most : (k : ℕ) → before bytes k ≤ k
  unfolding before
  before_most zero = omega arith
  before_most (suc k) = omega (arith, before_most k, weight (stands bytes k))

  -- one that stands counts among those before a later one
  pub before_below : (k p : ℕ) → k < p → stands bytes k ≡ true → before bytes k < before bytes p
  unfolding before
  before_below k zero h s = absurd (omega arith)
  before_below k (suc p) h s = elim (cases_lt k p) [
    | inl l ↦ omega (arith, before_below k p l s)
    | inr l ↦
        let e : k ≡ p = omega arith in
        let once : ◌≡◌ {A = ℕ} (cond (stands bytes p) 1 0) 1 = cond-true (stands bytes p) 1 0 (ap (stands bytes) (sym e) ∙ s) in
        omega (arith, ap (before bytes) e, once)
  ]

  -- where no byte behind the map is 0 or no code, the code of each product that stands is one
  pub codes_below : (order p : ℕ) → length bytes ≡ 6 + map_bytes p + before bytes p → (BadCode order p bytes → ⊥) → (k : ℕ) → k < p → stands bytes k ≡ true → code_at bytes p k < order
  codes_below order p long good k h s =
      let place = 6 + map_bytes p + before bytes k in
      let inside : place < length bytes = omega (arith, before_below k p h s) in
      elim (cases_lt (byte bytes place) order) [ inl l ↦ l | inr l ↦ absurd (good (place, omega arith, inside, inr l)) ]
