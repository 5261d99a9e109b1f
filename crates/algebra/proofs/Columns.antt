-- The columns of reduced rows: the pivots' columns are independent, and give each of the others.
use Rattle.std.proofs.Common.{◌≡◌, ℕ, zero, suc, ◌<◌, ◌⊎◌, sym, refl, ap, ◌∙◌, subst, inl, inr, arith}
use Rattle.std.proofs.lemmas.Bool.{cases_eq, cases_lt, cases_order}
use Rattle.fields.specs.Field.{Ops, Laws}
use Rattle.algebra.specs.Linear.{sum, Represents, Dependent}
use Rattle.algebra.specs.Reduced.{Reduced}
use Rattle.algebra.proofs.Sums.{sum_same, sum_zero, sum_mul, sum_swap, sum_unit, sum_miss, unit, unit_same, unit_other, mul-zero, zero-mul}
use Rattle.algebra.proofs.ColumnCombinations.{sum_times}

-- whether some number below n is sent to d
pub seek : (n : ℕ) (f : ℕ → ℕ) (d : ℕ) → ((q : ℕ) × ((q < n) × (f q ≡ d))) ⊎ ((q : ℕ) → q < n → f q ≡ d → ⊥)
seek zero f d = inr (λ q h e. omega arith)
seek (suc n) f d =
    elim (cases_eq (f n) d) [
      | inl e ↦ inl (n, (omega arith, e))
      | inr w ↦ elim (seek n f d) [
        | inl p ↦ inl (p.0, (omega (arith, p.1.0), p.1.1))
        | inr u ↦ inr (λ q h e. elim (cases_eq q n) [ inl s ↦ w (ap f (sym s) ∙ e) | inr s ↦ u q (omega arith) e ])
      ]
    ]

module _ {F : Type 0} {o : Ops F} (laws : Laws o) (rows cols rank : ℕ) (pivot : ℕ → ℕ) (m : ℕ → ℕ → F) (p : Reduced o rows cols rank pivot m) where
  -- each column is the sum of the pivots' columns, each by the cell of its row
  spanned : (r c : ℕ) → r < rows → c < cols → m r c ≡ sum o rank (λ q. o.mul (m q c) (m r (pivot q)))
  spanned r c h l =
      let swapped = sum_same laws rank (λ q. o.mul (m q c) (m r (pivot q))) (λ q. o.mul (unit laws r q) (m q c))
      (λ q k.
      laws.mul_comm (m q c) (m r (pivot q))
      ∙ ap (λ z. o.mul z (m q c))
      (elim (cases_eq q r) [
        | inl e ↦ subst (λ (s : ℕ). m s (pivot q) ≡ unit laws s q) e (p.one q k ∙ sym (unit_same laws q q refl))
        | inr n ↦ p.zeros q r k h (λ e. n (sym e)) ∙ sym (unit_other laws r q n)
      ])) in
      elim (cases_lt r rank) [
        | inl k ↦ sym (swapped ∙ sum_unit laws rank r (λ q. m q c) k)
        | inr k ↦ p.rest r c k h l ∙ sym (swapped ∙ sum_miss laws rank r (λ q. m q c) k)
      ]

  pub pivot_independent : (q : ℕ) → q < rank → Dependent o rows m (pivot q) → ⊥
  pivot_independent q h d =
      let x = d.0 in
      let nothing =
      sum_same laws (pivot q) (λ c. o.mul (x c) (m q c)) (λ c. o.zero) (λ c l. ap (o.mul (x c)) (p.leading q c h l) ∙ mul-zero laws (x c))
      ∙ sum_zero laws (pivot q) in
      laws.one_not_zero (sym (p.one q h) ∙ d.1 q (omega (arith, p.small)) ∙ nothing)

  -- the coefficients that give the column c: at a pivot's column the cell of its row
  abbrev pub coefficient : ℕ → ℕ → F
  coefficient c d = sum o rank (λ q. o.mul (m q c) (unit laws (pivot q) d))

  apart : (q s : ℕ) → q < rank → s < rank → pivot q ≡ pivot s → q ≡ s
  apart q s h l e = elim (cases_order q s) [
    | inl w ↦ w
    | inr w ↦ elim w [ inl k ↦ absurd (omega (arith, p.rising q s k l)) | inr k ↦ absurd (omega (arith, p.rising s q k h)) ]
  ]

  pub coefficient_there : (c s : ℕ) → s < rank → coefficient c (pivot s) ≡ m s c
  coefficient_there c s h =
      sum_same laws rank (λ q. o.mul (m q c) (unit laws (pivot q) (pivot s))) (λ q. o.mul (unit laws s q) (m q c))
      (λ q l.
      laws.mul_comm (m q c) (unit laws (pivot q) (pivot s))
      ∙ ap (λ u. o.mul u (m q c))
      (elim (cases_eq q s) [
        | inl e ↦ unit_same laws (pivot q) (pivot s) (ap pivot (sym e)) ∙ sym (unit_same laws s q e)
        | inr n ↦ unit_other laws (pivot q) (pivot s) (λ e. n (apart q s l h (sym e))) ∙ sym (unit_other laws s q n)
      ]))
      ∙ sum_unit laws rank s (λ q. m q c) h

  pub coefficient_elsewhere : (c d : ℕ) → ((q : ℕ) → q < rank → pivot q ≡ d → ⊥) → coefficient c d ≡ o.zero
  coefficient_elsewhere c d n =
      sum_same laws rank (λ q. o.mul (m q c) (unit laws (pivot q) d)) (λ q. o.zero)
      (λ q l. ap (o.mul (m q c)) (unit_other laws (pivot q) d (λ e. n q l (sym e))) ∙ mul-zero laws (m q c))
      ∙ sum_zero laws rank

  pub coefficients_give : (c : ℕ) → c < cols → ((q : ℕ) → q < rank → pivot q ≡ c → ⊥) → Represents o rows c m (coefficient c) (λ r. m r c)
  coefficients_give c h n r hr =
      spanned r c hr h
      ∙ sum_same laws rank (λ q. o.mul (m q c) (m r (pivot q))) (λ q. sum o c (λ d. o.mul (m q c) (o.mul (unit laws (pivot q) d) (m r d))))
      (λ q l.
      sym (sum_mul laws c (m q c) (λ d. o.mul (unit laws (pivot q) d) (m r d))
      ∙ elim (cases_lt (pivot q) c) [
        | inl k ↦ ap (o.mul (m q c)) (sum_unit laws c (pivot q) (λ d. m r d) k)
        | inr k ↦
            let later : c < pivot q = elim (cases_eq (pivot q) c) [ inl e ↦ absurd (n q l e) | inr w ↦ omega arith ] in
            let nothing = p.leading q c l later in
            ap (λ z. o.mul z (sum o c (λ d. o.mul (unit laws (pivot q) d) (m r d)))) nothing
            ∙ zero-mul laws (sum o c (λ d. o.mul (unit laws (pivot q) d) (m r d)))
            ∙ sym (ap (λ z. o.mul z (m r (pivot q))) nothing ∙ zero-mul laws (m r (pivot q)))
      ]))
      ∙ sum_swap laws rank c (λ q d. o.mul (m q c) (o.mul (unit laws (pivot q) d) (m r d)))
      ∙ sum_same laws c (λ d. sum o rank (λ q. o.mul (m q c) (o.mul (unit laws (pivot q) d) (m r d)))) (λ d. o.mul (coefficient c d) (m r d))
      (λ d l.
      sum_same laws rank (λ q. o.mul (m q c) (o.mul (unit laws (pivot q) d) (m r d))) (λ q. o.mul (o.mul (m q c) (unit laws (pivot q) d)) (m r d))
      (λ q k. sym (laws.mul_assoc (m q c) (unit laws (pivot q) d) (m r d)))
      ∙ sum_times laws rank (λ q. o.mul (m q c) (unit laws (pivot q) d)) (m r d))
