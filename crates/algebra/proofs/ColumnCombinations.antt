-- Combinations of columns: what combinations of the rows keep, and at most one representation by independent columns.
use Rattle.std.proofs.Common.{◌≡◌, ℕ, zero, suc, ◌<◌, ◌⊎◌, sym, ap, ◌∙◌, inl, inr, arith}
use Rattle.std.proofs.lemmas.Bool.{cases_eq}
use Rattle.fields.specs.Field.{Ops, Laws}
use Rattle.algebra.specs.Linear.{sum, Within, Represents, Dependent, OnIndependent}
use Rattle.algebra.proofs.Sums.{sum_same, sum_add, sum_mul, sum_swap, add-mul, zero-mul, zero-add, one-mul, add_back}

module _ {F : Type 0} {o : Ops F} (laws : Laws o) where
  -- the other factor first
  pub turn : (a b c : F) → o.mul a (o.mul b c) ≡ o.mul b (o.mul a c)
  turn a b c = sym (laws.mul_assoc a b c) ∙ ap (λ z. o.mul z c) (laws.mul_comm a b) ∙ laws.mul_assoc b a c

  pub sum_times : (n : ℕ) (f : ℕ → F) (k : F) → sum o n (λ i. o.mul (f i) k) ≡ o.mul (sum o n f) k
  sum_times n f k =
      sum_same laws n (λ i. o.mul (f i) k) (λ i. o.mul k (f i)) (λ i h. laws.mul_comm (f i) k)
      ∙ sum_mul laws n k f ∙ laws.mul_comm k (sum o n f)

  -- each element is its own negative
  pub cancel : (a b : F) → o.add a b ≡ o.zero → a ≡ b
  cancel a b e = sym (add_back laws a b) ∙ ap (λ z. o.add z b) e ∙ zero-add laws b

  pub zero_or_not : (x : F) → (x ≡ o.zero) ⊎ (x ≡ o.zero → ⊥)
  zero_or_not x = elim (cases_eq (o.code x) 0) [
    | inl e ↦ inl (laws.code_same x o.zero (e ∙ sym laws.code_zero))
    | inr n ↦ inr (λ e. n (ap o.code e ∙ laws.code_zero))
  ]

  -- a relation among columns holds among the same columns of each matrix whose rows are combinations of the rows
  pub represents_within : (rows cols k : ℕ) (m m' : ℕ → ℕ → F) (x : ℕ → F) → k < cols → Within o rows cols m m'
      → Represents o rows k m x (λ r. m r k) → Represents o rows k m' x (λ r. m' r k)
  represents_within rows cols k m m' x h p e r hr =
      let w = (p r hr).0 in
      (p r hr).1 k h
      ∙ sum_same laws rows (λ i. o.mul (w i) (m i k)) (λ i. sum o k (λ c. o.mul (x c) (o.mul (w i) (m i c))))
      (λ i hi.
      ap (o.mul (w i)) (e i hi)
      ∙ sym (sum_mul laws k (w i) (λ c. o.mul (x c) (m i c)))
      ∙ sum_same laws k (λ c. o.mul (w i) (o.mul (x c) (m i c))) (λ c. o.mul (x c) (o.mul (w i) (m i c))) (λ c hc. turn (w i) (x c) (m i c)))
      ∙ sum_swap laws rows k (λ i c. o.mul (x c) (o.mul (w i) (m i c)))
      ∙ sum_same laws k (λ c. sum o rows (λ i. o.mul (x c) (o.mul (w i) (m i c)))) (λ c. o.mul (x c) (m' r c))
      (λ c hc. sum_mul laws rows (x c) (λ i. o.mul (w i) (m i c)) ∙ ap (o.mul (x c)) (sym ((p r hr).1 c (omega arith))))

  module _ (rows : ℕ) (m : ℕ → ℕ → F) where
    -- a relation among columns whose last coefficient is not zero makes the last column dependent
    last_dependent : (k : ℕ) (z : ℕ → F) → ((r : ℕ) → r < rows → sum o (suc k) (λ c. o.mul (z c) (m r c)) ≡ o.zero) → (z k ≡ o.zero → ⊥) → Dependent o rows m k
    last_dependent k z e n =
        let i = o.inv (z k) in (
          (λ c. o.mul i (z c)),
          λ r hr.
              let s = sum o k (λ c. o.mul (z c) (m r c)) in
              sym (sum_same laws k (λ c. o.mul (o.mul i (z c)) (m r c)) (λ c. o.mul i (o.mul (z c) (m r c))) (λ c hc. laws.mul_assoc i (z c) (m r c))
              ∙ sum_mul laws k i (λ c. o.mul (z c) (m r c))
              ∙ ap (o.mul i) (cancel s (o.mul (z k) (m r k)) (e r hr))
              ∙ sym (laws.mul_assoc i (z k) (m r k))
              ∙ ap (λ u. o.mul u (m r k)) (laws.mul_comm i (z k) ∙ laws.mul-inv (z k) n)
              ∙ one-mul laws (m r k)),
        )

    -- a relation that is zero at the dependent columns is zero
    vanishes : (k : ℕ) (z : ℕ → F) → ((r : ℕ) → r < rows → sum o k (λ c. o.mul (z c) (m r c)) ≡ o.zero) → OnIndependent o rows k m z → (c : ℕ) → c < k → z c ≡ o.zero
    vanishes zero z e d c h = absurd (omega arith)
    vanishes (suc k) z e d c h =
        let here : z k ≡ o.zero = elim (zero_or_not (z k)) [ inl s ↦ s | inr n ↦ d k (omega arith) (last_dependent k z e n) ] in
        elim (cases_eq c k) [
          | inl s ↦ ap z s ∙ here
          | inr s ↦
              vanishes k z
              (λ r hr.
              let t = sum o k (λ c. o.mul (z c) (m r c)) in
              sym (laws.add-zero t) ∙ ap (o.add t) (sym (ap (λ u. o.mul u (m r k)) here ∙ zero-mul laws (m r k))) ∙ e r hr)
              (λ i l. d i (omega arith)) c (omega arith)
        ]

    pub unique : (k : ℕ) (v x y : ℕ → F) → Represents o rows k m x v → Represents o rows k m y v → OnIndependent o rows k m x → OnIndependent o rows k m y → (c : ℕ) → c < k → x c ≡ y c
    unique k v x y p q a b c h =
        let z : ℕ → F = λ c. o.add (x c) (y c) in
        cancel (x c) (y c)
        (vanishes k z
        (λ r hr.
        sum_same laws k (λ c. o.mul (z c) (m r c)) (λ c. o.add (o.mul (x c) (m r c)) (o.mul (y c) (m r c))) (λ c l. add-mul laws (x c) (y c) (m r c))
        ∙ sum_add laws k (λ c. o.mul (x c) (m r c)) (λ c. o.mul (y c) (m r c))
        ∙ ap (λ s. o.add s (sum o k (λ c. o.mul (y c) (m r c)))) (sym (p r hr))
        ∙ ap (o.add (v r)) (sym (q r hr))
        ∙ laws.add_self (v r))
        (λ i l d. ap (λ s. o.add s (y i)) (a i l d) ∙ ap (o.add o.zero) (b i l d) ∙ laws.add-zero o.zero)
        c h)
