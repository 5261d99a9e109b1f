-- Combinations of rows.
use Rattle.std.proofs.Common.{◌≡◌, ℕ, zero, suc, ◌<◌, sym, ap, ◌∙◌, arith}
use Rattle.fields.specs.Field.{Ops, Laws}
use Rattle.algebra.specs.Linear.{sum, RowComb, Within}
use Rattle.algebra.proofs.Sums.{sum_same, sum_add, sum_mul, sum_zero, sum_unit, unit, add-mul, zero-mul}

module _ {F : Type 0} {o : Ops F} (laws : Laws o) (rows cols : ℕ) where
  pub comb_same : (m : ℕ → ℕ → F) (v u : ℕ → F) → ((c : ℕ) → c < cols → u c ≡ v c) → RowComb o rows cols m v → RowComb o rows cols m u
  comb_same m v u e p = (p.0, λ c h. e c h ∙ p.1 c h)

  pub comb_row : (m : ℕ → ℕ → F) (r : ℕ) → r < rows → RowComb o rows cols m (m r)
  comb_row m r h = (unit laws r, λ c l. sym (sum_unit laws rows r (λ i. m i c) h))

  pub comb_zero : (m : ℕ → ℕ → F) → RowComb o rows cols m (λ c. o.zero)
  comb_zero m = ((λ i. o.zero), λ c l. sym (sum_same laws rows (λ i. o.mul o.zero (m i c)) (λ i. o.zero) (λ i h. zero-mul laws (m i c)) ∙ sum_zero laws rows))

  pub comb_add : (m : ℕ → ℕ → F) (v u : ℕ → F) → RowComb o rows cols m v → RowComb o rows cols m u → RowComb o rows cols m (λ c. o.add (v c) (u c))
  comb_add m v u p q = (
    (λ i. o.add (p.0 i) (q.0 i)),
    λ c l.
        ap (λ s. o.add s (u c)) (p.1 c l) ∙ ap (o.add (sum o rows (λ i. o.mul (p.0 i) (m i c)))) (q.1 c l)
        ∙ sym (sum_same laws rows (λ i. o.mul (o.add (p.0 i) (q.0 i)) (m i c)) (λ i. o.add (o.mul (p.0 i) (m i c)) (o.mul (q.0 i) (m i c))) (λ i h. add-mul laws (p.0 i) (q.0 i) (m i c))
        ∙ sum_add laws rows (λ i. o.mul (p.0 i) (m i c)) (λ i. o.mul (q.0 i) (m i c))),
  )

  pub comb_mul : (m : ℕ → ℕ → F) (k : F) (v : ℕ → F) → RowComb o rows cols m v → RowComb o rows cols m (λ c. o.mul k (v c))
  comb_mul m k v p = (
    (λ i. o.mul k (p.0 i)),
    λ c l.
        ap (o.mul k) (p.1 c l)
        ∙ sym (sum_same laws rows (λ i. o.mul (o.mul k (p.0 i)) (m i c)) (λ i. o.mul k (o.mul (p.0 i) (m i c))) (λ i h. laws.mul_assoc k (p.0 i) (m i c))
        ∙ sum_mul laws rows k (λ i. o.mul (p.0 i) (m i c))),
  )

  comb_sum : (m : ℕ → ℕ → F) (n : ℕ) (w : ℕ → F) (u : ℕ → ℕ → F) → ((i : ℕ) → i < n → RowComb o rows cols m (u i)) → RowComb o rows cols m (λ c. sum o n (λ i. o.mul (w i) (u i c)))
  comb_sum m zero w u p = comb_zero m
  comb_sum m (suc n) w u p =
      comb_add m (λ c. sum o n (λ i. o.mul (w i) (u i c))) (λ c. o.mul (w n) (u n c))
      (comb_sum m n w u (λ i h. p i (omega arith))) (comb_mul m (w n) (u n) (p n (omega arith)))

  pub within_self : (m : ℕ → ℕ → F) → Within o rows cols m m
  within_self m r h = comb_row m r h

  pub within_trans : (a b d : ℕ → ℕ → F) → Within o rows cols a b → Within o rows cols b d → Within o rows cols a d
  within_trans a b d p q r h =
      comb_same a (λ c. sum o rows (λ i. o.mul ((q r h).0 i) (b i c))) (d r) (q r h).1 (comb_sum a rows (q r h).0 b p)
