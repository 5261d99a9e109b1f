-- Sums over a field.
use Rattle.std.proofs.Common.{◌≡◌, ℕ, zero, suc, ◌<◌, ◌≤◌, cond, eqb, sym, refl, ap, ◌∙◌, inl, inr, arith}
use Rattle.std.proofs.lemmas.Bool.{cases_eq, eq-eqb, ne_eqb, cond-true, cond-false}
use Rattle.fields.specs.Field.{Ops, Laws}
use Rattle.algebra.specs.Linear.{sum}

module _ {F : Type 0} {o : Ops F} (laws : Laws o) where
  pub zero-add : (x : F) → o.add o.zero x ≡ x
  zero-add x = laws.add_comm o.zero x ∙ laws.add-zero x

  -- a sum has one way to be undone
  pub add_back : (x y : F) → o.add (o.add x y) y ≡ x
  add_back x y = laws.add_assoc x y y ∙ ap (o.add x) (laws.add_self y) ∙ laws.add-zero x

  pub cross : (a b c d : F) → o.add (o.add a b) (o.add c d) ≡ o.add (o.add a c) (o.add b d)
  cross a b c d = cc (laws.add_assoc a b (o.add c d), laws.add_assoc b c d, laws.add_comm b c, laws.add_assoc c b d, laws.add_assoc a c (o.add b d))

  -- x times zero: x z = x (z + z) = x z + x z = 0
  pub mul-zero : (x : F) → o.mul x o.zero ≡ o.zero
  mul-zero x = ap (o.mul x) (sym (laws.add-zero o.zero)) ∙ laws.mul-add x o.zero o.zero ∙ laws.add_self (o.mul x o.zero)

  pub zero-mul : (x : F) → o.mul o.zero x ≡ o.zero
  zero-mul x = laws.mul_comm o.zero x ∙ mul-zero x

  pub one-mul : (x : F) → o.mul o.one x ≡ x
  one-mul x = laws.mul_comm o.one x ∙ laws.mul-one x

  pub add-mul : (x y z : F) → o.mul (o.add x y) z ≡ o.add (o.mul x z) (o.mul y z)
  add-mul x y z = cc (laws.mul_comm (o.add x y) z, laws.mul-add z x y, laws.mul_comm z x, laws.mul_comm z y)

  pub sum_same : (n : ℕ) (f g : ℕ → F) → ((i : ℕ) → i < n → f i ≡ g i) → sum o n f ≡ sum o n g
  sum_same zero f g h = refl
  sum_same (suc n) f g h =
      let e = sum_same n f g (λ i l. h i (omega arith)) in
      let k : f n ≡ g n = h n (omega arith) in
      ap (λ s. o.add s (f n)) e ∙ ap (o.add (sum o n g)) k

  pub sum_zero : (n : ℕ) → sum o n (λ i. o.zero) ≡ o.zero
  sum_zero zero = refl
  sum_zero (suc n) = laws.add-zero (sum o n (λ i. o.zero)) ∙ sum_zero n

  pub sum_add : (n : ℕ) (f g : ℕ → F) → sum o n (λ i. o.add (f i) (g i)) ≡ o.add (sum o n f) (sum o n g)
  sum_add zero f g = sym (laws.add-zero o.zero)
  sum_add (suc n) f g = ap (λ s. o.add s (o.add (f n) (g n))) (sum_add n f g) ∙ cross (sum o n f) (sum o n g) (f n) (g n)

  pub sum_mul : (n : ℕ) (k : F) (f : ℕ → F) → sum o n (λ i. o.mul k (f i)) ≡ o.mul k (sum o n f)
  sum_mul zero k f = sym (mul-zero k)
  sum_mul (suc n) k f = ap (λ s. o.add s (o.mul k (f n))) (sum_mul n k f) ∙ sym (laws.mul-add k (sum o n f) (f n))

  pub sum_swap : (n m : ℕ) (f : ℕ → ℕ → F) → sum o n (λ i. sum o m (λ j. f i j)) ≡ sum o m (λ j. sum o n (λ i. f i j))
  sum_swap zero m f = sym (sum_zero m)
  sum_swap (suc n) m f = ap (λ s. o.add s (sum o m (λ j. f n j))) (sum_swap n m f) ∙ sym (sum_add m (λ j. sum o n (λ i. f i j)) (λ j. f n j))

  -- the weight of row r alone
  abbrev pub unit : ℕ → ℕ → F
  unit r i = cond (eqb i r) o.one o.zero

  pub unit_same : (r i : ℕ) → i ≡ r → unit r i ≡ o.one
  unit_same r i e = cond-true (eqb i r) o.one o.zero (eq-eqb i r e)

  pub unit_other : (r i : ℕ) → (i ≡ r → ⊥) → unit r i ≡ o.zero
  unit_other r i n = cond-false (eqb i r) o.one o.zero (ne_eqb i r n)

  pub sum_miss : (n r : ℕ) (f : ℕ → F) → n ≤ r → sum o n (λ i. o.mul (unit r i) (f i)) ≡ o.zero
  sum_miss n r f h =
      sum_same n (λ i. o.mul (unit r i) (f i)) (λ i. o.zero)
      (λ i l. ap (λ u. o.mul u (f i)) (unit_other r i (λ e. omega arith)) ∙ zero-mul (f i))
      ∙ sum_zero n

  pub sum_unit : (n r : ℕ) (f : ℕ → F) → r < n → sum o n (λ i. o.mul (unit r i) (f i)) ≡ f r
  sum_unit zero r f h = absurd (omega arith)
  sum_unit (suc n) r f h =
      elim (cases_eq n r) [
        | inl e ↦
            ap (λ s. o.add s (o.mul (unit r n) (f n))) (sum_miss n r f (omega arith))
            ∙ zero-add (o.mul (unit r n) (f n))
            ∙ ap (λ u. o.mul u (f n)) (unit_same r n e) ∙ one-mul (f n) ∙ ap f e
        | inr d ↦
            ap (λ s. o.add s (o.mul (unit r n) (f n))) (sum_unit n r f (omega arith))
            ∙ ap (λ u. o.add (f r) (o.mul u (f n))) (unit_other r n d)
            ∙ ap (o.add (f r)) (zero-mul (f n)) ∙ laws.add-zero (f r)
      ]
