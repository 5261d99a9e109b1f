-- The pairs a + bα are a commutative ring.
use Rattle.std.proofs.Common.{◌≡◌, ℕ, zero, suc, ◌+◌, sym, ap, ◌∙◌, suc-add, zero-add}
use Rattle.fields.specs.Field.{Ops, Laws}
use Rattle.algebra.proofs.Sums.{zero-add as zero-plus, mul-zero, zero-mul, one-mul, add-mul}
use Rattle.polynomials.specs.Evaluation.{Pair, constant, zero_pair, one_pair, alpha, add_pairs, mul_pairs, power}
use Rattle.polynomials.specs.Theorems.{PairsAreRing}

pub pair : {F : Type 0} {u v a b : F} → u ≡ v → a ≡ b → ◌≡◌ {A = Pair F} (record { unit = u; alpha = a }) (record { unit = v; alpha = b })
pair p q i = record { unit = p i; alpha = q i }

module _ {F : Type 0} {o : Ops F} (laws : Laws o) where
  -- sums and products sorted: with these two and the laws, `simp` compares two expressions as polynomials
  pub add_left : (x y z : F) → o.add x (o.add y z) ≡ o.add y (o.add x z)
  add_left x y z = sym (laws.add_assoc x y z) ∙ ap (λ (s : F). o.add s z) (laws.add_comm x y) ∙ laws.add_assoc y x z

  pub mul_left : (x y z : F) → o.mul x (o.mul y z) ≡ o.mul y (o.mul x z)
  mul_left x y z = sym (laws.mul_assoc x y z) ∙ ap (λ (s : F). o.mul s z) (laws.mul_comm x y) ∙ laws.mul_assoc y x z

  pub pairs_add_comm : (x y : Pair F) → add_pairs o x y ≡ add_pairs o y x
  pairs_add_comm x y = pair (laws.add_comm x.unit y.unit) (laws.add_comm x.alpha y.alpha)

  pub pairs_mul_comm : (x y : Pair F) → mul_pairs o x y ≡ mul_pairs o y x
  pairs_mul_comm x y = pair (simp (laws.mul_comm, laws.add_comm)) (simp (laws.add_assoc, laws.add_comm, add_left, laws.mul_comm))

  pub pairs_mul_assoc : (x y z : Pair F) → mul_pairs o (mul_pairs o x y) z ≡ mul_pairs o x (mul_pairs o y z)
  pairs_mul_assoc x y z =
      pair
      (simp (laws.mul-add, add-mul laws, laws.add_assoc, laws.add_comm, add_left, laws.mul_assoc, laws.mul_comm, mul_left))
      (simp (laws.mul-add, add-mul laws, laws.add_assoc, laws.add_comm, add_left, laws.mul_assoc, laws.mul_comm, mul_left))

  pub pairs_mul_left : (x y z : Pair F) → mul_pairs o x (mul_pairs o y z) ≡ mul_pairs o y (mul_pairs o x z)
  pairs_mul_left x y z =
      sym (pairs_mul_assoc x y z) ∙ ap (λ (s : Pair F). mul_pairs o s z) (pairs_mul_comm x y) ∙ pairs_mul_assoc y x z

  pub pairs_mul_add : (x y z : Pair F) → mul_pairs o x (add_pairs o y z) ≡ add_pairs o (mul_pairs o x y) (mul_pairs o x z)
  pairs_mul_add x y z =
      pair (simp (laws.mul-add, laws.add_assoc, laws.add_comm, add_left)) (simp (laws.mul-add, laws.add_assoc, laws.add_comm, add_left))

  pub constant_mul : (k : F) (x : Pair F) → mul_pairs o (constant o k) x ≡ record { unit = o.mul k x.unit; alpha = o.mul k x.alpha }
  constant_mul k x =
      pair
      (simp (zero-mul laws, laws.add-zero))
      (simp (zero-mul laws, laws.add-zero))

  pub pairs_one_mul : (x : Pair F) → mul_pairs o (one_pair o) x ≡ x
  pairs_one_mul x = constant_mul o.one x ∙ pair (one-mul laws x.unit) (one-mul laws x.alpha)

  pub pairs_mul_zero : (x : Pair F) → mul_pairs o x (zero_pair o) ≡ zero_pair o
  pairs_mul_zero x = pair (simp (mul-zero laws, laws.add-zero)) (simp (mul-zero laws, laws.add-zero))

  pub pairs_zero_add : (x : Pair F) → add_pairs o (zero_pair o) x ≡ x
  pairs_zero_add x = pair (zero-plus laws x.unit) (zero-plus laws x.alpha)

  pub pairs_add_assoc : (x y z : Pair F) → add_pairs o (add_pairs o x y) z ≡ add_pairs o x (add_pairs o y z)
  pairs_add_assoc x y z = pair (laws.add_assoc x.unit y.unit z.unit) (laws.add_assoc x.alpha y.alpha z.alpha)

  pub one_not_zero_pair : one_pair o ≡ zero_pair o → ⊥
  one_not_zero_pair e = laws.one_not_zero (ap (λ (x : Pair F). x.unit) e)

  pub pairs_add_self : (x : Pair F) → add_pairs o x x ≡ zero_pair o
  pairs_add_self x = pair (laws.add_self x.unit) (laws.add_self x.alpha)

  pub alpha_square : mul_pairs o (alpha o) (alpha o) ≡ add_pairs o (alpha o) (one_pair o)
  alpha_square =
      pair
      (simp (zero-mul laws, laws.mul-one, zero-plus laws))
      (simp (zero-mul laws, mul-zero laws, laws.mul-one, laws.add-zero, zero-plus laws))

  -- the factors of two products, taken crosswise
  pub pairs_cross : (a b c d : Pair F) → mul_pairs o (mul_pairs o a b) (mul_pairs o c d) ≡ mul_pairs o (mul_pairs o a c) (mul_pairs o b d)
  pairs_cross a b c d =
      pairs_mul_assoc a b (mul_pairs o c d)
      ∙ ap (mul_pairs o a) (pairs_mul_left b c d)
      ∙ sym (pairs_mul_assoc a c (mul_pairs o b d))

  pub power_add : (x : Pair F) (j k : ℕ) → power o x (j + k) ≡ mul_pairs o (power o x j) (power o x k)
  power_add x zero k = ap (power o x) (zero-add k) ∙ sym (pairs_one_mul (power o x k))
  power_add x (suc j) k =
      ap (power o x) (suc-add j k)
      ∙ ap (mul_pairs o x) (power_add x j k)
      ∙ sym (pairs_mul_assoc x (power o x j) (power o x k))

  pub pairs_are_ring : PairsAreRing o
  pairs_are_ring = record {
    add_comm = pairs_add_comm;
    add_assoc = pairs_add_assoc;
    zero-add = pairs_zero_add;
    add_self = pairs_add_self;
    mul_comm = pairs_mul_comm;
    mul_assoc = pairs_mul_assoc;
    one-mul = pairs_one_mul;
    mul-add = pairs_mul_add;
    one_not_zero = one_not_zero_pair;
    square = alpha_square;
  }
