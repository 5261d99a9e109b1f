-- The values of equations at colors: over every field they are what they are over bits, where they are computed.
use Rattle.std.specs.Prelude.{◌≡◌, ℕ, zero, suc, ◌<◌, set, ◌≢◌, refl}
use Rattle.std.proofs.Common.{sym, ap, ◌∙◌, arith}
use Rattle.fields.specs.Bit.{bit_ops}
use Rattle.fields.specs.Field.{Ops, Laws}
use Rattle.fields.specs.declared.bit.Bit.{Bit}
use Rattle.coloring.specs.Pairs.{Pair}
use Rattle.coloring.specs.Three.{Three as Triangle}
use Rattle.coloring.specs.Coloring.{Color, first, second, third}
use Rattle.coloring.specs.Equations.{cube, edge, squares}
use Rattle.coloring.specs.Roots.{root}
use Rattle.polynomials.specs.Evaluation.{Pair as Value, zero_pair, one_pair, alpha, add_pairs, mul_pairs, power, monomial_value, value}
use Rattle.polynomials.specs.Image.{image}
use Rattle.polynomials.specs.Polynomial.{zeros}
use Rattle.polynomials.proofs.Images.{entries_are_images}
use Rattle.polynomials.proofs.Pairs.{pair, pairs_mul_comm, pairs_one_mul}
use Rattle.polynomials.proofs.Values.{monomial_value_none, monomial_value_set}
use Rattle.coloring.specs.Exponents.{zero_at, power_wide, power_other}

cube_bits : (x : Color) → add_pairs bit_ops (power bit_ops (root bit_ops x) 3) (add_pairs bit_ops (one_pair bit_ops) (zero_pair bit_ops)) ≡ zero_pair bit_ops
cube_bits first = refl
cube_bits second = refl
cube_bits third = refl

edge_bits : (x y : Color) → (x ≢ y) → add_pairs bit_ops (power bit_ops (root bit_ops x) 2) (add_pairs bit_ops (mul_pairs bit_ops (root bit_ops x) (root bit_ops y)) (add_pairs bit_ops (power bit_ops (root bit_ops y) 2) (zero_pair bit_ops))) ≡ zero_pair bit_ops
edge_bits first first n = absurd (n refl)
edge_bits first second n = refl
edge_bits first third n = refl
edge_bits second first n = refl
edge_bits second second n = absurd (n refl)
edge_bits second third n = refl
edge_bits third first n = refl
edge_bits third second n = refl
edge_bits third third n = absurd (n refl)

squares_bits : (x y z : Color) → (x ≢ y) → (x ≢ z) → (y ≢ z) → add_pairs bit_ops (power bit_ops (root bit_ops x) 2) (add_pairs bit_ops (power bit_ops (root bit_ops y) 2) (add_pairs bit_ops (power bit_ops (root bit_ops z) 2) (zero_pair bit_ops))) ≡ zero_pair bit_ops
squares_bits first first z p q r = absurd (p refl)
squares_bits second second z p q r = absurd (p refl)
squares_bits third third z p q r = absurd (p refl)
squares_bits first second first p q r = absurd (q refl)
squares_bits first second second p q r = absurd (r refl)
squares_bits first second third p q r = refl
squares_bits first third first p q r = absurd (q refl)
squares_bits first third second p q r = refl
squares_bits first third third p q r = absurd (r refl)
squares_bits second first first p q r = absurd (r refl)
squares_bits second first second p q r = absurd (q refl)
squares_bits second first third p q r = refl
squares_bits second third first p q r = refl
squares_bits second third second p q r = absurd (q refl)
squares_bits second third third p q r = absurd (r refl)
squares_bits third first first p q r = absurd (r refl)
squares_bits third first second p q r = refl
squares_bits third first third p q r = absurd (q refl)
squares_bits third second first p q r = refl
squares_bits third second second p q r = absurd (r refl)
squares_bits third second third p q r = absurd (q refl)

module _ {C : Type 0} (o : Ops C) (laws : Laws o) where
  add_both : {x y z w : Value C} → x ≡ z → y ≡ w → add_pairs o x y ≡ add_pairs o z w
  add_both p q i = add_pairs o (p i) (q i)

  mul_both : {x y z w : Value C} → x ≡ z → y ≡ w → mul_pairs o x y ≡ mul_pairs o z w
  mul_both p q i = mul_pairs o (p i) (q i)

  mul-one : (x : Value C) → mul_pairs o x (one_pair o) ≡ x
  mul-one x = pairs_mul_comm laws x (one_pair o) ∙ pairs_one_mul laws x

  -- the value that a value over bits stands for
  abbrev lifted : Value Bit → Value C
  lifted x = record { unit = image o x.unit; alpha = image o x.alpha }

  sum_of : {a b : C} (x y : Bit) → a ≡ image o x → b ≡ image o y → o.add a b ≡ image o (bit_ops.add x y)
  sum_of x y p q = (λ i. o.add (p i) (q i)) ∙ sym ((entries_are_images laws).add x y)

  lifted_add : (x y : Value Bit) → add_pairs o (lifted x) (lifted y) ≡ lifted (add_pairs bit_ops x y)
  lifted_add x y = pair (sum_of x.unit y.unit refl refl) (sum_of x.alpha y.alpha refl refl)

  lifted_mul : (x y : Value Bit) → mul_pairs o (lifted x) (lifted y) ≡ lifted (mul_pairs bit_ops x y)
  lifted_mul x y =
      let product = λ (a b : Bit). sym ((entries_are_images laws).mul a b) in
      let a = product x.unit y.unit in
      let b = product x.alpha y.alpha in
      let c = product x.unit y.alpha in
      let d = product x.alpha y.unit in
      pair (sum_of _ _ a b) (sum_of _ _ (sum_of _ _ c d) b)

  lifted_power : (x : Value Bit) (e : ℕ) → power o (lifted x) e ≡ lifted (power bit_ops x e)
  lifted_power x zero = refl
  lifted_power x (suc e) = ap (mul_pairs o (lifted x)) (lifted_power x e) ∙ lifted_mul x (power bit_ops x e)

  lifted_root : (x : Color) → root o x ≡ lifted (root bit_ops x)
  lifted_root first = refl
  lifted_root second = refl
  lifted_root third = lifted_add (alpha bit_ops) (one_pair bit_ops)

  power_of : (x : Color) (e : ℕ) → power o (root o x) e ≡ lifted (power bit_ops (root bit_ops x) e)
  power_of x e = ap (λ z. power o z e) (lifted_root x) ∙ lifted_power (root bit_ops x) e

  sum_two : (x y : Value Bit) → add_pairs o (lifted x) (add_pairs o (lifted y) (zero_pair o)) ≡ lifted (add_pairs bit_ops x (add_pairs bit_ops y (zero_pair bit_ops)))
  sum_two x y = ap (add_pairs o (lifted x)) (lifted_add y (zero_pair bit_ops)) ∙ lifted_add x (add_pairs bit_ops y (zero_pair bit_ops))

  sum_three : (x y z : Value Bit) → add_pairs o (lifted x) (add_pairs o (lifted y) (add_pairs o (lifted z) (zero_pair o))) ≡ lifted (add_pairs bit_ops x (add_pairs bit_ops y (add_pairs bit_ops z (zero_pair bit_ops))))
  sum_three x y z = ap (add_pairs o (lifted x)) (sum_two y z) ∙ lifted_add x (add_pairs bit_ops y (add_pairs bit_ops z (zero_pair bit_ops)))

  cube_root : (x : Color) → add_pairs o (power o (root o x) 3) (add_pairs o (one_pair o) (zero_pair o)) ≡ zero_pair o
  cube_root x = add_both (power_of x 3) refl ∙ sum_two _ (one_pair bit_ops) ∙ ap lifted (cube_bits x)

  edge_root : (x y : Color) → (x ≢ y) → add_pairs o (power o (root o x) 2) (add_pairs o (mul_pairs o (root o x) (root o y)) (add_pairs o (power o (root o y) 2) (zero_pair o))) ≡ zero_pair o
  edge_root x y n =
      let t : mul_pairs o (root o x) (root o y) ≡ lifted (mul_pairs bit_ops (root bit_ops x) (root bit_ops y)) = mul_both (lifted_root x) (lifted_root y) ∙ lifted_mul _ _ in
      add_both (power_of x 2) (add_both t (add_both (power_of y 2) refl)) ∙ sum_three _ _ _ ∙ ap lifted (edge_bits x y n)

  squares_root : (x y z : Color) → (x ≢ y) → (x ≢ z) → (y ≢ z) → add_pairs o (power o (root o x) 2) (add_pairs o (power o (root o y) 2) (add_pairs o (power o (root o z) 2) (zero_pair o))) ≡ zero_pair o
  squares_root x y z p q r =
      add_both (power_of x 2) (add_both (power_of y 2) (add_both (power_of z 2) refl)) ∙ sum_three _ _ _ ∙ ap lifted (squares_bits x y z p q r)

  -- monomials in one variable and in two
  monomial_power : (x : ℕ → Value C) (i e : ℕ) → i < 24 → monomial_value o x (set zeros i e) ≡ power o (x i) e
  monomial_power x i e h =
      monomial_value_set laws x zeros i e h (zero_at i)
      ∙ ap (mul_pairs o (power o (x i) e)) (monomial_value_none laws x 24)
      ∙ mul-one (power o (x i) e)

  monomial_product : (x : ℕ → Value C) (i j : ℕ) → i < j → j < 24 → monomial_value o x (set (set zeros i 1) j 1) ≡ mul_pairs o (x i) (x j)
  monomial_product x i j h l =
      monomial_value_set laws x (set zeros i 1) j 1 (let w = power_wide i 1 in omega (arith, w)) (power_other i 1 j (λ q. omega (arith, q)))
      ∙ mul_both (mul-one (x j)) (monomial_power x i 1 (omega arith) ∙ mul-one (x i))
      ∙ pairs_mul_comm laws (x j) (x i)

  module _ (c : ℕ → Color) where
    -- the value of a term with the coefficient one
    term_power : (i e : ℕ) → i < 24 → mul_pairs o (one_pair o) (monomial_value o (λ k. root o (c k)) (set zeros i e)) ≡ power o (root o (c i)) e
    term_power i e h = pairs_one_mul laws _ ∙ monomial_power (λ k. root o (c k)) i e h

    pub cube_vanishes : (i : ℕ) → i < 24 → value o (λ k. root o (c k)) (cube o.one i) ≡ zero_pair o
    cube_vanishes i h =
        add_both (term_power i 3 h) (add_both (pairs_one_mul laws _ ∙ monomial_value_none laws (λ k. root o (c k)) 24) refl) ∙ cube_root (c i)

    pub edge_vanishes : (p : Pair) → p.low < p.high → p.high < 24 → (c p.low ≢ c p.high) → value o (λ k. root o (c k)) (edge o.one p) ≡ zero_pair o
    edge_vanishes p a b n =
        add_both (term_power p.low 2 (omega arith))
        (add_both (pairs_one_mul laws _ ∙ monomial_product (λ k. root o (c k)) p.low p.high a b) (add_both (term_power p.high 2 b) refl))
        ∙ edge_root (c p.low) (c p.high) n

    pub squares_vanish : (t : Triangle) → t.low < 24 → t.middle < 24 → t.high < 24 → (c t.low ≢ c t.middle) → (c t.low ≢ c t.high) → (c t.middle ≢ c t.high) → value o (λ k. root o (c k)) (squares o.one t) ≡ zero_pair o
    squares_vanish t i j k p q r =
        add_both (term_power t.low 2 i) (add_both (term_power t.middle 2 j) (add_both (term_power t.high 2 k) refl))
        ∙ squares_root (c t.low) (c t.middle) (c t.high) p q r
