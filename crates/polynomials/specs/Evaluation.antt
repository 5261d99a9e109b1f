-- The value of a polynomial at a point whose coordinates are pairs a + bα over the field, where α·α = α + 1.
-- The pairs are a commutative ring in which one is not zero; that they are a field is not needed. Assumes nothing.
use Rattle.std.specs.Prelude.{◌≡◌, ℕ, zero, suc, ◌<◌, List, [], ◌∷◌, length, slice_index_or}
use Rattle.fields.specs.Field.{Ops}
use Rattle.polynomials.specs.declared.term.Term.{Term}

-- unit + alpha·α
pub record Pair (F : Type 0) : Type 0 where
  pub unit : F
  pub alpha : F

module _ {F : Type 0} (o : Ops F) where
  -- an element of the field as a pair
  abbrev pub constant : F → Pair F
  constant a = record { unit = a; alpha = o.zero }

  abbrev pub zero_pair : Pair F
  zero_pair = constant o.zero

  abbrev pub one_pair : Pair F
  one_pair = constant o.one

  -- α itself
  abbrev pub alpha : Pair F
  alpha = record { unit = o.zero; alpha = o.one }

  abbrev pub add_pairs : Pair F → Pair F → Pair F
  add_pairs x y = record { unit = o.add x.unit y.unit; alpha = o.add x.alpha y.alpha }

  -- (u + aα)(v + bα) = (uv + ab) + (ub + av + ab)α
  abbrev pub mul_pairs : Pair F → Pair F → Pair F
  mul_pairs x y = record {
    unit = o.add (o.mul x.unit y.unit) (o.mul x.alpha y.alpha);
    alpha = o.add (o.add (o.mul x.unit y.alpha) (o.mul x.alpha y.unit)) (o.mul x.alpha y.alpha);
  }

  abbrev pub power : Pair F → ℕ → Pair F
  power x zero = one_pair
  power x (suc k) = mul_pairs x (power x k)

  -- the value of a monomial where variable i is x i
  abbrev pub monomial_value : (ℕ → Pair F) → List ℕ → Pair F
  monomial_value x [] = one_pair
  monomial_value x (e ∷ es) = mul_pairs (power (x 0) e) (monomial_value (λ i. x (suc i)) es)

  abbrev pub value : (ℕ → Pair F) → List (Term F) → Pair F
  value x [] = zero_pair
  value x (t ∷ p) = add_pairs (mul_pairs (constant t.coeff) (monomial_value x t.exponents)) (value x p)

  -- the point is a solution of each of the equations
  abbrev pub Solves : (ℕ → Pair F) → List (List (Term F)) → Type 0
  Solves x equations = (k : ℕ) → k < length equations → value x (slice_index_or equations k []) ≡ zero_pair
