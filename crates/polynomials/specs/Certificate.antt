-- Sums of multiples of equations. A certificate of degree d is a list of multiples, each a coefficient times a monomial of degree at most d
-- times a listed equation, that add up to the polynomial one. No point can be a solution of all the equations then.
-- Assumes nothing.
use Rattle.std.specs.Prelude.{ℕ, ◌<◌, List, [], ◌∷◌, ◌++◌, length, slice_index_or}
use Rattle.std.specs.List.{AllByRecursion}
use Rattle.fields.specs.Field.{Ops}
use Rattle.polynomials.specs.declared.term.Term.{Term}
use Rattle.polynomials.specs.Polynomial.{Equal, IsOne, scaled, times}
use Rattle.polynomials.specs.Monomial.{Monomial}

-- a coefficient, the exponents of a monomial, and the number of an equation
pub record Multiple (F : Type 0) : Type 0 where
  pub coeff : F
  pub multiplier : List ℕ
  pub equation : ℕ

-- the multiplier is a monomial in n variables of degree at most d, and the equation is listed
pub record Allowed {F : Type 0} (n d : ℕ) (equations : List (List (Term F))) (m : Multiple F) : Type 0 where
  pub monomial : Monomial n d m.multiplier
  pub listed : m.equation < length equations

module _ {F : Type 0} (o : Ops F) where
  -- the polynomial that a multiple stands for
  abbrev pub multiple : List (List (Term F)) → Multiple F → List (Term F)
  multiple equations m = scaled o m.coeff (times m.multiplier (slice_index_or equations m.equation []))

  -- the sum of the multiples
  abbrev pub total : List (List (Term F)) → List (Multiple F) → List (Term F)
  total equations [] = []
  total equations (m ∷ ms) = multiple equations m ++ total equations ms

  -- ms is a certificate of degree d
  pub record Certificate (n d : ℕ) (equations : List (List (Term F))) (ms : List (Multiple F)) : Type 0 where
    pub allowed : AllByRecursion (Allowed n d equations) ms
    pub sums : IsOne o (total equations ms)

  -- there is a certificate of degree d
  abbrev pub Certified : ℕ → ℕ → List (List (Term F)) → Type 0
  Certified n d equations = (ms : List (Multiple F)) × Certificate n d equations ms

  -- q is one of the equations
  abbrev pub Listed : List (List (Term F)) → List (Term F) → Type 0
  Listed equations q = (k : ℕ) × (k < length equations) × Equal o (slice_index_or equations k []) q

  -- each of the equations is one of the others
  abbrev pub AllListed : List (List (Term F)) → List (List (Term F)) → Type 0
  AllListed equations others = (k : ℕ) → k < length equations → Listed others (slice_index_or equations k [])
