-- The products of a degree d by number: each equation times each monomial of degree at most d, the equations in their order and
-- under each the monomials in theirs. A coefficient for each product number says what a list of multiples does.
-- Assumes nothing.
use Rattle.std.specs.Prelude.{◌≡◌, ℕ, zero, suc, ◌+◌, ◌*◌, ◌/◌, ◌%◌, ◌<◌, cond, List, [], ◌++◌, length, ◌==◌, slice_index_or}
use Rattle.fields.specs.Field.{Ops}
use Rattle.polynomials.specs.declared.term.Term.{Term}
use Rattle.polynomials.specs.Polynomial.{coefficient, Equal, scaled, times}
use Rattle.polynomials.specs.Monomial.{count, monomial_at}

-- product number p: with c monomials, equation p / c times the monomial of rank p % c
unfoldable pub product : {F : Type 0} → ℕ → ℕ → List (List (Term F)) → ℕ → List (Term F)
product n d equations p = times (monomial_at n d (p % count n d)) (slice_index_or equations (p / count n d) [])

-- how many products there are
abbrev pub products : {F : Type 0} → ℕ → ℕ → List (List (Term F)) → ℕ
products n d equations = length equations * count n d

module _ {F : Type 0} (o : Ops F) where
  -- x 0 times f 0, and so on up to k - 1, added up
  abbrev pub weighted : ℕ → (ℕ → F) → (ℕ → List (Term F)) → List (Term F)
  weighted zero x f = []
  weighted (suc k) x f = weighted k x f ++ scaled o (x k) (f k)

  -- the sum of all products, each by its coefficient in x
  unfoldable pub combination : ℕ → ℕ → List (List (Term F)) → (ℕ → F) → List (Term F)
  combination n d equations x = weighted (products n d equations) x (product n d equations)

  -- product p is a sum of multiples of lower-numbered products
  abbrev pub DependentProduct : ℕ → ℕ → List (List (Term F)) → ℕ → Type 0
  DependentProduct n d equations p = (y : ℕ → F) × Equal o (product n d equations p) (weighted p y (product n d equations))

  -- x is zero at every product that lower-numbered products make
  abbrev pub UsesIndependent : ℕ → ℕ → List (List (Term F)) → (ℕ → F) → Type 0
  UsesIndependent n d equations x = (p : ℕ) → p < products n d equations → DependentProduct n d equations p → x p ≡ o.zero

  -- the coefficient of product p at the monomial of rank r, which may have degree d + 3
  unfoldable pub entry : ℕ → ℕ → List (List (Term F)) → ℕ → ℕ → F
  entry n d equations r p = coefficient o (product n d equations p) (monomial_at n (d + 3) r)

  -- the coefficient of the polynomial one at the monomial of rank r
  abbrev pub target : ℕ → F
  target r = cond (r == 0) o.one o.zero
