-- The sum of the products, each by the coefficient that a certificate's bytes give it, in a list of cells of one column.
-- n vertices, degree d, and the equations that an encoding lists. Assumes nothing.
use Rattle.std.specs.Prelude.{◌≡◌, ℕ, ◌+◌, ◌<◌, List, length, slice_index_or}
use Rattle.fields.specs.Field.{Ops}
use Rattle.algebra.specs.Grid.{cell}
use Rattle.polynomials.specs.declared.term.Term.{Term}
use Rattle.polynomials.specs.Polynomial.{coefficient}
use Rattle.polynomials.specs.Monomial.{count, monomial_at}
use Rattle.polynomials.specs.Product.{product, products, weighted, target}
use Rattle.layout.specs.Reading.{Means}

-- each row has the coefficient, at its monomial, of the sum of the first k products
abbrev pub Totals : {F : Type 0} → Ops F → ℕ → ℕ → List (List (Term F)) → List ℕ → ℕ → List F → Type 0
Totals {F} o n d equations bytes k xs =
    (x : ℕ → F) → Means o (products n d equations) bytes x → (r : ℕ) → r < count n (d + 3)
    → cell o xs 1 r 0 ≡ coefficient o (weighted o k x (product n d equations)) (monomial_at n (d + 3) r)

-- the cells are the coefficients of the polynomial one
abbrev pub Unity : {F : Type 0} → Ops F → List F → Type 0
Unity o xs = (r : ℕ) → r < length xs → slice_index_or xs r o.zero ≡ target o r
