-- The matrix of a degree d in a list of cells: a row for each monomial that can occur, a column for each product, and a last
-- column for the polynomial one. Assumes nothing.
use Rattle.std.specs.Prelude.{◌≡◌, ℕ, ◌+◌, ◌*◌, ◌<◌, ◌≤◌, List, ◌≢◌}
use Rattle.fields.specs.Field.{Ops}
use Rattle.algebra.specs.Grid.{cell, Kept}
use Rattle.polynomials.specs.declared.term.Term.{Term}
use Rattle.polynomials.specs.Polynomial.{coefficient}
use Rattle.polynomials.specs.Monomial.{count, monomial_at}
use Rattle.polynomials.specs.Product.{products, entry, target}

module _ {F : Type 0} (o : Ops F) (n d : ℕ) where
  -- ys is xs with the coefficients of the polynomial p added into a column, each in the row of its monomial
  pub record Summed (cols column : ℕ) (p : List (Term F)) (xs ys : List F) : Type 0 where
    pub there : (r : ℕ) → r < count n (d + 3) → cell o ys cols r column ≡ o.add (cell o xs cols r column) (coefficient o p (monomial_at n (d + 3) r))
    pub others : (r c : ℕ) → (c ≢ column) → c < cols → cell o ys cols r c ≡ cell o xs cols r c
    pub kept : Kept o (count n (d + 3) * cols) xs ys

  module _ (equations : List (List (Term F))) where
    -- the first k columns have their products, the others nothing yet
    pub record Begun (k : ℕ) (xs : List F) : Type 0 where
      pub done : (r p : ℕ) → r < count n (d + 3) → p < k → cell o xs (products n d equations + 1) r p ≡ entry o n d equations r p
      pub left : (r p : ℕ) → r < count n (d + 3) → k ≤ p → p ≤ products n d equations → cell o xs (products n d equations + 1) r p ≡ o.zero

    -- each column has its product, and the last has the polynomial one
    pub record Filled (xs : List F) : Type 0 where
      pub columns : (r p : ℕ) → r < count n (d + 3) → p < products n d equations → cell o xs (products n d equations + 1) r p ≡ entry o n d equations r p
      pub last : (r : ℕ) → r < count n (d + 3) → cell o xs (products n d equations + 1) r (products n d equations) ≡ target o r
