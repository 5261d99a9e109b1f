-- What is said of a graph's equations at a degree: of a grid with their matrix, and of the memory in which a certificate is
-- looked for. Assumes nothing.
use Rattle.std.specs.Prelude.{◌≡◌, ℕ, ◌*◌, ◌<◌, Bool, List, Option, slice_index_or}
use Rattle.algebra.specs.declared.elimination.grid.Grid.{Grid}
use Rattle.algebra.specs.Held.{held, Roomy}
use Rattle.coloring.specs.declared.encoding.Encoding as encoding
use Rattle.coloring.specs.Encoding.{over}
use Rattle.fields.specs.declared.field.Field as field
use Rattle.polynomials.specs.declared.term.Term.{Term}
use Rattle.polynomials.specs.Monomial.{Monomial, monomial_at}
use Rattle.polynomials.specs.Product.{product}
use Rattle.certificates.specs.Matrix.{Summed, Begun, Filled}
use Rattle.certificates.specs.Outcome.{Decided, Sought}
use Rattle.certificates.specs.Summing.{Totals}
use Rattle.certificates.specs.declared.system.System.{System}

module _ {E F : Type 0} {e : encoding.Ghosts E F} {f : field.Ghosts F} (s : System E F e f) where
  -- the vertices, the degree, and the equations that the encoding lists for the graph
  abbrev pub vertices : ℕ
  vertices = s.graph.now.vertices

  abbrev pub degree : ℕ
  degree = s.sizes.degree

  abbrev pub equations : List (List (Term F))
  equations = over (e.lists s.encoding.now) s.graph.now

  -- a multiplier by its rank, and a product by its number
  abbrev pub multiplier_at : ℕ → List ℕ
  multiplier_at rank = monomial_at vertices degree rank

  abbrev pub product_at : ℕ → List (Term F)
  product_at number = product vertices degree equations number

  -- the exponents are those of a multiplier
  abbrev pub IsMultiplier : List ℕ → Type 0
  IsMultiplier m = Monomial vertices degree m

  -- the grid has room, and a row for each monomial that can occur
  pub record HasRows (grid : Grid F) : Type 0 where
    pub room : Roomy grid
    pub rows : grid.rows ≡ s.sizes.rows

  -- each cell of the grid is zero
  abbrev pub IsBlank : Grid F → Type 0
  IsBlank grid = (k : ℕ) → k < grid.rows * grid.cols → slice_index_or (held grid) k f.ops.zero ≡ f.ops.zero

  -- the polynomial p is added into a column, and nothing else in the grid has changed
  abbrev pub Adds : ℕ → List (Term F) → Grid F → Grid F → Type 0
  Adds column p before after = Summed f.ops vertices degree before.cols column p (held before) (held after)

  -- the first k columns of the grid have their products, the others nothing yet
  abbrev pub HasColumns : ℕ → Grid F → Type 0
  HasColumns k grid = Begun f.ops vertices degree equations k (held grid)

  -- the grid has the whole matrix
  abbrev pub IsFilled : Grid F → Type 0
  IsFilled grid = Filled f.ops vertices degree equations (held grid)

  -- the answer says whether a certificate exists, and the coefficients of the chosen one then stand in front of the table
  abbrev pub IsDecided : List F → Bool → Type 0
  IsDecided table answer = Decided f.ops vertices degree equations table answer

  -- the certificate is written and its length told, or there is none
  abbrev pub IsSought : List ℕ → Option ℕ → List ℕ → Type 0
  IsSought before found after = Sought f.ops vertices degree equations before found after

  -- the table begins with the sum of the first k products, each by the coefficient that the bytes give it
  abbrev pub HasTotals : List ℕ → ℕ → List F → Type 0
  HasTotals bytes k table = Totals f.ops vertices degree equations bytes k table
