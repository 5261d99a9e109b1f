-- A grid over a slice that is lent to it: what the slice holds, whether it has room, and what a call on the grid reads or writes. Assumes nothing.
use Rattle.std.specs.Prelude.{◌≡◌, ℕ, ◌+◌, ◌*◌, ◌<◌, Bool, List, length, slice_set}
use Rattle.fields.specs.Field.{Ops}
use Rattle.algebra.specs.Grid.{cell, Fits, Blank}
use Rattle.algebra.specs.Reduced.{Reduced, Eliminated, Read, Solved}
use Rattle.algebra.specs.declared.elimination.grid.Grid.{Grid}

-- what the grid's slice holds
abbrev pub held : {F : Type 0} → Grid F → List F
held g = g.cells.now

-- the slice has room for the grid, which has a cell
abbrev pub Roomy : {F : Type 0} → Grid F → Type 0
Roomy g = Fits g.rows g.cols (length (held g))

-- a call leaves the grid over the slice that it was lent, with as many rows and columns
pub record Held {F : Type 0} (g h : Grid F) : Type 0 where
  pub lent : h.cells.ghost_name ≡ g.cells.ghost_name
  pub rows : h.rows ≡ g.rows
  pub cols : h.cols ≡ g.cols

-- the grid has such a row and such a column
pub record Inside {F : Type 0} (g : Grid F) (row col : ℕ) : Type 0 where
  pub room : Roomy g
  pub below : row < g.rows
  pub left : col < g.cols

-- x is the cell of the row and the column, or zero where there is none
pub record Got {F : Type 0} (o : Ops F) (g : Grid F) (row col : ℕ) (x : F) : Type 0 where
  pub inside : Inside g row col → x ≡ cell o (held g) g.cols row col
  pub outside : (Inside g row col → ⊥) → x ≡ o.zero

-- the cell of the row and the column has become x, and no other has changed; where there is none, nothing has
pub record Put {F : Type 0} (g h : Grid F) (row col : ℕ) (x : F) : Type 0 where
  pub inside : Inside g row col → held h ≡ slice_set (held g) (row * g.cols + col) x
  pub outside : (Inside g row col → ⊥) → held h ≡ held g

-- no cell of the slice has changed
abbrev pub Untouched : {F : Type 0} → Grid F → Grid F → Type 0
Untouched g h = held h ≡ held g

-- the grid's cells are zero, and those past it as they were
abbrev pub BlankGrid : {F : Type 0} → Ops F → Grid F → Grid F → Type 0
BlankGrid o g h = Blank o (g.rows * g.cols) (held g) (held h)

-- the grid's rows are in reduced form
abbrev pub EliminatedGrid : {F : Type 0} → Ops F → Grid F → Grid F → ℕ → Type 0
EliminatedGrid o g h rank = Eliminated o g.rows g.cols rank (held g) (held h)

-- the last column of reduced rows is read into the first row
abbrev pub ReadGrid : {F : Type 0} → Ops F → Grid F → Grid F → ℕ → Bool → Type 0
ReadGrid o g h rank answer =
    (pivot : ℕ → ℕ) → Reduced o g.rows g.cols rank pivot (cell o (held g) g.cols) → Read o g.rows g.cols rank pivot (held g) (held h) answer

-- the grid's last column is given by the others, or is no combination of them
abbrev pub SolvedGrid : {F : Type 0} → Ops F → Grid F → Grid F → Bool → Type 0
SolvedGrid o g h answer = Solved o g.rows g.cols (held g) (held h) answer
