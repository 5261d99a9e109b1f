use Rattle.std.proofs.Common.{ℕ}
use Rattle.algebra.specs.Grid.{cell, Kept}
use Rattle.algebra.specs.Reduced.{Reduced}
use Rattle.algebra.proofs.Reading.{Walk}
use Rattle.algebra.proofs.elimination.read_solution.Given as goal

abbrev pub invariant-loop-col : goal.invariant-loop-col
invariant-loop-col g l =
    let o = g.F.Field.ops in
    let xs = l.initial.cells in
    Kept o l.col xs l.cells × ((pivot : ℕ → ℕ) → Reduced o l.rows l.cols l.rank pivot (cell o xs l.cols) → Walk o l.cols l.rank pivot l.col l.row xs l.cells)
