use Rattle.algebra.proofs.Clearing.{RowsBefore}
use Rattle.algebra.proofs.elimination.clear_rows.Given as goal

abbrev pub invariant-loop-row : goal.invariant-loop-row
invariant-loop-row g l = RowsBefore g.F.Field.ops l.cols l.col l.row l.source l.initial.cells l.cells
