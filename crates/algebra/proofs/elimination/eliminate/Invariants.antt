use Rattle.algebra.proofs.Progress.{State}
use Rattle.algebra.proofs.elimination.eliminate.Given as goal

abbrev pub invariant-loop-col : goal.invariant-loop-col
invariant-loop-col g l = State g.F.Field.ops l.rows l.cols l.col l.rank l.initial.cells l.cells
