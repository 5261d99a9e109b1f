use Rattle.std.proofs.Common.{◌≡◌, ◌+◌}
use Rattle.nulla.specs.State.{state_of}
use Rattle.families.specs.Building.{Reaches}
use Rattle.families.proofs.solvers.join_below.Given as goal

abbrev pub invariant-loop-lower : goal.invariant-loop-lower
invariant-loop-lower g l =
    Reaches l.family (l.vertex + 1) l.vertex l.lower (state_of l.solver) × (l.solver.encoding ≡ l.initial.solver.encoding)
