use Rattle.std.proofs.Common.{◌≡◌, ◌≤◌}
use Rattle.nulla.specs.State.{state_of}
use Rattle.families.specs.Building.{Reaches}
use Rattle.families.proofs.solvers.build.Given as goal

abbrev pub invariant-loop-vertex : goal.invariant-loop-vertex
invariant-loop-vertex g l =
    Reaches l.family l.vertex l.vertex 0 (state_of l.solver) × (l.vertex ≤ 24) × (l.solver.encoding ≡ l.initial.solver.encoding)
