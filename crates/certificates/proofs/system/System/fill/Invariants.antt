use Rattle.std.proofs.Common.{◌*◌}
use Rattle.algebra.specs.Grid.{Kept}
use Rattle.algebra.specs.Held.{held, Held}
use Rattle.coloring.specs.Encoding.{over}
use Rattle.certificates.specs.Matrix.{Begun}
use Rattle.certificates.proofs.system.System.fill.Given as goal

abbrev pub invariant-loop-equation : goal.invariant-loop-equation
invariant-loop-equation g l =
    Held l.initial.grid l.grid
    × Kept g.E.Coeff.Field.ops (l.initial.grid.rows * l.initial.grid.cols) (held l.initial.grid) (held l.grid)
    × Begun g.E.Coeff.Field.ops l.self.graph.now.vertices l.self.sizes.degree (over (g.E.Encoding.lists l.self.encoding.now) l.self.graph.now) (l.equation * l.self.sizes.multipliers) (held l.grid)
