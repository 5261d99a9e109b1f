use Rattle.std.proofs.Common.{[], get_or, take}
use Rattle.algebra.specs.Held.{held, Held}
use Rattle.coloring.specs.Encoding.{over}
use Rattle.polynomials.specs.Polynomial.{scaled, times}
use Rattle.certificates.specs.Matrix.{Summed}
use Rattle.certificates.proofs.system.System.add_product.Given as goal

abbrev pub invariant-loop-index : goal.invariant-loop-index
invariant-loop-index g l =
    Held l.initial.grid l.grid
    × Summed g.E.Coeff.Field.ops l.self.graph.now.vertices l.self.sizes.degree l.initial.grid.cols l.column (take l.index (scaled g.E.Coeff.Field.ops l.factor (times l.monomial (get_or (over (g.E.Encoding.lists l.self.encoding.now) l.self.graph.now) l.equation [])))) (held l.initial.grid) (held l.grid)
