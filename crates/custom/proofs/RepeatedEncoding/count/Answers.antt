use Rattle.std.proofs.Common.{◌*◌, sym, ap, ◌∙◌, arith}
use Rattle.graphs.specs.Graph.{joined}
use Rattle.coloring.specs.Bounds.{plain_bounded}
use Rattle.custom.specs.Again.{double}
use Rattle.custom.proofs.RepeatedEncoding.count.Goals as goal

pub overflow_mul-result : goal.overflow_mul-result
overflow_mul-result g c =
    let graph = c.args.graph.now in
    omega (arith, c.count.ensures, (plain_bounded g.F.Field.ops g.F.Field.laws).count graph.vertices (joined graph) graph.few)

pub returns : goal.returns
returns g c = ap (λ n. 2 * n) c.count.ensures ∙ sym (double _)
