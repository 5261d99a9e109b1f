use Rattle.std.proofs.Common.{arith}
use Rattle.graphs.specs.Graph.{joined}
use Rattle.coloring.specs.Added.{triangles_few}
use Rattle.coloring.proofs.encoding.triangles.TrianglesEncoding.count.Goals as goal

pub overflow_add-result : goal.overflow_add-result
overflow_add-result g c =
    let n = c.args.graph.now.vertices in
    let f = joined c.args.graph.now in
    let law = g.met.E.Encoding.bounded c.args.self.now.base in
    let few = triangles_few f n c.args.graph.now.few in
    omega (arith, few, law.small, law.count n f c.args.graph.now.few)
