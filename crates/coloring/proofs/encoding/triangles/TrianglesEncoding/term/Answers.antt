use Rattle.std.proofs.Common.{◌≡◌, [], get_or, rules, sym, ap, ◌∙◌, arith}
use Rattle.std.specs.Option.{option_map_or}
use Rattle.graphs.specs.Graph.{joined}
use Rattle.coloring.specs.Absent.{absent}
use Rattle.coloring.specs.Added.{added_after}
use Rattle.coloring.specs.Equations.{squares}
use Rattle.coloring.specs.Reading.{each_or}
use Rattle.coloring.proofs.encoding.triangles.TrianglesEncoding.term.Goals as goal

pub returns : goal.returns
returns g c =
    let n = c.args.graph.now.vertices in
    let f = joined c.args.graph.now in
    let base = c.args.self.now.base in
    let one = g.E.Coeff.Field.ops.one in
    let none = absent g.E.Coeff.Field.ops in
    let told : c.map_or.result ≡ option_map_or (λ t. get_or (squares one t) c.args.index none) c.triangle.result none = search rules in
    let e = added_after one (g.E.Encoding.lists base n f) (g.E.Encoding.high base) n f c.args.equation c.count-below.result c.triangle.result c.count-below.ensures (omega arith) c.triangle.ensures in
    told ∙ each_or (λ z. get_or z c.args.index none) (squares one) c.triangle.result [] ∙ ap (λ z. get_or z c.args.index none) (sym e)
