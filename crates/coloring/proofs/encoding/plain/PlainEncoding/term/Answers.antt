use Rattle.std.proofs.Common.{◌≡◌, [], get_or, rules, sym, ap, ◌∙◌, arith}
use Rattle.std.specs.Option.{option_map_or}
use Rattle.graphs.specs.Graph.{joined}
use Rattle.coloring.specs.Absent.{absent}
use Rattle.coloring.specs.Equations.{edge}
use Rattle.coloring.specs.Pairs.{ends}
use Rattle.coloring.specs.Reading.{plain_cube, plain_after, each_or}
use Rattle.coloring.proofs.encoding.plain.PlainEncoding.term.Goals as goal

pub returns-then-equation-n : goal.returns-then-equation-n
returns-then-equation-n g c =
    let e = plain_cube g.F.Field.ops.one c.args.graph.now.vertices (joined c.args.graph.now) c.args.equation (omega arith) in
    c.cube_term.ensures ∙ ap (λ z. get_or z c.args.index (absent g.F.Field.ops)) (sym e)

pub returns : goal.returns
returns g c =
    let one = g.F.Field.ops.one in
    let told : c.map_or.result ≡ option_map_or (λ e. get_or (edge one (ends e)) c.args.index (absent g.F.Field.ops)) c.find_pair.result (absent g.F.Field.ops) = search rules in
    let e = plain_after one c.args.graph.now.vertices (joined c.args.graph.now) c.args.equation c.from-n.result c.find_pair.result (search rules) (omega arith) c.find_pair.ensures in
    told ∙ each_or (λ z. get_or z c.args.index (absent g.F.Field.ops)) (λ e. edge one (ends e)) c.find_pair.result [] ∙ ap (λ z. get_or z c.args.index (absent g.F.Field.ops)) (sym e)
