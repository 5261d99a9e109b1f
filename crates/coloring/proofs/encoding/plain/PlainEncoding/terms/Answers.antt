use Rattle.std.proofs.Common.{◌≡◌, [], length, rules, sym, ap, ◌∙◌, arith}
use Rattle.std.specs.Option.{option_map_or}
use Rattle.graphs.specs.Graph.{joined}
use Rattle.coloring.specs.Equations.{edge}
use Rattle.coloring.specs.Pairs.{ends}
use Rattle.coloring.specs.Reading.{plain_cube, plain_after, each_or}
use Rattle.coloring.proofs.encoding.plain.PlainEncoding.terms.Goals as goal

pub returns-then-equation-n : goal.returns-then-equation-n
returns-then-equation-n g c =
    sym (ap length (plain_cube g.F.Field.ops.one c.args.graph.now.vertices (joined c.args.graph.now) c.args.equation (omega arith)))

pub returns : goal.returns
returns g c =
    let one = g.F.Field.ops.one in
    let told : c.map_or.result ≡ option_map_or (λ e. length (edge one (ends e))) c.find_pair.result 0 = search rules in
    let e = plain_after one c.args.graph.now.vertices (joined c.args.graph.now) c.args.equation c.from-n.result c.find_pair.result (search rules) (omega arith) c.find_pair.ensures in
    told ∙ each_or length (λ e. edge one (ends e)) c.find_pair.result [] ∙ ap length (sym e)
