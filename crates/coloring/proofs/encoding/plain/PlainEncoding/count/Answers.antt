use Rattle.std.proofs.Common.{arith}
use Rattle.graphs.specs.Graph.{joined}
use Rattle.coloring.specs.Bounds.{pairs_few}
use Rattle.coloring.specs.Reading.{length_plain}
use Rattle.coloring.proofs.encoding.plain.PlainEncoding.count.Goals as goal

pub overflow_add-result : goal.overflow_add-result
overflow_add-result g c = let e = pairs_few (joined c.args.graph.now) c.args.graph.now.vertices c.args.graph.now.few in omega (arith, e)

pub returns : goal.returns
returns g c = let e = length_plain g.F.Field.ops.one c.args.graph.now.vertices (joined c.args.graph.now) in omega (arith, e)
