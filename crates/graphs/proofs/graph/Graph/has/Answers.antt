use Rattle.std.proofs.Common.{arith}
use Rattle.graphs.proofs.Flags.{flag_outside}
use Rattle.graphs.proofs.graph.Graph.has.Goals as goal

pub returns-else-j-lt-LIMIT : goal.returns-else-j-lt-LIMIT
returns-else-j-lt-LIMIT c =
    let graph = c.args.self.now in
    let outside = flag_outside graph.rows c.args.i c.args.j graph.full graph.wide (λ h. omega (arith, c.if-j-lt-LIMIT.either)) in grind (arith, outside)
