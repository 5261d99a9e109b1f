use Rattle.std.proofs.Common.{◌∙◌, length-set}
use Rattle.graphs.proofs.Same.{wide_set}
use Rattle.graphs.proofs.graph.trial.Trial.drop.Goals as goal

pub invariant_of-graph : goal.invariant_of-graph
invariant_of-graph c =
    let g = c.args.self.graph.now in
    record { few = g.few; full = length-set _ _ _ ∙ g.full; wide = wide_set _ _ _ g.full g.wide c.args.self.wide }
