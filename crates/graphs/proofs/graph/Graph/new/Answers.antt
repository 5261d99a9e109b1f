use Rattle.std.proofs.Common.{refl}
use Rattle.graphs.proofs.Flags.{none_joined}
use Rattle.graphs.proofs.graph.Graph.new.Goals as goal

pub returns : goal.returns
returns c = record { vertices = refl; pairs = none_joined }
