use Rattle.coloring.proofs.Alike.{plain_alike}
use Rattle.coloring.proofs.theorems.plain_alike.Goals as goal

pub returns : goal.returns
returns g c = plain_alike g.F.Field.ops g.G.Field.ops
