use Rattle.layout.proofs.Inverse.{inverse}
use Rattle.layout.proofs.theorems.bytes_stand.Goals as goal

pub returns : goal.returns
returns g c = inverse g.F.Field.laws
