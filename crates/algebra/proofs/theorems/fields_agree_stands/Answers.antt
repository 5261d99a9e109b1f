use Rattle.algebra.proofs.ZerosAndOnes.{agree}
use Rattle.algebra.proofs.theorems.fields_agree_stands.Goals as goal

pub returns : goal.returns
returns g c = agree g.F.Field.laws g.G.Field.laws
