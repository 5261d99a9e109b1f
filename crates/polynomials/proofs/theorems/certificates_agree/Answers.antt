use Rattle.polynomials.proofs.Independence.{certificates_agree}
use Rattle.polynomials.proofs.theorems.certificates_agree.Goals as goal

pub returns : goal.returns
returns g c = certificates_agree g.F.Field.laws g.G.Field.laws
