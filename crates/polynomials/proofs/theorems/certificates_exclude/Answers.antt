use Rattle.polynomials.proofs.Values.{certificates_exclude}
use Rattle.polynomials.proofs.theorems.certificates_exclude.Goals as goal

pub returns : goal.returns
returns g c = certificates_exclude g.F.Field.laws
