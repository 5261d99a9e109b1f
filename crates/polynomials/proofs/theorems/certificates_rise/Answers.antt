use Rattle.polynomials.proofs.Certificates.{certificates_rise}
use Rattle.polynomials.proofs.theorems.certificates_rise.Goals as goal

pub returns : goal.returns
returns g c = certificates_rise g.F.Field.laws
