use Rattle.polynomials.proofs.Certificates.{certificates_stay}
use Rattle.polynomials.proofs.theorems.certificates_stay.Goals as goal

pub returns : goal.returns
returns g c = certificates_stay g.F.Field.laws
