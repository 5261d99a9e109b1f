use Rattle.polynomials.proofs.Independence.{certificates_independent}
use Rattle.polynomials.proofs.theorems.certificates_independent.Goals as goal

pub returns : goal.returns
returns g c = certificates_independent g.F.Field.laws
