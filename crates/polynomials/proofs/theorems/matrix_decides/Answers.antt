use Rattle.polynomials.proofs.Certificates.{matrix_decides}
use Rattle.polynomials.proofs.theorems.matrix_decides.Goals as goal

pub returns : goal.returns
returns g c = matrix_decides g.F.Field.laws
