use Rattle.polynomials.proofs.Matrices.{one_is_unity}
use Rattle.polynomials.proofs.theorems.one_is_unity.Goals as goal

pub returns : goal.returns
returns g c = one_is_unity g.F.Field.laws
