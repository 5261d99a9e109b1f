use Rattle.polynomials.proofs.Matrices.{ranks_suffice}
use Rattle.polynomials.proofs.theorems.ranks_suffice.Goals as goal

pub returns : goal.returns
returns g c = ranks_suffice g.F.Field.laws
