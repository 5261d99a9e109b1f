use Rattle.polynomials.proofs.Certificates.{products_suffice}
use Rattle.polynomials.proofs.theorems.products_suffice.Goals as goal

pub returns : goal.returns
returns g c = products_suffice g.F.Field.laws
