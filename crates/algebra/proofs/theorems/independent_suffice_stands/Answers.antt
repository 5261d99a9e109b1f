use Rattle.algebra.proofs.Alternatives.{independent_suffice}
use Rattle.algebra.proofs.theorems.independent_suffice_stands.Goals as goal

pub returns : goal.returns
returns g c rows k m v = independent_suffice g.F.Field.laws rows k m v
