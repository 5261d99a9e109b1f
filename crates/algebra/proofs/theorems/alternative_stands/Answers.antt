use Rattle.algebra.proofs.Alternatives.{alternative, never_both}
use Rattle.algebra.proofs.theorems.alternative_stands.Goals as goal

pub returns : goal.returns
returns g c rows k m v = (alternative g.F.Field.laws rows k m v, never_both g.F.Field.laws rows k m v)
