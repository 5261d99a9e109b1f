use Rattle.algebra.proofs.ColumnCombinations.{unique}
use Rattle.algebra.proofs.theorems.one_representation_stands.Goals as goal

pub returns : goal.returns
returns g c rows k m v x y p a q b = unique g.F.Field.laws rows m k v x y p q a b
