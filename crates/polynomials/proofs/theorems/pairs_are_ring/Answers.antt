use Rattle.polynomials.proofs.Pairs.{pairs_are_ring}
use Rattle.polynomials.proofs.theorems.pairs_are_ring.Goals as goal

pub returns : goal.returns
returns g c = pairs_are_ring g.F.Field.laws
