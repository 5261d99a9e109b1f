use Rattle.nulla.proofs.Once.{one_outcome}
use Rattle.nulla.proofs.theorems.one_outcome.Goals as goal

pub returns : goal.returns
returns g c = λ s. one_outcome g.E.Coeff.Field.laws (g.E.Encoding.lists s)
