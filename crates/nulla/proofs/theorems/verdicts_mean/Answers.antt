use Rattle.nulla.proofs.Meaning.{verdicts_mean}
use Rattle.nulla.proofs.theorems.verdicts_mean.Goals as goal

pub returns : goal.returns
returns g c = λ s. verdicts_mean g.E.Coeff.Field.laws (g.E.Encoding.lists s) (g.met.E.Encoding.lawful s)
