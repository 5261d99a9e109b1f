use Rattle.nulla.proofs.Whole.{whole}
use Rattle.nulla.proofs.theorems.runs_stand.Goals as goal

pub returns : goal.returns
returns g c = λ s t.
    whole g.E.Coeff.Field.laws g.D.Coeff.Field.laws (g.E.Encoding.lists s) (g.D.Encoding.lists t) _ _ (g.met.E.Encoding.bounded s) (g.met.E.Encoding.lawful s) (g.met.D.Encoding.bounded t) (g.met.D.Encoding.lawful t)
