use Rattle.coloring.proofs.Certified.{certificates_grow}
use Rattle.coloring.proofs.theorems.certificates_grow.Goals as goal

pub returns : goal.returns
returns g c s = certificates_grow g.E.Coeff.Field.laws (g.E.Encoding.lists s) (g.met.E.Encoding.lawful s)
