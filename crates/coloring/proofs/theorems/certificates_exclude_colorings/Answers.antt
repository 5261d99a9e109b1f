use Rattle.coloring.proofs.Certified.{no_coloring}
use Rattle.coloring.proofs.theorems.certificates_exclude_colorings.Goals as goal

pub returns : goal.returns
returns g c s = no_coloring g.E.Coeff.Field.laws (g.E.Encoding.lists s) (g.met.E.Encoding.lawful s)
