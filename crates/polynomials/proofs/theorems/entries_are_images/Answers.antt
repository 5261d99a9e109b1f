use Rattle.polynomials.proofs.Images.{entries_are_images}
use Rattle.polynomials.proofs.theorems.entries_are_images.Goals as goal

pub returns : goal.returns
returns g c = entries_are_images g.F.Field.laws
