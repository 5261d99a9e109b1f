use Rattle.coloring.proofs.Alike.{triangles_alike}
use Rattle.coloring.proofs.theorems.triangles_alike.Goals as goal

pub returns : goal.returns
returns g c s t =
    triangles_alike g.E.Coeff.Field.ops g.D.Coeff.Field.ops (g.E.Encoding.lists s) (g.E.Encoding.high s) (g.D.Encoding.lists t) (g.D.Encoding.high t)
