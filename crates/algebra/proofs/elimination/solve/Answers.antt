use Rattle.algebra.proofs.Solving.{solved}
use Rattle.algebra.proofs.elimination.solve.Goals as goal

pub returns : goal.returns
returns g c =
    let a = c.args in
    let e = c.eliminate-rank in
    let r = c.read_solution in
    solved g.F.Field.laws a.rows a.cols e.result a.cells.now e.new.cells e.ensures r.new.cells r.result c.requires
    (r.ensures.read e.ensures.pivot e.ensures.reduced)
