use Rattle.std.proofs.Common.{◌+◌, ◌-◌, ◌*◌, ◌∙◌, ap, arith, rules}
use Rattle.algebra.proofs.Places.{part_read, part_long}
use Rattle.algebra.proofs.Writes.{scaled_part}
use Rattle.algebra.proofs.elimination.scale_row.Goals as goal

pub returns : goal.returns
returns g c =
    let o = g.F.Field.ops in
    let a = c.args in
    let at = a.row * a.cols in
    let n = at + a.cols - at in
    let long = part_long at n a.cells.now (omega arith) in
    scaled_part o a.cols a.row n a.factor a.cells.now c.loop-x.x-items (omega arith) c.requires (search rules)
    (λ k h. c.loop-x.invariant.done k (omega arith) ∙ ap (o.mul a.factor) (part_read at n a.cells.now o.zero k h))
