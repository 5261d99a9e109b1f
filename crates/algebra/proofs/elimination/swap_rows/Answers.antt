use Rattle.std.proofs.Common.{◌+◌, ◌-◌, ◌*◌, arith}
use Rattle.algebra.proofs.Writes.{swapped_parts}
use Rattle.algebra.proofs.elimination.swap_rows.Goals as goal

pub returns-then-a-b : goal.returns-then-a-b
returns-then-a-b g c =
    let a = c.args in
    let p = c.split_at_mut-above in
    let s = c.swap_with_slice in
    swapped_parts g.F.Field.ops a.cols a.a a.b (a.a * a.cols + a.cols - a.a * a.cols) a.cells.now p.result.0.now p.result.1.now s.new.self s.new.other
    (omega arith) c.requires.within (omega arith) p.ensures.front p.ensures.back s.ensures.after s.ensures.other_after
