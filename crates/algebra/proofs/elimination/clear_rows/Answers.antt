use Rattle.std.proofs.Common.{◌+◌, ◌-◌, ◌*◌, length, arith, rules}
use Rattle.algebra.proofs.Places.{row_in, part_read, part_long}
use Rattle.algebra.proofs.Clearing.{rows_before_more}
use Rattle.algebra.proofs.elimination.clear_rows.Goals as goal

pub offset_bounds-cells-row : goal.offset_bounds-cells-row
offset_bounds-cells-row g c = let b = row_in c.loop-row.row (length c.args.cells.now) (length c.args.source.now) c.loop-row-test.true in search rules

pub loop-row-preserved : goal.loop-row-preserved
loop-row-preserved g c =
    let o = g.F.Field.ops in
    let a = c.args in
    let l = c.loop-row in
    let cols = length a.source.now in
    let at = l.row * cols in
    let n = at + cols - at in
    let b = row_in l.row (length a.cells.now) cols c.loop-row-test.true in
    rows_before_more o cols a.col l.row a.source.now a.cells.now l.cells c.clear_cell.new.target n (omega arith) (omega arith) (search rules) c.requires.column
    (λ i m.
    let x = part_read at n l.cells o.zero i (omega arith) in
    let y = part_read at n l.cells o.zero a.col (omega (arith, c.requires.column)) in
    let e = c.clear_cell.ensures i (omega (arith, part_long at n l.cells (omega arith))) in cc)
    l.invariant
