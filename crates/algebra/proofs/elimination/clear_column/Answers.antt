use Rattle.std.proofs.Common.{ℕ, ◌-◌, ◌*◌, ◌≤◌, length, get_or, take, sym, ap, subst, ◌∙◌, arith}
use Rattle.std.proofs.lemmas.List.{length-take-le}
use Rattle.algebra.specs.Grid.{ClearedRows}
use Rattle.algebra.proofs.Places.{rows_below, part_read}
use Rattle.algebra.proofs.Clearing.{cleared_parts}
use Rattle.algebra.proofs.elimination.clear_column.Goals as goal

pub slice_bounds-clear_rows-end : goal.slice_bounds-clear_rows-end
slice_bounds-clear_rows-end g c =
    let a = c.args in
    omega (arith, rows_below a.rows a.cols a.row c.requires.row, c.requires.within, c.split_at_mut-above.ensures.back_len, c.split_at_mut-source.ensures.back_len)

pub slice_bounds-clear_rows-end-2 : goal.slice_bounds-clear_rows-end-2
slice_bounds-clear_rows-end-2 g c =
    let a = c.args in
    sym (length-take-le _ _ (omega (arith, rows_below a.rows a.cols a.row c.requires.row, c.requires.within, c.split_at_mut-above.ensures.back_len, c.split_at_mut-source.ensures.back_len)))

pub clear_rows-requires-2-clause-blank : goal.clear_rows-requires-2-clause-blank
clear_rows-requires-2-clause-blank g c = λ i h.
    let o = g.F.Field.ops in
    let a = c.args in
    ap (λ l. get_or l i o.zero) (c.split_at_mut-source.ensures.front ∙ ap (take a.cols) c.split_at_mut-above.ensures.back)
    ∙ part_read (a.row * a.cols) a.cols a.cells.now o.zero i (omega (arith, c.requires.column)) ∙ c.requires.blank i h

pub returns : goal.returns
returns g c =
    let o = g.F.Field.ops in
    let a = c.args in
    let p = c.split_at_mut-above in
    let q = c.split_at_mut-source in
    let n = (a.rows - a.row - 1) * a.cols in
    let within : n ≤ length q.result.1.now = omega (arith, rows_below a.rows a.cols a.row c.requires.row, c.requires.within, p.ensures.back_len, q.ensures.back_len) in
    let b = length-take-le n q.result.1.now within in
    cleared_parts g.F.Field.laws a.rows a.cols a.row a.col a.cells.now p.result.0.now c.clear_rows.new.cells q.result.0.now p.result.1.now q.result.1.now c.clear_rows-2.new.cells
    c.requires.row c.requires.column c.requires.one
    p.ensures.front_len (c.clear_rows.auto.cells ∙ p.ensures.front_len) q.ensures.front_len b (c.clear_rows-2.auto.cells ∙ b) p.ensures.value q.ensures.value
    (subst (λ (m : ℕ). ClearedRows o m a.col q.result.0.now p.result.0.now c.clear_rows.new.cells) q.ensures.front_len c.clear_rows.ensures)
    (subst (λ (m : ℕ). ClearedRows o m a.col q.result.0.now (take n q.result.1.now) c.clear_rows-2.new.cells) q.ensures.front_len c.clear_rows-2.ensures)
