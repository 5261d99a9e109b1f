use Rattle.std.proofs.Common.{◌≡◌, ℕ, ◌+◌, ◌-◌, ◌*◌, ◌<◌, eqb, length, subst, arith, rules}
use Rattle.std.proofs.lemmas.List.{get_or_read}
use Rattle.std.proofs.lemmas.Bool.{eqb-true, eqb-false}
use Rattle.algebra.specs.Grid.{Kept}
use Rattle.algebra.proofs.Places.{row_before}
use Rattle.algebra.proofs.Reading.{Walk, kept_none, kept_more, walk_none, walk_found, walk_skip, walk_all}
use Rattle.algebra.proofs.elimination.read_solution.Goals as goal
use Rattle.algebra.proofs.elimination.read_solution.Goals.{then-begins_at, else-begins_at}

pub loop-col-init : goal.loop-col-init
loop-col-init g c = (
  kept_none g.F.Field.ops c.args.cells.now,
  λ pivot reduced. walk_none g.F.Field.laws c.args.rows c.args.cols c.args.rank pivot c.args.cells.now reduced,
)

pub offset_bounds-cells-row : goal.offset_bounds-cells-row
offset_bounds-cells-row g c =
    let h = (c.begins_at.ensures.yes c.if-begins_at.true).0 in
    let b = row_before c.loop-col.row c.args.rows c.args.cols (omega arith) in search rules

pub loop-col-preserved : goal.loop-col-preserved
loop-col-preserved g c =
    let laws = g.F.Field.laws in
    let o = g.F.Field.ops in
    let a = c.args in
    let l = c.loop-col in
    let first = row_before 0 a.rows a.cols c.requires.fits.some_row in
    let inside : l.col < length l.cells = omega arith in
    elim c.if-begins_at.branch [
      | then-begins_at w ↦
          let f = c.begins_at.ensures.yes w.if-begins_at.true in
          let h : l.row < a.rank = f.0 in
          let b = row_before l.row a.rows a.cols (omega arith) in
          let k = get_or_read l.cells (l.row * a.cols + (a.cols - 1)) w.index-cells-row.result (omega arith) w.index-cells-row.is o.zero in
          rw (w.cells-is, w.row-is) (
            kept_more o l.col a.cells.now l.cells w.index-cells-row.result l.invariant.0,
            λ pivot reduced. walk_found laws a.rows a.cols a.rank pivot a.cells.now reduced
                l.col l.row l.cells w.index-cells-row.result (omega arith) inside h f.1 k (l.invariant.1 pivot reduced),
          )
      | else-begins_at w ↦
          rw (w.cells-is, w.row-is) (
            kept_more o l.col a.cells.now l.cells w.zero.result l.invariant.0,
            λ pivot reduced. walk_skip laws a.rows a.cols a.rank pivot a.cells.now reduced
                l.col l.row l.cells w.zero.result inside (c.begins_at.ensures.no w.if-begins_at.false) w.zero.ensures (l.invariant.1 pivot reduced),
          )
    ]

pub returns : goal.returns
returns g c =
    let o = g.F.Field.ops in
    let a = c.args in
    let l = c.loop-col in
    let e : l.col ≡ a.cols - 1 = omega arith in
    record {
      kept = subst (λ (n : ℕ). Kept o n a.cells.now l.cells) e l.invariant.0;
      read = λ pivot reduced.
          walk_all g.F.Field.laws a.rows a.cols a.rank pivot a.cells.now reduced l.row l.cells (eqb l.row a.rank)
          (eqb-true l.row a.rank) (eqb-false l.row a.rank)
          (subst (λ (n : ℕ). Walk o a.cols a.rank pivot n l.row a.cells.now l.cells) e (l.invariant.1 pivot reduced));
    }
