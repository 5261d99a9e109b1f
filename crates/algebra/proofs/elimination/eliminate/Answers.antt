use Rattle.std.proofs.Common.{arith}
use Rattle.algebra.proofs.Progress.{state_none, state_skip, state_more, state_all}
use Rattle.algebra.proofs.elimination.eliminate.Goals as goal
use Rattle.algebra.proofs.elimination.eliminate.Goals.{then-reduce_column, else-reduce_column}

pub loop-col-init : goal.loop-col-init
loop-col-init g c = state_none g.F.Field.laws c.args.rows c.args.cols c.args.cells.now

pub loop-col-preserved : goal.loop-col-preserved
loop-col-preserved g c =
    let laws = g.F.Field.laws in
    let a = c.args in
    let l = c.loop-col in
    let j = c.if-reduce_column in
    let ys = l.cells in
    let zs = c.reduce_column.new.cells in
    elim j.branch [
      | then-reduce_column w ↦ state_more laws a.rows a.cols a.cells.now l.col l.rank j.rank ys zs w.rank-is (omega arith) l.invariant (c.reduce_column.ensures.found w.if-reduce_column.true)
      | else-reduce_column w ↦
          let n = c.reduce_column.ensures.none w.if-reduce_column.false in
          state_skip laws a.rows a.cols a.cells.now l.col l.rank j.rank ys zs w.rank-is n.0 n.1 l.invariant
    ]

pub returns : goal.returns
returns g c =
    let a = c.args in
    let l = c.loop-col in
    state_all g.F.Field.laws a.rows a.cols a.cells.now l.col l.rank l.cells (omega arith) c.requires.some_column (omega arith) l.invariant
