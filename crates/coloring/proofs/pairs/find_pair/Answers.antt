use Rattle.std.proofs.Common.{◌≡◌, ℕ, ◌<◌, min, max, length, Option, Some, None, MatchOption, option_map, sym, ap, ◌∙◌, arith}
use Rattle.std.specs.List.{slice_get}
use Rattle.graphs.specs.declared.edge.Edge.{Edge}
use Rattle.graphs.specs.Graph.{joined}
use Rattle.coloring.specs.Pairs.{ends, two, upto, pair, row, pairs}
use Rattle.coloring.specs.Numbering.{row_start, row_there, row_not, rows_more, pair_found}
use Rattle.std.proofs.lemmas.Option.{slice_get_past}
use Rattle.coloring.proofs.pairs.find_pair.Goals as goal
use Rattle.coloring.proofs.pairs.find_pair.Goals.{then-has+else-seen-wanted, else-has}

-- the edge between two vertices that are given in order has them as its ends
between_ends : (o : Option Edge) (a b i j : ℕ) → a ≡ i → b ≡ j → i < j → j < 24 → MatchOption o (a < 24 → b < 24 → a ≡ b) (λ e. (e.lower ≡ min a b) × (e.higher ≡ max a b)) → option_map ends o ≡ Some (two i j)
between_ends None a b i j p q l m h = absurd (omega (arith, p, q, h (omega arith) (omega arith)))
between_ends (Some e) a b i j p q l m h =
    let low : e.lower ≡ i = omega (arith, h.0) in
    let high : e.higher ≡ j = omega (arith, h.1) in
    λ t. Some (record { low = low t; high = high t })

pub loop-j-init : goal.loop-j-init
loop-j-init c = let e = row_start (joined c.args.graph.now) c.loop-i.i in (omega (arith, e), omega arith)

pub loop-j-preserved : goal.loop-j-preserved
loop-j-preserved c =
    let f = joined c.args.graph.now in
    let i = c.loop-i.i in
    let j = c.loop-j.j in
    elim c.if-has.branch [
      | then-has+else-seen-wanted w ↦
          let e = row_there f i j (omega arith) (sym w.if-has.ensures) in
          (omega (arith, e, w.seen-is), omega (arith, w.seen-is, w.if-seen-wanted.false))
      | else-has w ↦
          let e = row_not f i j (omega arith) (sym w.if-has.ensures) in
          (omega (arith, e, w.seen-is), omega (arith, w.seen-is))
    ]

pub loop-i-preserved : goal.loop-i-preserved
loop-i-preserved c =
    let f = joined c.args.graph.now in
    let n = c.vertices-n.result in
    let i = c.loop-i.i in
    let e = rows_more f n i in
    let q : c.loop-j.j ≡ n = omega arith in
    let s = ap (λ m. length (upto (pair f i) m)) q in
    (omega (arith, e, s), omega arith)

pub returns : goal.returns
returns c =
    let f = joined c.args.graph.now in
    let n = c.vertices-n.result in
    let q : c.loop-i.i ≡ n = omega arith in
    let s = ap (λ m. length (upto (row f n) m)) q in
    sym (slice_get_past (pairs f n) c.args.wanted (omega (arith, s))) ∙ ap (λ m. slice_get (pairs f m) c.args.wanted) c.vertices-n.ensures.value

pub returns-then-seen-wanted : goal.returns-then-seen-wanted
returns-then-seen-wanted c =
    let f = joined c.args.graph.now in
    let n = c.vertices-n.result in
    let found = pair_found f n c.loop-i.i c.loop-j.j c.args.wanted (omega arith) (omega arith) (sym c.if-has.ensures) (omega arith) in
    between_ends c.between.result c.from.result c.from-then-seen-wanted.result c.loop-i.i c.loop-j.j c.from.ensures c.from-then-seen-wanted.ensures (omega arith) (omega arith) c.between.ensures
    ∙ sym found ∙ ap (λ m. slice_get (pairs f m) c.args.wanted) c.vertices-n.ensures.value
