use Rattle.std.proofs.Common.{◌+◌, ◌-◌, cond, rules, sym, ◌∙◌, arith}
use Rattle.graphs.specs.Graph.{joined}
use Rattle.std.specs.List.{range_with_len}
use Rattle.std.proofs.lemmas.Iterator.{YieldsList-from_range, YieldsList-from_map}
use Rattle.std.proofs.lemmas.Iterator.Consumers.{sum_by_from_yields_List, fits_by_from_yields_list}
use Rattle.coloring.specs.Bounds.{row_few}
use Rattle.coloring.specs.Tally.{row_tally}
use Rattle.coloring.proofs.pairs.count_row.Goals as goal

pub sum-requires-clause-fits : goal.sum-requires-clause-fits
sum-requires-clause-fits c =
    let f = joined c.args.graph.now in
    let i = c.args.i in
    let n = c.args.graph.now.vertices in
    fits_by_from_yields_list (λ j. cond (f i j) 1 0) (range_with_len (i + 1) (n - (i + 1))) c.map.result _
    (YieldsList-from_map _ (λ j. cond (f i j) 1 0) (YieldsList-from_range (i + 1) n (n - (i + 1)) (search rules) (search rules)) c.map.ensures.closure (λ x r q k. search rules))
    (omega (arith, row_tally f n i c.requires, row_few f i n))

pub returns : goal.returns
returns c =
    let f = joined c.args.graph.now in
    let i = c.args.i in
    let n = c.args.graph.now.vertices in
    sum_by_from_yields_List (λ j. cond (f i j) 1 0) (range_with_len (i + 1) (n - (i + 1))) c.map.result _ c.sum.ensures.ran
    (YieldsList-from_map _ (λ j. cond (f i j) 1 0) (YieldsList-from_range (i + 1) n (n - (i + 1)) (search rules) (search rules)) c.map.ensures.closure (λ x r q k. search rules))
    ∙ sym (row_tally f n i c.requires)
