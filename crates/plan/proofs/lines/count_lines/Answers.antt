use Rattle.std.proofs.Common.{◌≡◌, ◌+◌, ◌≤◌, length, rules, arith}
use Rattle.std.specs.List.{sum_by}
use Rattle.std.proofs.lemmas.Iterator.{YieldsList-from_slice, YieldsList-from_map}
use Rattle.std.proofs.lemmas.Iterator.Consumers.{sum_by_from_yields_List, fits_by_from_yields_list}
use Rattle.plan.proofs.Splits.{lines_few}
use Rattle.plan.proofs.Tally.{ending, lines_tally}
use Rattle.plan.proofs.lines.count_lines.Goals as goal

pub sum-ended-requires-clause-fits : goal.sum-ended-requires-clause-fits
sum-ended-requires-clause-fits c =
    fits_by_from_yields_list ending c.args.text.now c.map.result _
    (YieldsList-from_map _ ending (YieldsList-from_slice c.args.text.now (search rules)) c.map.ensures.closure (λ x r q k. search rules))
    (omega (arith, lines_tally c.args.text.now, lines_few c.args.text.now))

pub overflow_add-result : goal.overflow_add-result
overflow_add-result c =
    let ended : c.sum-ended.result ≡ sum_by ending c.args.text.now =
    sum_by_from_yields_List ending c.args.text.now c.map.result _ c.sum-ended.ensures.ran
    (YieldsList-from_map _ ending (YieldsList-from_slice c.args.text.now (search rules)) c.map.ensures.closure (λ x r q k. search rules)) in
    let few : c.sum-ended.result + c.unended.result ≤ length c.args.text.now = omega (arith, lines_tally c.args.text.now, lines_few c.args.text.now, c.unended.ensures) in
    search rules

pub returns-clause-value : goal.returns-clause-value
returns-clause-value c =
    let ended : c.sum-ended.result ≡ sum_by ending c.args.text.now =
    sum_by_from_yields_List ending c.args.text.now c.map.result _ c.sum-ended.ensures.ran
    (YieldsList-from_map _ ending (YieldsList-from_slice c.args.text.now (search rules)) c.map.ensures.closure (λ x r q k. search rules)) in
    omega (arith, lines_tally c.args.text.now, c.unended.ensures)

pub returns-clause-few : goal.returns-clause-few
returns-clause-few c = omega (arith, returns-clause-value c, lines_few c.args.text.now)
