use Rattle.std.proofs.Common.{◌≡◌, ◌<◌, ◌-◌, length, get_or, cond, eqb, rules, tests, sym, ◌∙◌}
use Rattle.plan.proofs.Tally.{unended_is}
use Rattle.plan.proofs.lines.unended.Goals as goal

pub returns : goal.returns
returns c =
    let some : 0 < length c.args.text.now = search rules in
    let told : c.from.result ≡ cond (eqb (get_or c.args.text.now (length c.args.text.now - 1) 0) 10) 0 1 = search (rules, tests) in
    told ∙ sym (unended_is c.args.text.now some)
