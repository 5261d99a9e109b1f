use Rattle.std.proofs.Common.{◌<◌, length, ap, arith, rules}
use Rattle.plan.proofs.Splits.{lines_split}
use Rattle.plan.proofs.lines.TextLinesIterator.next.Goals as goal

pub returns-clause-steps : goal.returns-clause-steps
returns-clause-steps c =
    let some : c.args.self.now.at < length c.args.self.now.text.now = search rules in
    lines_split c.args.self.now.text.now c.args.self.now.at c.find-end.result some c.find-end.ensures

pub returns-clause-goes : goal.returns-clause-goes
returns-clause-goes c =
    let fewer = ap length (returns-clause-steps c) in
    record { on = λ _. (tt, tt, omega arith); keeps = tt; rests = λ _. tt }
