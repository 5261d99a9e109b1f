use Rattle.std.proofs.Common.{arith, rules}
use Rattle.plan.specs.Plans.{refused}
use Rattle.plan.specs.Solving.{store}
use Rattle.plan.proofs.Turns.{answer_long, answer_short}
use Rattle.plan.proofs.answers.answer.Goals as goal

pub returns-then-text-room : goal.returns-then-text-room
returns-then-text-room c = refused (omega arith)

pub returns-then-plan-gt-LONGEST_PLAN : goal.returns-then-plan-gt-LONGEST_PLAN
returns-then-plan-gt-LONGEST_PLAN c =
    let long = answer_long c.args.plan.now c.args.text.now (store c.args.table.now c.args.certificate.now) c.new-answers.result c.push_reply.new.self c.if-plan-gt-LONGEST_PLAN.true (omega arith) c.new-answers.ensures.memory c.new-answers.ensures.empty c.push_reply.ensures in
    search rules

pub returns : goal.returns
returns c =
    answer_short c.args.plan.now c.args.text.now _ c.answer_lines.result c.answer_lines.new.text _ c.if-plan-gt-LONGEST_PLAN.false (omega arith) c.answer_lines.ensures
