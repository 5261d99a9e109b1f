use Rattle.std.proofs.Common.{ap, rules}
use Rattle.fields.specs.Bit.{bit_ops}
use Rattle.coloring.specs.Equations.{plain}
use Rattle.nulla.specs.State.{state_of, fresh}
use Rattle.plan.specs.Lines.{left}
use Rattle.plan.specs.Solving.{store}
use Rattle.plan.specs.Spelling.{Spells}
use Rattle.plan.proofs.Turns.{turn_short, answering_none, answering_room, answering_more, answering_all}
use Rattle.plan.proofs.answers.answer_lines.Goals as goal

pub loop-line-init : goal.loop-line-init
loop-line-init c =
    answering_none Spells bit_ops (plain bit_ops.one) c.args.plan.now c.args.text.now fresh _ c.new-answers.result _ _ c.requires c.new-answers.ensures.memory c.new-answers.ensures.empty (search (rules, ap left)) c.new-solver.ensures.state

pub push_reply-requires : goal.push_reply-requires
push_reply-requires c = (turn_short c.reply_to.ensures.turn, answering_room Spells bit_ops (plain bit_ops.one) c.loop-line.invariant c.in-Some.ensures.steps)

pub loop-line-preserved : goal.loop-line-preserved
loop-line-preserved c =
    answering_more Spells bit_ops (plain bit_ops.one) c.loop-line.invariant c.in-Some.ensures.steps c.reply_to.result (state_of c.reply_to.new.solver) (store c.reply_to.new.table c.reply_to.new.certificate) c.push_reply.new.self c.reply_to.ensures.turn c.push_reply.ensures

pub returns : goal.returns
returns c =
    let all = answering_all Spells bit_ops (plain bit_ops.one) c.loop-line.invariant c.new-answers.ensures.memory c.in-None.ensures.steps.0 in
    search rules
