use Rattle.std.proofs.Common.{◌++◌, refl, ap, ◌∙◌, arith, rules}
use Rattle.certificates.specs.Outcome.{memory}
use Rattle.nulla.specs.State.{state_of}
use Rattle.plan.specs.Lines.{left}
use Rattle.plan.proofs.Turns.{turn_short, answering_none, answering_room, answering_more, answering_all}
use Rattle.calling.specs.Script.{Asks}
use Rattle.scripts.proofs.Turning.{line_short, line_turn}
use Rattle.scripts.proofs.answers.answer_lines.Goals as goal

pub loop-line-init : goal.loop-line-init
loop-line-init g c = (
  refl,
  answering_none Asks g.E.Coeff.Field.ops _ c.args.script.now c.args.text.now _ _ c.new-answers.result _ _ c.requires.0 c.new-answers.ensures.memory c.new-answers.ensures.empty (search (rules, ap left)) refl,
)

pub push_reply-requires : goal.push_reply-requires
push_reply-requires g c =
    let p = c.loop-line.invariant.1 in
    let short = line_short c.args.script.now p.progress.lines _ _ (p.progress.split ∙ ap (λ t. p.progress.lines ++ t) c.in-Some.ensures.steps) in
    let turn = line_turn g.E.Encoding.lists (omega arith) c.loop-line.invariant.0 c.reply_to.ensures.replied in
    (turn_short turn, answering_room Asks g.E.Coeff.Field.ops _ p c.in-Some.ensures.steps)

pub loop-line-preserved : goal.loop-line-preserved
loop-line-preserved g c =
    let p = c.loop-line.invariant.1 in
    let short = line_short c.args.script.now p.progress.lines _ _ (p.progress.split ∙ ap (λ t. p.progress.lines ++ t) c.in-Some.ensures.steps) in
    let turn = line_turn g.E.Encoding.lists (omega arith) c.loop-line.invariant.0 c.reply_to.ensures.replied in (
      c.reply_to.ensures.encoding ∙ c.loop-line.invariant.0,
      answering_more Asks g.E.Coeff.Field.ops _ p c.in-Some.ensures.steps c.reply_to.result (state_of c.reply_to.new.solver) (memory c.reply_to.new.table c.reply_to.new.certificate) _ turn c.push_reply.ensures,
    )

pub returns : goal.returns
returns g c =
    let all = answering_all Asks g.E.Coeff.Field.ops _ c.loop-line.invariant.1 c.new-answers.ensures.memory c.in-None.ensures.steps.0 in
    search rules
