use Rattle.std.proofs.Common.{refl, rules, of_calls}
use Rattle.programs.proofs.answer_script.Goals as goal

pub loop-line-preserved : goal.loop-line-preserved
loop-line-preserved g c = (
  search (of_calls, rules),
  λ last rest. c.loop-line.invariant.1 last (rw c.in-Some.ensures.steps (
    (c.answer.new.self, c.write_all.new.self),
    record {
      text = c.in_ok-answer.field-0;
      given = record { shown = c.in-Some.line; shows = refl; called = rw c.in_ok-answer.was at c.answer.ensures };
      got = rw c.as_bytes.ensures.value at c.in_ok-write_all.ensures.bytes;
    },
    rest,
  )),
)

pub returns : goal.returns
returns g c = ((c.loop-line.answer, c.loop-line.to), c.loop-line.invariant.1 _ (rw c.in-None.ensures.steps.0 refl))
