use Rattle.fields.specs.Bit.{bit_ops}
use Rattle.coloring.specs.Equations.{plain}
use Rattle.nulla.specs.State.{state_of, fresh}
use Rattle.plan.specs.Lines.{left}
use Rattle.plan.specs.Solving.{store}
use Rattle.plan.specs.Spelling.{Spells}
use Rattle.plan.proofs.Turns.{Answering}
use Rattle.plan.proofs.answers.answer_lines.Given as goal

abbrev pub invariant-loop-line : goal.invariant-loop-line
invariant-loop-line l =
    Answering Spells bit_ops (plain bit_ops.one) l.plan fresh (store l.initial.table l.initial.certificate) l.initial.answers (left l.line-iterator) l.answers (state_of l.solver) (store l.table l.certificate)
