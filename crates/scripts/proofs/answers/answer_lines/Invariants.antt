use Rattle.std.proofs.Common.{◌≡◌}
use Rattle.certificates.specs.Outcome.{memory}
use Rattle.nulla.specs.State.{state_of}
use Rattle.plan.specs.Lines.{left}
use Rattle.plan.proofs.Turns.{Answering}
use Rattle.calling.specs.Script.{Asks}
use Rattle.scripts.proofs.answers.answer_lines.Given as goal

abbrev pub invariant-loop-line : goal.invariant-loop-line
invariant-loop-line g l =
    (l.solver.encoding ≡ l.initial.solver.encoding)
    × Answering Asks g.E.Coeff.Field.ops (g.E.Encoding.lists l.initial.solver.encoding) l.script (state_of l.initial.solver) (memory l.initial.table l.initial.certificate) l.initial.answers (left l.line-iterator) l.answers (state_of l.solver) (memory l.table l.certificate)
