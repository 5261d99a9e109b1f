use Rattle.std.specs.List.{FoldsTo}
use Rattle.plan.specs.Lines.{lines_of, left}
use Rattle.programs.specs.Answering.{Answers}
use Rattle.programs.proofs.answer_script.Given as goal

-- Answering the lines that are left answers the whole script.
abbrev pub invariant-loop-line : goal.invariant-loop-line
invariant-loop-line g l =
    goal.F-IsAlwaysCallable g l.answer
    × ((last : _) → FoldsTo (Answers g.F.FnMut g.W.Write.contents) (l.answer, l.to) (left l.line-iterator) last → FoldsTo (Answers g.F.FnMut g.W.Write.contents) (l.fn.answer, l.fn.to) (lines_of l.fn.script) last)
