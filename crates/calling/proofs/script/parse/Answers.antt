use Rattle.std.proofs.Common.{subst}
use Rattle.calling.specs.Script.{NamesThree, tries}
use Rattle.calling.proofs.Asking.{as_planned, led, no_trial, unled}
use Rattle.calling.proofs.script.parse.Goals as goal

pub returns-then-not-starts_with : goal.returns-then-not-starts_with
returns-then-not-starts_with c = as_planned c.args.line.now c.parse.result (unled c.args.line.now c.if-not-starts_with.ensures.value) c.parse.ensures

pub returns-in_err-i : goal.returns-in_err-i
returns-in_err-i c = rw c.from_residual.ensures (no_trial c.args.line.now (led c.args.line.now c.if-not-starts_with.ensures.value) c.in_err-i.ensures)

pub returns : goal.returns
returns c = (
  tries (subst (λ b. NamesThree b c.args.line.now c.in_ok-i.i c.in_ok-i.j c.in_ok-i.d) (led c.args.line.now c.if-not-starts_with.ensures.value) c.in_ok-i.ensures),
  λ check. check,
)
