-- A line that names three numbers is cut at the spaces that were found, so what is not cut so names none.
use Rattle.std.proofs.Common.{◌≡◌, ◌+◌, drop, sym, ◌∙◌, subst, arith}
use Rattle.std.proofs.lemmas.List.{take_rest}
use Rattle.plan.specs.Spelling.{Decimal}
use Rattle.calling.proofs.Asking.{three_cut, cut_three}
use Rattle.calling.proofs.script.three.Goals as goal

pub returns-in_err-third : goal.returns-in_err-third
returns-in_err-third c =
    rw c.from_residual.ensures (λ letter i j d names. omega (arith, (three_cut letter c.args.line.now i j d names c.find-first.result c.find-second.result c.find-first.ensures c.find-second.ensures).inside, c.in_err-third.ensures.lookup.0))

pub returns-in_err-i : goal.returns-in_err-i
returns-in_err-i c =
    rw c.from_residual-in_err-i.ensures (λ letter i j d names. c.in_err-i.ensures letter i j (three_cut letter c.args.line.now i j d names c.find-first.result c.find-second.result c.find-first.ensures c.find-second.ensures).front_is)

pub returns-in_err-d : goal.returns-in_err-d
returns-in_err-d c =
    let line = c.args.line.now in
    let second = c.find-second.result in
    let third : c.in_ok-third.third.now ≡ drop (second + 1) line = c.in_ok-third.ensures.lookup.0.2 ∙ take_rest line (second + 1) in
    rw c.from_residual-in_err-d.ensures (λ letter i j d names. c.in_err-d.ensures d (subst (λ t. Decimal t d) (sym third) (three_cut letter line i j d names c.find-first.result second c.find-first.ensures c.find-second.ensures).third_is))

pub returns : goal.returns
returns c =
    let line = c.args.line.now in
    let second = c.find-second.result in
    let third : c.in_ok-third.third.now ≡ drop (second + 1) line = c.in_ok-third.ensures.lookup.0.2 ∙ take_rest line (second + 1) in
    cut_three line c.find-first.result second c.in_ok-i.i c.in_ok-i.j c.in_ok-d.d c.find-second.ensures (omega (arith, c.in_ok-third.ensures.lookup.0.0)) c.in_ok-i.ensures (subst (λ t. Decimal t c.in_ok-d.d) third c.in_ok-d.ensures)
