-- A line that names two numbers is cut at the space that was found, so what is not cut so names none.
use Rattle.std.proofs.Common.{◌≡◌, ◌+◌, None, sym, subst, rules, arith}
use Rattle.std.proofs.lemmas.List.{take_rest}
use Rattle.plan.specs.Spelling.{Valued, Named}
use Rattle.plan.proofs.Spelled.{names_cut, unnamed_first, unnamed_second}
use Rattle.plan.proofs.line.ends.Goals as goal

pub returns-then-space-line : goal.returns-then-space-line
returns-then-space-line c letter i j names =
    omega (arith, (names_cut letter c.args.line.now i j names c.find-space.result c.find-space.ensures).inside)

pub returns-in_err-i : goal.returns-in_err-i
returns-in_err-i c =
    let none : c.from_residual.result ≡ None = search rules in
    let fails : c.number.result ≡ None = search rules in
    subst (Named c.args.line.now) (sym none) (unnamed_first c.args.line.now c.find-space.result c.find-space.ensures (subst (Valued _) fails c.number.ensures))

pub returns-in_err-j : goal.returns-in_err-j
returns-in_err-j c =
    let line = c.args.line.now in
    let none : c.from_residual-in_err-j.result ≡ None = search rules in
    let fails : c.number-2.result ≡ None = search rules in
    subst (Named line) (sym none) (unnamed_second line c.find-space.result c.find-space.ensures (subst (λ t. Valued t None) (take_rest line (c.find-space.result + 1)) (subst (Valued _) fails c.number-2.ensures)))
