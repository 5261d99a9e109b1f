use Rattle.std.proofs.Common.{sym, subst, arith}
use Rattle.std.proofs.lemmas.Fmt.{decimal_digit}
use Rattle.plan.specs.Rendering.{Appended}
use Rattle.plan.proofs.Overwriting.{decimal_two}
use Rattle.plan.proofs.text.Text.push_number.Goals as goal

pub returns-then-n-lt-TEN : goal.returns-then-n-lt-TEN
returns-then-n-lt-TEN c = subst (λ bytes. Appended c.args.self.now bytes c.push.new.self) (sym (decimal_digit c.args.n (omega arith))) c.push.ensures

pub returns : goal.returns
returns c = subst (λ bytes. Appended c.args.self.now bytes c.push-2.new.self) (sym (decimal_two c.args.n (omega arith) (omega arith))) c.push-2.ensures
