-- The elements of the four values by their codes.
use Rattle.std.proofs.Common.{◌≡◌, true, false, ap, ◌∙◌}
use Rattle.fields.specs.declared.four.Four.{Four}
use Rattle.fields.specs.Four.{four_code, four_laws}

abbrev two : Four
two = record { unit = false; alpha = true }

abbrev three : Four
three = record { unit = true; alpha = true }

pub of_two : (g : Four → Four) (x : Four) → four_code x ≡ 2 → four_code (g x) ≡ four_code (g two)
of_two g x h = ap (λ (z : Four). four_code (g z)) (four_laws.code_same x two h)

pub of_both : (g : Four → Four → Four) (x y : Four) → four_code x ≡ 2 → four_code y ≡ 3 → four_code (g x y) ≡ four_code (g two three)
of_both g x y h k = of_two (λ z. g z y) x h ∙ ap (λ (z : Four). four_code (g two z)) (four_laws.code_same y three k)
