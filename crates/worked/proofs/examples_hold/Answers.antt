use Rattle.std.proofs.Common.{refl}
use Rattle.fields.specs.Bit.{bit_laws}
use Rattle.fields.specs.Four.{four_add, four_mul, four_laws}
use Rattle.monomials.specs.Order.{lower, rank_of}
use Rattle.monomials.specs.Choose.{choose}
use Rattle.worked.proofs.Certificates.{field_examples, two_refused}
use Rattle.worked.proofs.FourValues.{of_two, of_both}
use Rattle.worked.proofs.examples_hold.Goals as goal

pub returns : goal.returns
unfolding choose lower rank_of
returns c = record {
  rank = refl;
  fifteen = refl;
  square = of_two (λ x. four_mul x x);
  product = of_both four_mul;
  sum = of_both four_add;
  seventy = refl;
  fifty = refl;
  table = refl;
  memory = refl;
  bits = field_examples bit_laws;
  four_values = field_examples four_laws;
  no_code = two_refused;
}
