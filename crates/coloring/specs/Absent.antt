-- The term that stands for no term: coefficient zero, all exponents zero. Assumes nothing.
use Rattle.fields.specs.Field.{Ops}
use Rattle.polynomials.specs.declared.term.Term.{Term}
use Rattle.polynomials.specs.Polynomial.{zeros}

abbrev pub absent : {C : Type 0} → Ops C → Term C
absent o = record { coeff = o.zero; exponents = zeros }
