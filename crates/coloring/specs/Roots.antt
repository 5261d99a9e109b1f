-- What a color stands for in the equations: a third root of one among the values a + bα, where α·α = α + 1. Assumes nothing.
use Rattle.fields.specs.Field.{Ops}
use Rattle.polynomials.specs.Evaluation.{Pair, one_pair, alpha, add_pairs}
use Rattle.coloring.specs.Coloring.{Color, first, second, third}

-- one, α and α + 1
abbrev pub root : {C : Type 0} → Ops C → Color → Pair C
root o first = one_pair o
root o second = alpha o
root o third = add_pairs o (alpha o) (one_pair o)
