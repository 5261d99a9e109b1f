use Rattle.std.proofs.Common.{◌≡◌, [], ◌∷◌, length, get_or, take}
use Rattle.layout.specs.Certificate.{upto, bits}
use Rattle.layout.proofs.writing.write_map.Given as goal

abbrev pub invariant-loop-place : goal.invariant-loop-place
invariant-loop-place g l =
    take l.place l.map ≡ upto (λ b. bits g.F.Field.ops (length l.coefficients) (λ k. get_or l.coefficients k g.F.Field.ops.zero) b 8 ∷ []) l.place
