use Rattle.std.proofs.Common.{◌≡◌, ℕ, ◌<◌, get_or}
use Rattle.scripts.proofs.codes.write_codes.Given as goal

abbrev pub invariant-loop-k : goal.invariant-loop-k
invariant-loop-k g l = (j : ℕ) → j < l.k → get_or l.bytes j 0 ≡ g.F.Field.ops.code (get_or l.elements j g.F.Field.ops.zero)
