use Rattle.std.proofs.Common.{ℕ, ◌<◌, get_or}
use Rattle.scripts.specs.Codes.{CountsAs}
use Rattle.scripts.proofs.codes.read_codes.Given as goal

abbrev pub invariant-loop-k : goal.invariant-loop-k
invariant-loop-k g l = (j : ℕ) → j < l.k → CountsAs g.F.Field.ops (get_or l.bytes j 0) (get_or l.elements j g.F.Field.ops.zero)
