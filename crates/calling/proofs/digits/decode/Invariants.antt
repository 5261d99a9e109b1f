use Rattle.std.proofs.Common.{◌≡◌, ℕ, ◌*◌, ◌<◌, slice_index}
use Rattle.calling.specs.Digits.{byte_at}
use Rattle.calling.proofs.digits.decode.Given as goal

abbrev pub invariant-loop-k : goal.invariant-loop-k
invariant-loop-k l = (j : ℕ) → j < l.k → slice_index l.bytes j ≡ byte_at l.digits (2 * j)
