use Rattle.std.proofs.Common.{◌≡◌, ℕ, ◌+◌, ◌<◌, ◌≤◌, length, get_or}
use Rattle.certificates.proofs.matrix.plus.Given as goal

abbrev pub invariant-loop-i : goal.invariant-loop-i
invariant-loop-i l =
    (length l.sum ≡ 24)
    × ((k : ℕ) → k < l.i → get_or l.sum k 0 ≡ get_or l.initial.sum k 0 + get_or l.fn.exponents k 0)
    × ((k : ℕ) → l.i ≤ k → get_or l.sum k 0 ≡ get_or l.initial.sum k 0)
