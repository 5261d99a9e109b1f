use Rattle.std.proofs.Common.{◌≡◌, ℕ, ◌<◌, get_or}
use Rattle.algebra.proofs.elimination.clear.Given as goal

abbrev pub invariant-loop-cell : goal.invariant-loop-cell
invariant-loop-cell g l =
    let o = g.F.Field.ops in
    (k : ℕ) → k < l.cell-index → get_or l.cell-items k o.zero ≡ o.zero
