use Rattle.std.proofs.Common.{◌≡◌, ℕ, ◌<◌, ◌≤◌, get_or}
use Rattle.algebra.proofs.elimination.scale_row.Given as goal

abbrev pub invariant-loop-x : goal.invariant-loop-x
invariant-loop-x g l =
    let o = g.F.Field.ops in
    let xs = l.initial.x-items in
    record {
      done : (k : ℕ) → k < l.x-index → get_or l.x-items k o.zero ≡ o.mul l.factor (get_or xs k o.zero);
      left : (k : ℕ) → l.x-index ≤ k → get_or l.x-items k o.zero ≡ get_or xs k o.zero;
    }
