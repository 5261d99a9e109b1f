use Rattle.std.proofs.Common.{◌≡◌, ℕ, ◌<◌, ◌≤◌, get_or}
use Rattle.algebra.proofs.elimination.add_multiple.Given as goal

abbrev pub invariant-loop-c : goal.invariant-loop-c
invariant-loop-c g l =
    let o = g.F.Field.ops in
    let xs = l.initial.target in
    record {
      done : (k : ℕ) → k < l.c → get_or l.target k o.zero ≡ o.add (get_or xs k o.zero) (o.mul l.factor (get_or l.source k o.zero));
      left : (k : ℕ) → l.c ≤ k → get_or l.target k o.zero ≡ get_or xs k o.zero;
    }
