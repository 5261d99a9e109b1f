use Rattle.std.proofs.Common.{◌≡◌, ℕ, ◌≤◌, map, take, drop}
use Rattle.certificates.specs.Outcome.{memory}
use Rattle.nulla.specs.Requests.{request_of}
use Rattle.nulla.specs.State.{state_of}
use Rattle.nulla.proofs.Replaying.{Makes}
use Rattle.nulla.proofs.replay.make_all.Given as goal

abbrev pub invariant-loop-k : goal.invariant-loop-k
invariant-loop-k g l =
    Makes g.E.Coeff.Field.ops (g.E.Encoding.lists l.initial.solver.encoding) (map request_of (take l.k (take l.count l.calls))) (state_of l.initial.solver) (memory l.initial.table l.initial.certificate) (take l.k l.replies) (state_of l.solver) (memory l.table l.certificate)
    × ((n : ℕ) → l.k ≤ n → drop n l.replies ≡ drop n l.initial.replies)
    × (l.solver.encoding ≡ l.initial.solver.encoding)
