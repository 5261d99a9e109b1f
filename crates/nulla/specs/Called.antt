-- A call on a solver, by the rules of its encoding, which it keeps. Assumes nothing.
use Rattle.std.specs.Prelude.{◌≡◌}
use Rattle.fields.specs.Field.{Ops}
use Rattle.certificates.specs.Outcome.{Memory}
use Rattle.nulla.specs.declared.solver.Solver.{Solver}
use Rattle.nulla.specs.Replies.{Reply}
use Rattle.nulla.specs.Requests.{Request}
use Rattle.nulla.specs.State.{state_of}
use Rattle.nulla.specs.Steps.{Lists, Step}

-- The solver s answers the request q by the reply r and is then t; the memory that it is lent goes from m to k.
pub record Called {E F : Type 0} (o : Ops F) (lists : E → Lists F) (q : Request) (s : Solver E) (m : Memory F) (r : Reply) (t : Solver E) (k : Memory F) : Type 0 where
  pub step : Step o (lists s.encoding) q (state_of s) m r (state_of t) k
  pub encoding : t.encoding ≡ s.encoding
