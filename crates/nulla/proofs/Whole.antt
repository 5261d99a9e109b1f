-- All that holds of lists of calls, on one solver and on two. Assumes nothing.
use Rattle.std.proofs.Common.{ℕ}
use Rattle.fields.specs.Field.{Ops, Laws}
use Rattle.coloring.specs.Encoding.{Bounded, Lawful}
use Rattle.nulla.specs.Runs.{Whole}
use Rattle.nulla.specs.Steps.{Lists}
use Rattle.nulla.proofs.Runs.{one_solver}
use Rattle.nulla.proofs.Twins.{two_solvers}

pub whole : {F G : Type 0} {o : Ops F} {p : Ops G} → Laws o → Laws p → (l : Lists F) (k : Lists G) (most most' : ℕ) → Bounded o l most → Lawful o l → Bounded p k most' → Lawful p k → Whole o p l k
whole first second l k most most' bounded lawful bounded' lawful' = record {
  first = one_solver first l lawful most bounded;
  second = one_solver second k lawful' most' bounded';
  both = two_solvers first second l k most most' bounded bounded';
}
