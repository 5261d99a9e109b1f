-- What a solver stands for while the graph of a family is built on it, and once it stands. Assumes nothing.
use Rattle.std.specs.Prelude.{◌≡◌, ℕ, ◌<◌, ◌≤◌, Bool, false, ◌⊎◌, Result, Err}
use Rattle.fields.specs.Field.{Ops}
use Rattle.certificates.specs.declared.refusal.Refusal.{Refusal}
use Rattle.certificates.specs.declared.refusal.Refusal.TheVariants.{NoVertexLeft}
use Rattle.certificates.specs.declared.verdict.Verdict.{Verdict}
use Rattle.certificates.specs.Outcome.{Memory}
use Rattle.nulla.specs.declared.solver.Solver.{Solver}
use Rattle.nulla.specs.Called.{Called}
use Rattle.nulla.specs.Replies.{said}
use Rattle.nulla.specs.Requests.{raise_degree}
use Rattle.nulla.specs.State.{State, state_of}
use Rattle.nulla.specs.Steps.{Lists}
use Rattle.families.specs.Family.{vertices_of, joins_of}
use Rattle.families.specs.declared.family.Family.{Family}

-- The pairs are joined that are joined in the graph of a family.
abbrev pub Joins : Family → (ℕ → ℕ → Bool) → Type 0
Joins family f = (i j : ℕ) → i < j → j < vertices_of family → f i j ≡ joins_of family i j

-- A solver that nothing was worked on has the graph of a family: its vertices, its pairs, and no other.
pub record Stands (family : Family) (s : State) : Type 0 where
  pub vertices : s.vertices ≡ vertices_of family
  pub joins : Joins family s.joins
  pub others : (i j : ℕ) → i < j → vertices_of family ≤ j → s.joins i j ≡ false
  pub unworked : s.degree ≡ 0
  pub unknown : s.infeasible ≡ false

-- So many vertices are open. The pairs below v, and those of v with a vertex below k, are joined as in the graph of a family; no other is.
pub record Reaches (family : Family) (opened v k : ℕ) (s : State) : Type 0 where
  pub vertices : s.vertices ≡ opened
  pub joined : (i j : ℕ) → i < j → (j < v) ⊎ ((j ≡ v) × (i < k)) → s.joins i j ≡ joins_of family i j
  pub others : (i j : ℕ) → i < j → (v < j) ⊎ ((j ≡ v) × (k ≤ i)) → s.joins i j ≡ false
  pub unworked : s.degree ≡ 0
  pub unknown : s.infeasible ≡ false

-- Degree 1 is worked on a new solver over an encoding with the graph of a family: it is raised by the rules, unless no solver has so many vertices.
pub data Raises {E F : Type 0} (o : Ops F) (lists : E → Lists F) (encoding : E) (family : Family) (m : Memory F) : Result Verdict Refusal → Memory F → Type 0 where
  crowded : 24 < vertices_of family → Raises o lists encoding family m (Err NoVertexLeft) m
  raised : {s t : Solver E} {r : Result Verdict Refusal} {k : Memory F} → Stands family (state_of s) → s.encoding ≡ encoding
      → Called o lists raise_degree s m (said r) t k → Raises o lists encoding family m r k
