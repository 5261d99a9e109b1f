-- What a solver stands for: how many vertices are open, which pairs of them are joined, the degree reached, and whether it
-- says infeasible. Assumes nothing.
use Rattle.std.specs.Prelude.{ℕ, ◌+◌, Bool, true, false, cond, ◌&&◌, ◌==◌}
use Rattle.graphs.specs.Graph.{joined}
use Rattle.certificates.specs.Verdicts.{infeasible}
use Rattle.nulla.specs.declared.solver.Solver.{Solver}
use Rattle.nulla.specs.Standing.{reached}

pub record State : Type 0 where
  pub vertices : ℕ
  pub joins : ℕ → ℕ → Bool
  pub degree : ℕ
  pub infeasible : Bool

abbrev pub state : ℕ → (ℕ → ℕ → Bool) → ℕ → Bool → State
state n f d b = record { vertices = n; joins = f; degree = d; infeasible = b }

-- a new solver: no vertex, nothing joined, no degree reached, open
abbrev pub fresh : State
fresh = state 0 (λ i j. false) 0 false

module _ {E : Type 0} where
  abbrev pub state_of : Solver E → State
  state_of s = state s.graph.vertices (joined s.graph) (reached s.standing) (infeasible s.standing)

-- the same pairs but for (i, j), which is joined or not as v says
abbrev pub with_pair : (ℕ → ℕ → Bool) → ℕ → ℕ → Bool → ℕ → ℕ → Bool
with_pair f i j v k l = cond (k == i && l == j) v (f k l)

-- The degree that counts after the graph has grown: an open solver begins again, and one that says infeasible keeps its word.
abbrev pub kept_degree : State → ℕ
kept_degree s = cond s.infeasible s.degree 0

-- one vertex more, joined to none
abbrev pub with_vertex : State → State
with_vertex s = state (s.vertices + 1) s.joins (kept_degree s) s.infeasible

-- one edge more
abbrev pub with_edge : State → ℕ → ℕ → State
with_edge s i j = state s.vertices (with_pair s.joins i j true) (kept_degree s) s.infeasible

-- one edge fewer
abbrev pub without_edge : State → ℕ → ℕ → State
without_edge s i j = state s.vertices (with_pair s.joins i j false) 0 false

-- a degree more reached, with a verdict
abbrev pub raised : State → Bool → State
raised s b = state s.vertices s.joins (s.degree + 1) b
