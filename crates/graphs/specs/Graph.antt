-- What a graph is: a number of vertices, and which of them are joined. And what the calls on one do.
-- Assumes nothing.
use Rattle.std.specs.Prelude.{◌≡◌, ℕ, ◌+◌, Bool, false, cond, List, [], get_or, ◌≢◌, nat_lt, Option, Some, None, slice_index_or, slice_set}
use Rattle.graphs.specs.declared.graph.Row.{Row}
use Rattle.graphs.specs.declared.graph.Graph.{Graph}

-- the row of a vertex that no graph has
abbrev pub blank : Row
blank = record { above = [] }

-- the flag at a row and a place, false outside
abbrev pub flag : List Row → ℕ → ℕ → Bool
flag rows i j = slice_index_or (get_or rows i blank).above j false

-- the rows with one flag put
abbrev pub put : List Row → ℕ → ℕ → Bool → List Row
put rows i j v = slice_set rows i (record { above = slice_set (get_or rows i blank).above j v })

-- whether the vertex i is joined to the vertex j above it
abbrev pub joined : Graph → ℕ → ℕ → Bool
joined g i j = flag g.rows i j

-- no vertices, and nothing joined
pub record Empty (g : Graph) : Type 0 where
  pub vertices : g.vertices ≡ 0
  pub pairs : (i j : ℕ) → joined g i j ≡ false

-- h is g with one vertex more, whose number is the answer, or g itself where it has 24
pub record Opened (g : Graph) (answer : Option ℕ) (h : Graph) : Type 0 where
  pub told : answer ≡ cond (nat_lt g.vertices 24) (Some g.vertices) None
  pub vertices : h.vertices ≡ cond (nat_lt g.vertices 24) (g.vertices + 1) g.vertices
  pub rows : h.rows ≡ g.rows
  pub pairs : (i j : ℕ) → joined h i j ≡ joined g i j

-- h is g with one flag put
pub record Put (g : Graph) (i j : ℕ) (v : Bool) (h : Graph) : Type 0 where
  pub vertices : h.vertices ≡ g.vertices
  pub rows : h.rows ≡ put g.rows i j v

-- the pair (i, j) is joined or not, as v says, and every other pair and the vertices are as before
pub record Marked (g : Graph) (i j : ℕ) (v : Bool) (h : Graph) : Type 0 where
  pub vertices : h.vertices ≡ g.vertices
  pub here : joined h i j ≡ v
  pub others : (k l : ℕ) → (k ≡ i → l ≢ j) → joined h k l ≡ joined g k l
