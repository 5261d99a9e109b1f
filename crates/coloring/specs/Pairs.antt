-- The joined pairs of vertices of a graph in order, which is their numbering. A graph is given by which pairs are joined,
-- f, and by the number of its vertices, n. Assumes nothing.
use Rattle.std.specs.Prelude.{ℕ, zero, suc, Bool, cond, ◌&&◌, List, [], ◌∷◌, ◌++◌, nat_lt}
use Rattle.graphs.specs.declared.edge.Edge.{Edge}

-- two vertices, the lower first
pub record Pair : Type 0 where
  pub low : ℕ
  pub high : ℕ

-- the two ends of an edge
abbrev pub ends : Edge → Pair
ends e = record { low = e.lower; high = e.higher }

-- the lists of the numbers below n, one after the other
abbrev pub upto : {A : Type 0} → (ℕ → List A) → ℕ → List A
upto g zero = []
upto g (suc n) = upto g n ++ g n

abbrev pub two : ℕ → ℕ → Pair
two i j = record { low = i; high = j }

module _ (f : ℕ → ℕ → Bool) where
  -- the pair of i and a vertex j above it, if they are joined
  abbrev pub pair : ℕ → ℕ → List Pair
  pair i j = cond (nat_lt i j && f i j) (two i j ∷ []) []

  -- the joined pairs of i with those of n vertices that are above it
  abbrev pub row : ℕ → ℕ → List Pair
  row n i = upto (pair i) n

  -- the joined pairs of n vertices, by lower then higher
  abbrev pub pairs : ℕ → List Pair
  pairs n = upto (row n) n
