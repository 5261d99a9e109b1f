-- What every encoding keeps to: how many equations, how many terms, which degrees and which variables; and that the equations are those of
-- coloring. An encoding is a function l of the number of vertices and of which pairs are joined. Assumes nothing.
use Rattle.std.specs.Prelude.{◌≡◌, ℕ, ◌+◌, ◌<◌, ◌≤◌, Bool, true, List, [], length, get_or, ◌≢◌, slice_index, slice_index_or}
use Rattle.fields.specs.Field.{Ops}
use Rattle.graphs.specs.declared.graph.Graph.{Graph}
use Rattle.polynomials.specs.declared.term.Term.{Term}
use Rattle.coloring.specs.Coloring.{Color, Proper}
use Rattle.coloring.specs.Equations.{plain}
use Rattle.graphs.specs.Graph.{joined}
use Rattle.polynomials.specs.Certificate.{AllListed}
use Rattle.polynomials.specs.Evaluation.{Solves}
use Rattle.monomials.specs.Order.{degree}
use Rattle.coloring.specs.Absent.{absent}
use Rattle.coloring.specs.Roots.{root}

-- a function of the number of vertices and of which pairs are joined, at a graph
abbrev pub over : {A : Type 0} → (ℕ → (ℕ → ℕ → Bool) → A) → Graph → A
over l g = l g.vertices (joined g)

-- h has the pair (i, j), and else the pairs of f
pub record Joins (f : ℕ → ℕ → Bool) (i j : ℕ) (h : ℕ → ℕ → Bool) : Type 0 where
  pub here : h i j ≡ true
  pub others : (k l : ℕ) → (k ≡ i → l ≢ j) → h k l ≡ f k l

module _ {C : Type 0} (o : Ops C) where
  -- a term in the variables of n vertices
  pub record Sound (n : ℕ) (t : Term C) : Type 0 where
    pub wide : length t.exponents ≡ 24
    pub low : degree t.exponents ≤ 3
    pub within : (k : ℕ) → n ≤ k → slice_index t.exponents k ≡ 0
    pub present : t.coeff ≡ o.zero → ⊥

  -- an equation in the variables of n vertices: at most four terms, no two of them with the same exponents
  pub record Short (n : ℕ) (e : List (Term C)) : Type 0 where
    pub few : length e ≤ 4
    pub terms : (k : ℕ) → k < length e → Sound n (slice_index_or e k (absent o))
    pub apart : (j k : ℕ) → j < length e → k < length e → (get_or e j (absent o)).exponents ≡ (get_or e k (absent o)).exponents → j ≡ k

  -- the equations that l gives to each graph, of which there are at most so many
  pub record Bounded (l : ℕ → (ℕ → ℕ → Bool) → List (List (Term C))) (most : ℕ) : Type 0 where
    pub small : most ≤ 4095
    pub count : (n : ℕ) (f : ℕ → ℕ → Bool) → n ≤ 24 → length (l n f) ≤ most
    pub equations : (n : ℕ) (f : ℕ → ℕ → Bool) → n ≤ 24 → (k : ℕ) → k < length (l n f) → Short n (slice_index_or (l n f) k [])

  -- the equations have the plain ones among them, hold at every proper coloring, and stay where a vertex or an edge is added
  pub record Lawful (l : ℕ → (ℕ → ℕ → Bool) → List (List (Term C))) : Type 0 where
    pub lists : (n : ℕ) (f : ℕ → ℕ → Bool) → n ≤ 24 → AllListed o (plain o.one n f) (l n f)
    pub vanishes : (n : ℕ) (f : ℕ → ℕ → Bool) (c : ℕ → Color) → n ≤ 24 → Proper n f c → Solves o (λ i. root o (c i)) (l n f)
    pub vertex : (n : ℕ) (f : ℕ → ℕ → Bool) → n < 24 → AllListed o (l n f) (l (n + 1) f)
    pub edge : (n : ℕ) (f h : ℕ → ℕ → Bool) (i j : ℕ) → n ≤ 24 → Joins f i j h → AllListed o (l n f) (l n h)
