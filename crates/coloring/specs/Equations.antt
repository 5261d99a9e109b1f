-- The equations of 3-coloring over a field with the unit `one` in which one plus one is zero; each is the list of the terms of its
-- left side. A color is a third root of one: v^3 + 1 = 0 says that v is one, and two roots are different
-- exactly where v^2 + vw + w^2 = 0. Assumes nothing.
use Rattle.std.specs.Prelude.{ℕ, Bool, List, [], ◌∷◌, ◌++◌, map, slice_set}
use Rattle.coloring.specs.Pairs.{Pair}
use Rattle.polynomials.specs.declared.term.Term.{Term}
use Rattle.coloring.specs.Three.{Three as Triangle}
use Rattle.coloring.specs.Pairs.{upto, pairs}
use Rattle.polynomials.specs.Polynomial.{zeros}
use Rattle.coloring.specs.Triangles.{chosen}

module _ {C : Type 0} (one : C) where
  abbrev pub mono : List ℕ → Term C
  mono e = record { coeff = one; exponents = e }

  -- v_i^3 + 1
  abbrev pub cube : ℕ → List (Term C)
  cube i = mono (slice_set zeros i 3) ∷ mono zeros ∷ []

  abbrev pub cubes : ℕ → List (List (Term C))
  cubes i = cube i ∷ []

  -- v_i^2 + v_i v_j + v_j^2
  abbrev pub edge : Pair → List (Term C)
  edge p = mono (slice_set zeros p.low 2) ∷ mono (slice_set (slice_set zeros p.low 1) p.high 1) ∷ mono (slice_set zeros p.high 2) ∷ []

  -- a cube for each of n vertices, then an edge for each joined pair
  abbrev pub plain : ℕ → (ℕ → ℕ → Bool) → List (List (Term C))
  plain n f = upto cubes n ++ map edge (pairs f n)

  -- v_i^2 + v_j^2 + v_k^2
  abbrev pub squares : Triangle → List (Term C)
  squares t = mono (slice_set zeros t.low 2) ∷ mono (slice_set zeros t.middle 2) ∷ mono (slice_set zeros t.high 2) ∷ []

  -- the equations of an encoding, of which there are at most so many, then the squares of the triangles that it has room for
  abbrev pub with_triangles : ℕ → (ℕ → (ℕ → ℕ → Bool) → List (List (Term C))) → ℕ → (ℕ → ℕ → Bool) → List (List (Term C))
  with_triangles most l n f = l n f ++ map squares (chosen most n f)
