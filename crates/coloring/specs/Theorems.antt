-- What is proved of every encoding of 3-coloring, given by the equations l of each number of vertices and of which pairs are joined.
-- Each statement stands on the contract of a public function of `src/theorems.rt`. Assumes nothing.
use Rattle.std.specs.Prelude.{◌≡◌, ℕ, ◌+◌, ◌<◌, ◌≤◌, Bool, List}
use Rattle.fields.specs.Field.{Ops}
use Rattle.polynomials.specs.declared.term.Term.{Term}
use Rattle.polynomials.specs.Certificate.{Certified}
use Rattle.polynomials.specs.Image.{SameOnes}
use Rattle.coloring.specs.Coloring.{Color, Proper}
use Rattle.coloring.specs.Encoding.{Joins}
use Rattle.coloring.specs.Equations.{plain, with_triangles}
use Rattle.coloring.specs.Triangles.{raised}

module _ {C : Type 0} (o : Ops C) (l : ℕ → (ℕ → ℕ → Bool) → List (List (Term C))) where
  -- a graph whose equations have a certificate of any degree has no proper coloring
  abbrev pub CertificatesExcludeColorings : Type 0
  CertificatesExcludeColorings = (n d : ℕ) (f : ℕ → ℕ → Bool) → n ≤ 24 → Certified o n d (l n f) → (c : ℕ → Color) → Proper n f c → ⊥

  -- a graph with one more vertex or one more edge has a certificate of each degree in which it had one
  pub record CertificatesGrow : Type 0 where
    pub vertex : (n d : ℕ) (f : ℕ → ℕ → Bool) → n < 24 → Certified o n d (l n f) → Certified o (n + 1) d (l (n + 1) f)
    pub edge : (n d : ℕ) (f h : ℕ → ℕ → Bool) (i j : ℕ) → n ≤ 24 → Joins f i j h → Certified o n d (l n f) → Certified o n d (l n h)

module _ {C D : Type 0} (o : Ops C) (p : Ops D) where
  -- two encodings over two fields have one bound, and for each graph the same exponents in the same order, all coefficients one
  pub record Alike (l : ℕ → (ℕ → ℕ → Bool) → List (List (Term C))) (most : ℕ) (l' : ℕ → (ℕ → ℕ → Bool) → List (List (Term D))) (most' : ℕ) : Type 0 where
    pub high : most ≡ most'
    pub lists : (n : ℕ) (f : ℕ → ℕ → Bool) → SameOnes o p (l n f) (l' n f)

  -- the plain encoding is alike over every two fields
  abbrev pub PlainAlike : Type 0
  PlainAlike = Alike (plain o.one) 300 (plain p.one) 300

  -- encodings that are alike stay so where each has the triangles added
  abbrev pub TrianglesAlike : (ℕ → (ℕ → ℕ → Bool) → List (List (Term C))) → ℕ → (ℕ → (ℕ → ℕ → Bool) → List (List (Term D))) → ℕ → Type 0
  TrianglesAlike l most l' most' =
      Alike l most l' most' →
      Alike (with_triangles o.one most l) (raised most) (with_triangles p.one most' l') (raised most')
