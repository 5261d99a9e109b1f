-- Certificates over an encoding: no proper coloring stands beside one, and one more vertex or edge keeps it.
use Rattle.std.proofs.Common.{ℕ, ◌+◌, ◌<◌, ◌≤◌, Bool, List, arith}
use Rattle.fields.specs.Field.{Ops, Laws}
use Rattle.polynomials.specs.declared.term.Term.{Term}
use Rattle.polynomials.specs.Certificate.{Certified}
use Rattle.polynomials.proofs.Certificates.{certificates_stay}
use Rattle.polynomials.proofs.Values.{certificates_exclude}
use Rattle.coloring.specs.Coloring.{Color, Proper}
use Rattle.coloring.specs.Encoding.{Joins, Lawful}
use Rattle.coloring.specs.Roots.{root}
use Rattle.coloring.specs.Theorems.{CertificatesGrow}

module _ {C : Type 0} {o : Ops C} (laws : Laws o) (l : ℕ → (ℕ → ℕ → Bool) → List (List (Term C))) (lawful : Lawful o l) where
  pub no_coloring : (n d : ℕ) (f : ℕ → ℕ → Bool) → n ≤ 24 → Certified o n d (l n f) → (c : ℕ → Color) → Proper n f c → ⊥
  no_coloring n d f h certified c proper =
      certificates_exclude laws n d (l n f) (λ i. root o (c i)) (lawful.vanishes n f c h proper) certified

  pub grows_vertex : (n d : ℕ) (f : ℕ → ℕ → Bool) → n < 24 → Certified o n d (l n f) → Certified o (n + 1) d (l (n + 1) f)
  grows_vertex n d f h = certificates_stay laws n (n + 1) d (l n f) (l (n + 1) f) (omega arith) (lawful.vertex n f h)

  pub grows_edge : (n d : ℕ) (f h : ℕ → ℕ → Bool) (i j : ℕ) → n ≤ 24 → Joins f i j h → Certified o n d (l n f) → Certified o n d (l n h)
  grows_edge n d f h i j few joins = certificates_stay laws n n d (l n f) (l n h) (omega arith) (lawful.edge n f h i j few joins)

  pub certificates_grow : CertificatesGrow o l
  certificates_grow = record { vertex = grows_vertex; edge = grows_edge }
