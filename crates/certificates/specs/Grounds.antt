-- Grounds for refusal, the first that holds, and those on which working a degree is refused. Assumes nothing.
use Rattle.std.specs.Prelude.{◌≡◌, ℕ, ◌<◌, ◌≤◌, ◌⊎◌, List, [], ◌∷◌, ◌++◌, length, Ok, Err, Result}
use Rattle.fields.specs.Field.{Ops}
use Rattle.polynomials.specs.declared.term.Term.{Term}
use Rattle.certificates.specs.declared.refusal.Refusal.{Refusal}
use Rattle.certificates.specs.declared.refusal.Refusal.TheVariants.{TableTooSmall, OutputTooSmall, LastDegree, TooLarge}
use Rattle.certificates.specs.declared.verdict.Verdict.{Verdict}
use Rattle.certificates.specs.Outcome.{Memory, Worked}
use Rattle.layout.specs.Length.{certificate_bytes}
use Rattle.certificates.specs.Sizes.{products, rows, cells}
use Rattle.certificates.specs.declared.sizes.Sizes.{Sizes}
use Rattle.certificates.specs.Measures.{Measured}

-- A ground for refusal: its name, and when it holds.
pub record Ground : Type 1 where
  pub name : Refusal
  pub holds : Type 0

abbrev pub if : Refusal → Type 0 → Ground
if r p = record { name = r; holds = p }

-- r names the first ground that holds.
abbrev pub First : List Ground → Refusal → Type 0
First [] r = ⊥
First (g ∷ gs) r = (g.holds × (r ≡ g.name)) ⊎ ((g.holds → ⊥) × First gs r)

-- No ground holds.
abbrev pub Clear : List Ground → Type 0
Clear [] = Unit {0}
Clear (g ∷ gs) = (g.holds → ⊥) × Clear gs

-- More than a million rows or products: e equations, n vertices, degree d.
abbrev pub large : ℕ → ℕ → ℕ → Ground
large e n d = if TooLarge ((1000000 < rows n d) ⊎ (1000000 < products e n d))

-- A matrix that is too large, a table that has too few elements for it, or too few bytes for a certificate: e equations,
-- n vertices, degree d.
abbrev pub room : ℕ → ℕ → ℕ → ℕ → ℕ → List Ground
room e n d elements bytes =
    large e n d
    ∷ if TableTooSmall (elements < cells e n d)
    ∷ if OutputTooSmall (bytes < certificate_bytes (products e n d))
    ∷ []

-- A degree that is not worked.
abbrev pub limit : ℕ → List Ground
limit d = if LastDegree (48 < d) ∷ []

-- The sizes of a degree that is worked, within the limits and within the memory.
pub record Fitted (e n d elements bytes : ℕ) (z : Sizes) : Type 0 where
  pub low : d ≤ 48
  pub measured : Measured e n d z
  pub table : z.cells ≤ elements
  pub output : z.bytes ≤ bytes
  pub clear : Clear (limit d ++ room e n d elements bytes)

-- Working degree d for n vertices and their equations: refused, with the memory as it was, or its verdict.
abbrev pub Works : {F : Type 0} → Ops F → ℕ → ℕ → List (List (Term F)) → Memory F → Result Verdict Refusal → Memory F → Type 0
Works o n d equations m (Ok v) k =
    Clear (limit d ++ room (length equations) n d (length m.table) (length m.certificate)) × Worked o n d equations m v k
Works o n d equations m (Err r) k =
    First (limit d ++ room (length equations) n d (length m.table) (length m.certificate)) r × (k ≡ m)
