-- What working a degree comes to: the certificate of that degree that uses independent products only, or that there is none.
-- n vertices, degree d, and the equations that an encoding lists. Assumes nothing.
use Rattle.std.specs.Prelude.{◌≡◌, ℕ, ◌<◌, Bool, true, false, List, ◌++◌, length, drop, replicate, Some, None, Option, slice_index_or}
use Rattle.fields.specs.Field.{Ops}
use Rattle.polynomials.specs.declared.term.Term.{Term}
use Rattle.polynomials.specs.Certificate.{Certified}
use Rattle.polynomials.specs.Polynomial.{IsOne}
use Rattle.polynomials.specs.Product.{products, combination, UsesIndependent}
use Rattle.certificates.specs.declared.verdict.Verdict.{Verdict}
use Rattle.certificates.specs.declared.verdict.Verdict.TheVariants.{Infeasible, Open}
use Rattle.layout.specs.Certificate.{bytes_of, over}
use Rattle.certificates.specs.Sizes.{cells}

-- The memory that a call is lent: a table of field elements, and bytes for a certificate.
pub record Memory (F : Type 0) : Type 0 where
  pub table : List F
  pub certificate : List ℕ

abbrev pub memory : {F : Type 0} → List F → List ℕ → Memory F
memory t c = record { table = t; certificate = c }

module _ {F : Type 0} (o : Ops F) (n d : ℕ) (equations : List (List (Term F))) where
  -- The products with the coefficients x add up to one, no dependent product is used, and no other coefficients do that.
  pub record Chosen (x : ℕ → F) : Type 0 where
    pub sums : IsOne o (combination o n d equations x)
    pub independent : UsesIndependent o n d equations x
    pub only : (y : ℕ → F) → IsOne o (combination o n d equations y) → UsesIndependent o n d equations y → (p : ℕ) → p < products n d equations → y p ≡ x p

  -- The answer says whether a certificate exists; the coefficients of the chosen one then stand in front of the list.
  pub record Decided (xs : List F) (answer : Bool) : Type 0 where
    pub found : answer ≡ true → Chosen (λ p. slice_index_or xs p o.zero)
    pub none : answer ≡ false → Certified o n d equations → ⊥

  -- the bytes of the certificate with the coefficients x
  abbrev pub written : (ℕ → F) → List ℕ
  written x = bytes_of o (products n d equations) x n d (length equations)

  -- Whether a certificate of the degree was found and written, with its length; else there is none, and no byte is written.
  abbrev pub Sought : List ℕ → Option ℕ → List ℕ → Type 0
  Sought before (Some k) after = (x : ℕ → F) × Chosen x × (k ≡ length (written x)) × (after ≡ over (written x) before)
  Sought before None after = (Certified o n d equations → ⊥) × (after ≡ before)

  -- what is left of the table: zeros in the part that the matrix took, everything beyond as it was
  abbrev pub cleared : List F → List F
  cleared table = replicate (cells (length equations) n d) o.zero ++ drop (cells (length equations) n d) table

  -- The verdict of a degree, and the memory after it.
  pub data Worked (m : Memory F) : Verdict → Memory F → Type 0 where
    -- the chosen certificate is written, and the bytes past it are as they were
    certified : (x : ℕ → F) → Chosen x → Worked m (Infeasible d (length (written x))) (memory (cleared m.table) (over (written x) m.certificate))
    -- there is no certificate of this degree, and no byte is written
    uncertified : (Certified o n d equations → ⊥) → Worked m (Open d) (memory (cleared m.table) m.certificate)
