-- Checking a certificate: the grounds on which it is refused before its sum is taken, and that it passes exactly when the
-- sum is one. n vertices, and the equations that an encoding lists. Assumes nothing.
use Rattle.std.specs.Prelude.{◌≡◌, ℕ, ◌+◌, ◌*◌, ◌<◌, ◌≤◌, true, ◌⊎◌, List, [], ◌∷◌, ◌++◌, length, drop, replicate, Ok, Err, Result, ◌≢◌}
use Rattle.fields.specs.Field.{Ops}
use Rattle.polynomials.specs.declared.term.Term.{Term}
use Rattle.polynomials.specs.Polynomial.{IsOne}
use Rattle.polynomials.specs.Product.{combination}
use Rattle.certificates.specs.declared.refusal.Refusal.{Refusal}
use Rattle.certificates.specs.declared.refusal.Refusal.TheVariants.{TableTooSmall, MalformedHead, WrongLength, MalformedBody, NotOne, OtherSolver}
use Rattle.certificates.specs.declared.sizes.Sizes.{Sizes}
use Rattle.certificates.specs.Measures.{Measured}
use Rattle.certificates.specs.Grounds.{Ground, if, First, Clear, large}
use Rattle.layout.specs.Reading.{byte, stands, before, Means}
use Rattle.layout.specs.Length.{map_bytes}
use Rattle.certificates.specs.Sizes.{products, rows}

-- the degree that a certificate names
abbrev pub degree_of : List ℕ → ℕ
degree_of bytes = byte bytes 3

-- fewer than six bytes, not form 1, or a degree that is not 1 to 48
abbrev pub MalformedHeads : List ℕ → Type 0
MalformedHeads bytes = (length bytes < 6) ⊎ (byte bytes 0 ≢ 1) ⊎ (degree_of bytes < 1) ⊎ (48 < degree_of bytes)

-- another field, another number of vertices, or another number of equations
abbrev pub Others : ℕ → ℕ → ℕ → List ℕ → Type 0
Others order n e bytes = (byte bytes 1 ≢ order) ⊎ (byte bytes 2 ≢ n) ⊎ (byte bytes 4 * 256 + byte bytes 5 ≢ e)

-- a bit of the map that is no product's stands
abbrev pub BitPast : ℕ → List ℕ → Type 0
BitPast p bytes = (k : ℕ) × (p ≤ k) × (k < 8 * map_bytes p) × (stands bytes k ≡ true)

-- a byte behind the map is 0 or no code
abbrev pub BadCode : ℕ → ℕ → List ℕ → Type 0
BadCode order p bytes = (i : ℕ) × (6 + map_bytes p ≤ i) × (i < length bytes) × ((byte bytes i ≡ 0) ⊎ (order ≤ byte bytes i))

-- What a head is refused on, in order: a field of so many elements, n vertices, e equations.
abbrev pub heads : ℕ → ℕ → ℕ → List ℕ → List Ground
heads order n e bytes = if MalformedHead (MalformedHeads bytes) ∷ if OtherSolver (Others order n e bytes) ∷ []

-- What a check is refused on before it comes to the sum, in order: a field of so many elements, n vertices, e equations, so many elements of the table.
abbrev pub checking : ℕ → ℕ → ℕ → List ℕ → ℕ → List Ground
checking order n e bytes elements =
    let p = products e n (degree_of bytes) in
    if MalformedHead (MalformedHeads bytes)
    ∷ if OtherSolver (Others order n e bytes)
    ∷ large e n (degree_of bytes)
    ∷ if WrongLength (length bytes ≢ 6 + map_bytes p + before bytes p)
    ∷ if MalformedBody (BitPast p bytes ⊎ BadCode order p bytes)
    ∷ if TableTooSmall (elements < rows n (degree_of bytes))
    ∷ []

-- The sizes of the degree that the bytes name, where no ground holds.
pub record Admitted (order n e : ℕ) (bytes : List ℕ) (elements : ℕ) (z : Sizes) : Type 0 where
  pub measured : Measured e n (degree_of bytes) z
  pub clear : Clear (checking order n e bytes elements)

module _ {F : Type 0} (o : Ops F) (n : ℕ) (equations : List (List (Term F))) (bytes : List ℕ) where
  -- the products, each by the coefficient that the certificate gives it, add up to one
  abbrev pub Passes : Type 0
  Passes =
      (x : ℕ → F) × Means o (products (length equations) n (degree_of bytes)) bytes x × IsOne o (combination o n (degree_of bytes) equations x)

  -- what a check that came to the sum leaves of the table: zeros in a row for each monomial, everything beyond as it was
  abbrev pub swept : List F → List F
  swept table = replicate (rows n (degree_of bytes)) o.zero ++ drop (rows n (degree_of bytes)) table

  -- The grounds of the check of these bytes with a table.
  abbrev pub faults : List F → List Ground
  faults table = checking o.size n (length equations) bytes (length table)

  -- The check with a table: it passes, its sum is not one, or it is refused before that with the table as it was.
  abbrev pub Checks : {A : Type 0} → List F → Result A Refusal → List F → Type 0
  Checks table (Ok a) after = Clear (faults table) × Passes × (after ≡ swept table)
  Checks table (Err r) after =
      (First (faults table) r × (after ≡ table)) ⊎ (Clear (faults table) × (Passes → ⊥) × (r ≡ NotOne) × (after ≡ swept table))
