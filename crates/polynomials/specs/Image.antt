-- Bits in any field in which one plus one is zero: the bit that is set stands for one, the other for zero.
-- Equations whose coefficients are all one can be read over bits and over the field. Assumes nothing.
use Rattle.std.specs.Prelude.{◌≡◌, ℕ, ◌<◌, cond, List, [], map, length, slice_index_or}
use Rattle.std.specs.List.{AllByRecursion}
use Rattle.fields.specs.Field.{Ops}
use Rattle.fields.specs.declared.bit.Bit.{Bit}
use Rattle.polynomials.specs.declared.term.Term.{Term}

-- the element that a bit stands for
abbrev pub image : {F : Type 0} → Ops F → Bit → F
image o b = cond b.set o.one o.zero

-- all coefficients are one
abbrev pub AllOne : {F : Type 0} → Ops F → List (List (Term F)) → Type 0
AllOne o equations = (k : ℕ) → k < length equations → AllByRecursion (λ t. t.coeff ≡ o.one) (slice_index_or equations k [])

-- the exponents of each term of each equation
abbrev pub exponents_of : {F : Type 0} → List (List (Term F)) → List (List (List ℕ))
exponents_of equations = map (λ p. map (λ t. t.exponents) p) equations

-- equations over two fields with the same exponents, all coefficients one
pub record SameOnes {F G : Type 0} (o : Ops F) (p : Ops G) (equations : List (List (Term F))) (others : List (List (Term G))) : Type 0 where
  pub exponents : exponents_of equations ≡ exponents_of others
  pub first : AllOne o equations
  pub second : AllOne p others

-- the equations with these exponents, and one as each coefficient
abbrev pub with_ones : {F : Type 0} → Ops F → List (List (List ℕ)) → List (List (Term F))
with_ones o exponents = map (λ es. map (λ e. record { coeff = o.one; exponents = e }) es) exponents
