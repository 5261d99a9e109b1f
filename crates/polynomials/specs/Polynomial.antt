-- What a polynomial in the 24 variables is: a list of terms, in any order, read by its coefficient at each exponent list.
-- The terms with the same exponents add up. Assumes nothing.
use Rattle.std.specs.Prelude.{◌≡◌, ℕ, ◌+◌, Bool, true, false, cond, ◌&&◌, List, [], ◌∷◌, map, replicate, ◌==◌, ◌≢◌}
use Rattle.fields.specs.Field.{Ops}
use Rattle.polynomials.specs.declared.term.Term.{Term}

-- the exponents of the monomial one
abbrev pub zeros : List ℕ
zeros = replicate 24 0

-- the two exponent lists are the same
abbrev pub alike : List ℕ → List ℕ → Bool
alike [] [] = true
alike [] (f ∷ fs) = false
alike (e ∷ es) [] = false
alike (e ∷ es) (f ∷ fs) = e == f && alike es fs

-- the exponents of a product of two monomials
abbrev pub plus : List ℕ → List ℕ → List ℕ
plus [] fs = fs
plus (e ∷ es) [] = e ∷ es
plus (e ∷ es) (f ∷ fs) = (e + f) ∷ plus es fs

module _ {F : Type 0} (o : Ops F) where
  -- the sum of the coefficients of the terms with the exponents e
  abbrev pub coefficient : List (Term F) → List ℕ → F
  coefficient [] e = o.zero
  coefficient (t ∷ p) e = o.add (cond (alike t.exponents e) t.coeff o.zero) (coefficient p e)

  -- all coefficients are equal
  abbrev pub Equal : List (Term F) → List (Term F) → Type 0
  Equal p q = (e : List ℕ) → coefficient p e ≡ coefficient q e

  -- the polynomial one: one at the monomial one, zero at every other; no power is folded into a lower one
  pub record IsOne (p : List (Term F)) : Type 0 where
    pub unit : coefficient p zeros ≡ o.one
    pub others : (e : List ℕ) → (e ≢ zeros) → coefficient p e ≡ o.zero

  -- the polynomial one, as one term
  abbrev pub unity : List (Term F)
  unity = record { coeff = o.one; exponents = zeros } ∷ []

  -- the polynomial times a constant
  abbrev pub scaled : F → List (Term F) → List (Term F)
  scaled k p = map (λ t. record { coeff = o.mul k t.coeff; exponents = t.exponents }) p

-- the polynomial times the monomial with the exponents m
abbrev pub times : {F : Type 0} → List ℕ → List (Term F) → List (Term F)
times m p = map (λ t. record { coeff = t.coeff; exponents = plus m t.exponents }) p
