-- Sums of monomials with the coefficient one, over any lawful field: those that stand twice cancel.
use Rattle.std.proofs.Common.{◌≡◌, ℕ, Bool, true, false, cond, List, [], ◌∷◌, map, sym, refl, ap, ◌∙◌, inl, inr}
use Rattle.fields.specs.Field.{Ops, Laws}
use Rattle.fields.specs.Bools.{xor}
use Rattle.algebra.specs.ZeroOne.{digit}
use Rattle.algebra.proofs.Sums.{zero-add}
use Rattle.polynomials.specs.declared.term.Term.{Term}
use Rattle.polynomials.specs.Polynomial.{alike, coefficient, Equal}
use Rattle.polynomials.proofs.Coefficients.{cases_alike, is_alike}
use Rattle.coloring.specs.Equations.{mono}

-- the exponents e stand an odd number of times
abbrev pub odd : List (List ℕ) → List ℕ → Bool
odd [] e = false
odd (f ∷ fs) e = xor (alike f e) (odd fs e)

-- with the exponents e once more, or once less where they stand
abbrev pub toggle : List ℕ → List (List ℕ) → List (List ℕ)
toggle e [] = e ∷ []
toggle e (f ∷ fs) = cond (alike e f) fs (f ∷ toggle e fs)

-- each of the exponents at most once: those that stand twice cancel
abbrev pub settle : List (List ℕ) → List (List ℕ)
settle [] = []
settle (e ∷ es) = toggle e (settle es)

xor_twice : (a b : Bool) → xor a (xor a b) ≡ b
xor_twice true true = refl
xor_twice true false = refl
xor_twice false b = refl

xor_left : (a b c : Bool) → xor a (xor b c) ≡ xor b (xor a c)
xor_left true true c = refl
xor_left true false c = refl
xor_left false b c = refl

odd_toggle : (e : List ℕ) (fs : List (List ℕ)) (g : List ℕ) → odd (toggle e fs) g ≡ xor (alike e g) (odd fs g)
odd_toggle e [] g = refl
odd_toggle e (f ∷ fs) g = elim (cases_alike e f) [
  | inl y ↦
      ap (λ (b : Bool). odd (cond b fs (f ∷ toggle e fs)) g) (is_alike e f y)
      ∙ sym (xor_twice (alike e g) (odd fs g))
      ∙ ap (λ (h : List ℕ). xor (alike e g) (xor (alike h g) (odd fs g))) y
  | inr n ↦
      ap (λ (b : Bool). odd (cond b fs (f ∷ toggle e fs)) g) n
      ∙ ap (xor (alike f g)) (odd_toggle e fs g)
      ∙ xor_left (alike f g) (alike e g) (odd fs g)
]

odd_settle : (es : List (List ℕ)) (g : List ℕ) → odd (settle es) g ≡ odd es g
odd_settle [] g = refl
odd_settle (e ∷ es) g = odd_toggle e (settle es) g ∙ ap (xor (alike e g)) (odd_settle es g)

-- the exponents of the terms
abbrev pub exponents : {F : Type 0} → List (Term F) → List (List ℕ)
exponents p = map (λ t. t.exponents) p

-- the sum of the monomials with these exponents
abbrev pub ones : {F : Type 0} → Ops F → List (List ℕ) → List (Term F)
ones o es = map (mono o.one) es

module _ {F : Type 0} {o : Ops F} (laws : Laws o) where
  digit_add : (a b : Bool) → o.add (digit o a) (digit o b) ≡ digit o (xor a b)
  digit_add true true = laws.add_self o.one
  digit_add true false = laws.add-zero o.one
  digit_add false b = zero-add laws (digit o b)

  digit_apart : (a b : Bool) → digit o a ≡ digit o b → a ≡ b
  digit_apart true true h = refl
  digit_apart true false h = absurd (laws.one_not_zero h)
  digit_apart false true h = absurd (laws.one_not_zero (sym h))
  digit_apart false false h = refl

  coefficient_ones : (es : List (List ℕ)) (e : List ℕ) → coefficient o (ones o es) e ≡ digit o (odd es e)
  coefficient_ones [] e = refl
  coefficient_ones (f ∷ fs) e = ap (o.add (digit o (alike f e))) (coefficient_ones fs e) ∙ digit_add (alike f e) (odd fs e)

  coefficient_odd : (p : List (Term F)) → p ≡ ones o (exponents p) → (e : List ℕ) → coefficient o p e ≡ digit o (odd (exponents p) e)
  coefficient_odd p a e = ap (λ (r : List (Term F)). coefficient o r e) a ∙ coefficient_ones (exponents p) e

  module _ (p q : List (Term F)) (a : p ≡ ones o (exponents p)) (b : q ≡ ones o (exponents q)) where
    -- sums of monomials that settle to the same are equal
    pub settled : settle (exponents p) ≡ settle (exponents q) → Equal o p q
    settled s e =
        coefficient_odd p a e
        ∙ ap (digit o) (sym (odd_settle (exponents p) e) ∙ ap (λ (gs : List (List ℕ)). odd gs e) s ∙ odd_settle (exponents q) e)
        ∙ sym (coefficient_odd q b e)

    -- and in equal ones each monomial stands an odd number of times in both or in neither
    pub equal_odd : Equal o p q → (e : List ℕ) → odd (exponents p) e ≡ odd (exponents q) e
    equal_odd h e = digit_apart (odd (exponents p) e) (odd (exponents q) e) (sym (coefficient_odd p a e) ∙ h e ∙ coefficient_odd q b e)
