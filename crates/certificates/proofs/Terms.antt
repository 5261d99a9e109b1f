-- The terms of a product: their exponents fit a byte, and their monomials have a rank. Assumes nothing.
use Rattle.std.proofs.Common.{◌≡◌, ℕ, zero, suc, ◌+◌, ◌<◌, ◌≤◌, List, [], ◌∷◌, length, get_or, take, Some, sym, ap, ◌∙◌, subst, arith, length-take}
use Rattle.fields.specs.Field.{Ops}
use Rattle.coloring.specs.Encoding.{Sound}
use Rattle.monomials.specs.Choose.{choose}
use Rattle.monomials.specs.Order.{degree, rank_of}
use Rattle.monomials.specs.Reach.{rank_for}
use Rattle.monomials.proofs.Reach.{rank_within}
use Rattle.polynomials.specs.declared.term.Term.{Term}
use Rattle.polynomials.specs.Monomial.{Monomial, count}
use Rattle.polynomials.proofs.Ranks.{ranked}

-- an exponent is at most the degree
place_below : (m : List ℕ) (i : ℕ) → get_or m i 0 ≤ degree m
place_below [] i = omega arith
place_below (x ∷ m) zero = omega arith
place_below (x ∷ m) (suc i) = omega (arith, place_below m i)

degree_take : (n : ℕ) (m : List ℕ) → degree (take n m) ≤ degree m
degree_take zero m = omega arith
degree_take (suc n) [] = omega arith
degree_take (suc n) (x ∷ m) = omega (arith, degree_take n m)

-- a term of an equation has a monomial of degree at most three
pub sound_monomial : {F : Type 0} {o : Ops F} (n : ℕ) (t : Term F) → Sound o n t → Monomial n 3 t.exponents
sound_monomial n t s = record { long = s.wide; rest = s.within; most = s.low }

-- exponents of low degree add up in a byte
pub byte_sums : (n d : ℕ) (m f : List ℕ) → d ≤ 48 → Monomial n d m → Monomial n 3 f → (i : ℕ) → get_or m i 0 + get_or f i 0 < 256
byte_sums n d m f low a b i = omega (arith, place_below m i, place_below f i, a.most, b.most)

-- the first n exponents have a rank, which is a row
pub row_of : (n d v : ℕ) (m : List ℕ) → v ≡ n → n ≤ 24 → d ≤ 48 → count n (d + 3) ≤ 1000000 → Monomial n (d + 3) m
    → (rank_for (take v m) ≡ Some (rank_of (take n m))) × (rank_of (take n m) < count n (d + 3))
row_of n d v m e few low small a =
    let cut : length (take n m) ≡ n = length-take n m ∙ omega (arith, a.long) in
    let same : v ≡ n = e in
    let most : degree (take n m) ≤ d + 3 = omega (arith, degree_take n m, a.most) in
    let few-cut : length (take n m) ≤ 24 = omega (arith, cut) in
    let narrow : length (take n m) + (d + 3) ≤ 75 = omega (arith, cut) in
    let rows : choose (length (take n m) + (d + 3)) (length (take n m)) ≤ 1000000 = subst (λ (k : ℕ). choose (k + (d + 3)) k ≤ 1000000) (sym cut) small in (
      ap (λ (k : ℕ). rank_for (take k m)) same ∙ rank_within (take n m) (d + 3) most few-cut narrow rows,
      (ranked n (d + 3) m few a).below,
    )
