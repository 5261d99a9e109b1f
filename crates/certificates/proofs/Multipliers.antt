-- The multiplier that is written into the front of 24 zeros. Assumes nothing.
use Rattle.std.proofs.Common.{◌≡◌, ℕ, ◌+◌, ◌-◌, ◌<◌, ◌≤◌, Bool, true, false, List, [], ◌++◌, length, get_or, take, drop, replicate, MatchBool, sym, ap, ◌∙◌, arith, length-take}
use Rattle.std.proofs.lemmas.List.{drop-replicate}
use Rattle.monomials.specs.Order.{at_most}
use Rattle.monomials.specs.Reach.{reached, Written}
use Rattle.monomials.proofs.Places.{onto}
use Rattle.monomials.proofs.Reach.{reached_inside}
use Rattle.polynomials.specs.Monomial.{monomial_at, count}
use Rattle.polynomials.specs.Polynomial.{zeros}

taken : (b : Bool) (P Q : Type 0) → b ≡ true → MatchBool b P Q → P
taken true P Q e w = w
taken false P Q e w = let z : ◌≡◌ {A = ℕ} 0 1 = cc in absurd (omega arith)

pub multiplier_is : (v d r : ℕ) (ys : List ℕ) (b : Bool) → v ≤ 24 → v + d ≤ 75 → count v d ≤ 1000000 → r < count v d
    → b ≡ reached (length (take v zeros)) d r → MatchBool b (Written (length (take v zeros)) d r ys) (ys ≡ take v zeros)
    → ys ++ drop v zeros ≡ monomial_at v d r
unfolding monomial_at
multiplier_is v d r ys b few narrow small below e w =
    let cut : length (take v zeros) ≡ v = length-take v zeros ∙ omega arith in
    let ok : b ≡ true = e ∙ ap (λ (n : ℕ). reached n d r) cut ∙ reached_inside v d r few narrow small below in
    let is : ys ≡ get_or (at_most v d) r [] = (taken b (Written (length (take v zeros)) d r ys) (ys ≡ take v zeros) ok w).is ∙ ap (λ (n : ℕ). get_or (at_most n d) r []) cut in
    let long : length (get_or (at_most v d) r []) ≡ v = (onto v d r below).0 in
    ap (λ (zs : List ℕ). zs ++ drop v zeros) is
    ∙ ap (λ (zs : List ℕ). get_or (at_most v d) r [] ++ zs) (drop-replicate v 24 0 ∙ ap (λ (n : ℕ). replicate (24 - n) 0) (sym long))
