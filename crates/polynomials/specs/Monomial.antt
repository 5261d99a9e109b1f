-- Monomials in the first n of the 24 variables, each the list of its 24 exponents, and polynomials made of them.
-- The order of the monomials in n variables is that of the crate `monomials`; zeros stand for the other variables.
-- Assumes nothing.
use Rattle.std.specs.Prelude.{◌≡◌, ℕ, ◌+◌, ◌-◌, ◌<◌, ◌≤◌, List, [], ◌++◌, length, take, replicate, slice_index, slice_index_or}
use Rattle.std.specs.List.{AllByRecursion}
use Rattle.monomials.specs.Choose.{choose}
use Rattle.monomials.specs.Order.{degree, at_most, rank_of}
use Rattle.polynomials.specs.declared.term.Term.{Term}

-- m is a monomial in the first n of the 24 variables, of degree at most d
pub record Monomial (n d : ℕ) (m : List ℕ) : Type 0 where
  pub long : length m ≡ 24
  pub rest : (i : ℕ) → n ≤ i → slice_index m i ≡ 0
  pub most : degree m ≤ d

-- each term of p has such a monomial
abbrev pub Within : {F : Type 0} → ℕ → ℕ → List (Term F) → Type 0
Within n d p = AllByRecursion (λ t. Monomial n d t.exponents) p

-- the equations are in the first n variables, and of degree at most three
pub record Formed {F : Type 0} (n : ℕ) (equations : List (List (Term F))) : Type 0 where
  pub few : n ≤ 24
  pub terms : (k : ℕ) → k < length equations → Within n 3 (slice_index_or equations k [])

-- the exponents of all 24 variables, from those of the first ones
abbrev pub padded : List ℕ → List ℕ
padded m = m ++ replicate (24 - length m) 0

-- the monomial of rank r among those in n variables of degree at most d
unfoldable pub monomial_at : ℕ → ℕ → ℕ → List ℕ
monomial_at n d r = padded (slice_index_or (at_most n d) r [])

-- how many monomials there are in n variables of degree at most d
abbrev pub count : ℕ → ℕ → ℕ
count n d = choose (n + d) n

-- cut to the first n places, the exponents have a rank among those of degree at most d, and the other places have zero
pub record Ranked (n d : ℕ) (m : List ℕ) : Type 0 where
  pub below : rank_of (take n m) < count n d
  pub same : monomial_at n d (rank_of (take n m)) ≡ m
