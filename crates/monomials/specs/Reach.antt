-- How far the calls reach, and what they answer: up to 24 variables, and variables and degree together up to 75, which is
-- as far as the table goes; places only where there are at most a million monomials.
-- Assumes nothing.
use Rattle.std.specs.Prelude.{◌≡◌, ℕ, ◌+◌, ◌≤◌, min, Bool, cond, ◌&&◌, List, [], length, Some, None, Option, nat_le, nat_lt, slice_index_or}
use Rattle.monomials.specs.Choose.{choose}
use Rattle.monomials.specs.Order.{degree, at_most, rank_of}

-- the table has the count of the monomials in n variables of degree at most e
abbrev pub tabled : ℕ → ℕ → Bool
tabled n e = nat_le n 24 && nat_le (n + e) 75

-- it has, and they are at most a million
abbrev pub listed : ℕ → ℕ → Bool
listed n e = tabled n e && nat_le (choose (n + e) n) 1000000

-- how many there are, or a million and one where there are more
unfoldable pub count_for : ℕ → ℕ → Option ℕ
count_for n e = cond (tabled n e) (Some (min 1000001 (choose (n + e) n))) None

-- a count of at most a million is that of the monomials in their order
abbrev pub Lists : ℕ → ℕ → Option ℕ → Type 0
Lists n e (Some k) = k ≤ 1000000 → k ≡ length (at_most n e)
Lists n e None = Unit {0}

-- the place of a monomial
unfoldable pub rank_for : List ℕ → Option ℕ
rank_for xs = cond (listed (length xs) (degree xs)) (Some (rank_of xs)) None

-- the place is one of those of the monomials in n variables of degree at most e
unfoldable pub reached : ℕ → ℕ → ℕ → Bool
reached n e place = listed n e && nat_lt place (choose (n + e) n)

-- xs is the monomial at the place
pub record Written (n e place : ℕ) (xs : List ℕ) : Type 0 where
  pub is : xs ≡ slice_index_or (at_most n e) place []
  pub ranked : rank_of xs ≡ place
  pub most : degree xs ≤ e
