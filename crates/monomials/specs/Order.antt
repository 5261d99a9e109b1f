-- The monomials in n variables, each the list of its exponents, in order: the lower degree first, and within one degree
-- the larger exponent of the first variable first, then of the second, and so on.
-- Assumes nothing.
use Rattle.std.specs.Prelude.{◌≡◌, ℕ, zero, suc, ◌+◌, ◌-◌, ◌<◌, ◌≤◌, ◌⊎◌, List, [], ◌∷◌, ◌++◌, map, length, slice_index_or}
use Rattle.monomials.specs.Choose.{choose}

abbrev pub degree : List ℕ → ℕ
degree [] = 0
degree (x ∷ xs) = x + degree xs

-- one variable more in front, with the exponent that makes the degree e
abbrev pub lead : ℕ → List ℕ → List ℕ
lead e ys = (e - degree ys) ∷ ys

-- the lists at 0, 1, .. e, one after the other
unfoldable pub up_to : (ℕ → List (List ℕ)) → ℕ → List (List ℕ)
up_to f zero = f zero
up_to f (suc e) = up_to f e ++ f (suc e)

-- those of degree e: the less the other variables have, the more the first one has
unfoldable pub exactly : ℕ → ℕ → List (List ℕ)
exactly zero zero = [] ∷ []
exactly zero (suc e) = []
exactly (suc n) e = map (lead e) (up_to (exactly n) e)

-- those of degree at most e
abbrev pub at_most : ℕ → ℕ → List (List ℕ)
at_most n e = up_to (exactly n) e

-- how many have a lower degree than e
unfoldable pub lower : ℕ → ℕ → ℕ
lower n zero = 0
lower n (suc e) = choose (n + e) n

-- the place of a monomial, counted from 0: those of a lower degree come first, and then, within its degree, it stands
-- where the other variables' exponents stand among those in one variable fewer
unfoldable pub rank_of : List ℕ → ℕ
rank_of [] = 0
rank_of (x ∷ xs) = lower (suc (length xs)) (x + degree xs) + rank_of xs

-- how many there are
abbrev pub Counted : Type 0
Counted = (n e : ℕ) → length (at_most n e) ≡ choose (n + e) n

-- each stands at its place
abbrev pub Placed : Type 0
Placed = (xs : List ℕ) (e : ℕ) → degree xs ≤ e →
    (rank_of xs < choose (length xs + e) (length xs)) × (slice_index_or (at_most (length xs) e) (rank_of xs) [] ≡ xs)

-- each place is taken by a monomial of that many variables and at most that degree, whose place it is
abbrev pub Onto : Type 0
Onto = (n e r : ℕ) → r < choose (n + e) n →
    (length (slice_index_or (at_most n e) r []) ≡ n) × (degree (slice_index_or (at_most n e) r []) ≤ e) × (rank_of (slice_index_or (at_most n e) r []) ≡ r)

-- at the first variable in which the two differ, xs has the larger exponent
abbrev pub Ahead : List ℕ → List ℕ → Type 0
Ahead [] ys = ⊥
Ahead (x ∷ xs) [] = ⊥
Ahead (x ∷ xs) (y ∷ ys) = (y < x) ⊎ ((x ≡ y) × Ahead xs ys)

-- xs comes before ys: it has the lower degree, or the same and is ahead
abbrev pub Before : List ℕ → List ℕ → Type 0
Before xs ys = (degree xs < degree ys) ⊎ ((degree xs ≡ degree ys) × Ahead xs ys)

-- places compare exactly as the order does
abbrev pub Ordered : Type 0
Ordered = (xs ys : List ℕ) → length xs ≡ length ys →
    (Before xs ys → rank_of xs < rank_of ys) × (rank_of xs < rank_of ys → Before xs ys)

-- no two have one place
abbrev pub Apart : Type 0
Apart = (xs ys : List ℕ) → length xs ≡ length ys → rank_of xs ≡ rank_of ys → xs ≡ ys
