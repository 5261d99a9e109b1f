-- What the calls answer inside of their reach.
-- Assumes nothing.
use Rattle.std.proofs.Common.{◌≡◌, ℕ, ◌+◌, ◌<◌, ◌≤◌, min, true, List, length, Some, arith, rules}
use Rattle.monomials.specs.Choose.{choose}
use Rattle.monomials.specs.Order.{degree, rank_of}
use Rattle.monomials.proofs.Binomials.{choose_mono}
use Rattle.monomials.specs.Reach.{count_for, rank_for, reached}

pub count_inside : (n e : ℕ) → n ≤ 24 → n + e ≤ 75 → count_for n e ≡ Some (min 1000001 (choose (n + e) n))
unfolding count_for
count_inside n e h k = search rules

-- where all monomials up to a higher degree are listed
pub rank_within : (xs : List ℕ) (e : ℕ) → degree xs ≤ e → length xs ≤ 24 → length xs + e ≤ 75 → choose (length xs + e) (length xs) ≤ 1000000 →
    rank_for xs ≡ Some (rank_of xs)
unfolding rank_for
rank_within xs e d a b c =
    let least : choose (length xs + degree xs) (length xs) ≤ 1000000 = omega (arith, choose_mono (length xs) (degree xs) e d) in
    let narrow : length xs + degree xs ≤ 75 = omega arith in
    search rules

pub reached_inside : (n e place : ℕ) → n ≤ 24 → n + e ≤ 75 → choose (n + e) n ≤ 1000000 → place < choose (n + e) n → reached n e place ≡ true
unfolding reached
reached_inside n e place a b c d = search rules
