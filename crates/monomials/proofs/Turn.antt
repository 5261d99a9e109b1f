-- One turn of a loop that goes over the exponents.
-- Assumes nothing.
use Rattle.std.proofs.Common.{◌≡◌, ℕ, zero, suc, ◌+◌, ◌-◌, ◌<◌, ◌≤◌, List, [], ◌∷◌, ◌++◌, length, get_or, drop, sum, sym, refl, ap, ◌∙◌, arith, length-drop}
use Rattle.std.proofs.lemmas.List.{drop_more, drop_all}
use Rattle.std.proofs.lemmas.List.Sums.{sum_by-cons}
use Rattle.monomials.specs.Choose.{choose}
use Rattle.monomials.specs.Order.{degree, lower, rank_of}
use Rattle.monomials.proofs.Binomials.{choose_most}
use Rattle.monomials.proofs.Places.{placed}

pub degree_drop : (i : ℕ) (xs : List ℕ) → degree (drop i xs) ≤ degree xs
degree_drop zero xs = omega arith
degree_drop (suc i) [] = omega arith
degree_drop (suc i) (x ∷ xs) = omega (arith, degree_drop i xs)

pub degree_append : (xs ys : List ℕ) → degree (xs ++ ys) ≡ degree xs + degree ys
degree_append [] ys = omega arith
degree_append (x ∷ xs) ys = omega (arith, degree_append xs ys)

pub degree_is_sum : (xs : List ℕ) → degree xs ≡ sum xs
degree_is_sum [] = refl
degree_is_sum (x ∷ xs) = ap (λ (n : ℕ). x + n) (degree_is_sum xs) ∙ sym (sum_by-cons (λ n. n) x xs)

pub lower_is : (m t : ℕ) → 0 < t → lower m t ≡ choose (m + t - 1) m
unfolding lower
lower_is m zero h = absurd (omega arith)
lower_is m (suc t) h = ap (λ (a : ℕ). choose a m) (omega arith)

-- as many of a lower degree in some of the variables are no more than all
pub lower_most : (n m d e : ℕ) → n ≤ m → d ≤ e → lower n d ≤ choose (m + e) m
unfolding lower
lower_most n m zero e h k = omega arith
lower_most n m (suc d) e h k = choose_most n m d e h (omega arith)

pub lower_none : (m t : ℕ) → t ≡ 0 → lower m t ≡ 0
unfolding lower
lower_none m zero h = refl
lower_none m (suc t) h = absurd (omega arith)

-- the turn at i, where what stands from i on is left
module _ (xs : List ℕ) (i : ℕ) (l : i < length xs) where
  step : drop i xs ≡ get_or xs i 0 ∷ drop (i + 1) xs
  step = drop_more xs i 0 l

  pub degree_step : degree (drop i xs) ≡ get_or xs i 0 + degree (drop (i + 1) xs)
  degree_step = ap degree step

  pub rank_step : rank_of (drop i xs) ≡ lower (length xs - i) (degree (drop i xs)) + rank_of (drop (i + 1) xs)
  unfolding rank_of
  rank_step =
      let len : suc (length (drop (i + 1) xs)) ≡ length xs - i = omega (arith, length-drop (i + 1) xs) in
      ap rank_of step
      ∙ ap (λ (m : ℕ). lower m (get_or xs i 0 + degree (drop (i + 1) xs)) + rank_of (drop (i + 1) xs)) len
      ∙ ap (λ (d : ℕ). lower (length xs - i) d + rank_of (drop (i + 1) xs)) (sym degree_step)

-- nothing is left past the end
pub rank_past : (xs : List ℕ) (i : ℕ) → i ≡ length xs → rank_of (drop i xs) ≡ 0
unfolding rank_of
rank_past xs i e = ap rank_of (drop_all i xs (omega arith))

-- a place is below a count of more variables and a higher degree
pub rank_below : (xs : List ℕ) (n e : ℕ) → length xs ≤ n → degree xs ≤ e → rank_of xs < choose (n + e) n
rank_below xs n e h k = omega (arith, (placed xs (degree xs) (omega arith)).0, choose_most (length xs) n (degree xs) e h k)

pub some_below : (m t p : ℕ) → p < lower m t → 0 < t
unfolding lower
some_below m zero p h = absurd (omega arith)
some_below m (suc t) p h = omega arith
