-- Exponents that are written from the first to the last, with what is left of the place.
-- Assumes nothing.
use Rattle.std.proofs.Common.{◌≡◌, ℕ, zero, suc, ◌+◌, ◌-◌, ◌<◌, ◌≤◌, List, [], ◌∷◌, ◌++◌, length, get_or, take, set, sym, refl, ap, ◌∙◌, add-zero, add-one, arith}
use Rattle.std.proofs.lemmas.List.{take_more_set, append_assoc, append-nil, take_all}
use Rattle.monomials.specs.Choose.{choose}
use Rattle.monomials.specs.Order.{degree, lower, rank_of, at_most}
use Rattle.monomials.specs.Reach.{Written}
use Rattle.monomials.proofs.Binomials.{pascal_sum, choose_all, choose_none}
use Rattle.monomials.proofs.Places.{placed}
use Rattle.monomials.proofs.Turn.{lower_none}

-- i of n exponents are written; the others have the degree `top`, and are at the place `left` among those
pub record Underway (max place n i top left : ℕ) (xs : List ℕ) : Type 0 where
  pub most : top ≤ max
  pub within : lower (n - i) top + left < lower (n - i) (top + 1)
  pub ends : (ys : List ℕ) → length ys ≡ n - i → degree ys ≡ top → rank_of ys ≡ lower (n - i) top + left →
      (rank_of (take i xs ++ ys) ≡ place) × (degree (take i xs ++ ys) ≤ max)

pub lower_is_choose : (n t : ℕ) → lower n (t + 1) ≡ choose (n + t) n
unfolding lower
lower_is_choose n t = ap (lower n) (add-one t)

pub lower_step : (v t : ℕ) → lower (suc v) (t + 1) ≡ lower (suc v) t + lower v (t + 1)
unfolding lower
lower_step v zero =
    omega (arith, ap (λ (m : ℕ). choose m (suc v)) (add-zero (suc v)), ap (λ (m : ℕ). choose m v) (add-zero v), choose_all (suc v), choose_all v)
lower_step v (suc t) = lower_is_choose (suc v) (suc t) ∙ pascal_sum v t ∙ ap (λ (m : ℕ). choose (suc v + t) (suc v) + m) (sym (lower_is_choose v (suc t)))

lower_end : (t left : ℕ) → lower 0 t + left < lower 0 (t + 1) → (t ≡ 0) × (left ≡ 0)
unfolding lower
lower_end zero left h = (refl, omega (arith, lower_is_choose 0 0, choose_none (0 + 0)))
lower_end (suc t) left h = absurd (omega (arith, lower_is_choose 0 (suc t), choose_none (0 + suc t), choose_none (0 + t)))

module _ (max place n i top left : ℕ) (xs : List ℕ) (g : Underway max place n i top left xs) (more : i < n) where
  one_less : n - i ≡ suc (n - i - 1)
  one_less = omega arith

  pub left_within : left < lower (n - i - 1) (top + 1)
  left_within =
      omega (arith, g.within, ap (λ (m : ℕ). lower m top) one_less, ap (λ (m : ℕ). lower m (top + 1)) one_less, lower_step (n - i - 1) top)

  -- the later variables have the degree d, and `sub` monomials in them a lower one
  module _ (long : length xs ≡ n) (d sub : ℕ) (le : d ≤ top) (from : lower (n - i - 1) d ≤ left)
      (below : left < lower (n - i - 1) (d + 1)) (is : sub ≡ lower (n - i - 1) d) where
    same : n - (i + 1) ≡ n - i - 1
    same = omega arith

    at_d : lower (n - (i + 1)) d ≡ sub
    at_d = omega (arith, is, ap (λ (m : ℕ). lower m d) same)

    -- the exponent to write, before those that are still to come
    module _ (ys : List ℕ) (l : length ys ≡ n - (i + 1)) (e : degree ys ≡ d) (r : rank_of ys ≡ lower (n - (i + 1)) d + (left - sub)) where
      rank_led : rank_of ((top - d) ∷ ys) ≡ lower (n - i) top + left
      unfolding rank_of
      rank_led =
          let a : suc (length ys) ≡ n - i = omega arith in
          let b : top - d + degree ys ≡ top = omega arith in
          ap (λ (m : ℕ). lower m (top - d + degree ys) + rank_of ys) a
          ∙ ap (λ (m : ℕ). lower (n - i) m + rank_of ys) b
          ∙ omega (arith, at_d, r)

      moved : take (i + 1) (set xs i (top - d)) ++ ys ≡ take i xs ++ ((top - d) ∷ ys)
      moved =
          ap (λ (z : List ℕ). z ++ ys) (take_more_set xs i (top - d) (omega arith))
          ∙ append_assoc (take i xs) ((top - d) ∷ []) ys

      ends_on : (rank_of (take (i + 1) (set xs i (top - d)) ++ ys) ≡ place) × (degree (take (i + 1) (set xs i (top - d)) ++ ys) ≤ max)
      ends_on =
          let f = g.ends ((top - d) ∷ ys) (omega arith) (omega arith) rank_led in
          (ap rank_of moved ∙ f.0, omega (arith, ap degree moved, f.1))

    pub goes_on : Underway max place n (i + 1) d (left - sub) (set xs i (top - d))
    goes_on = record {
      most = omega (arith, g.most);
      within = omega (arith, at_d, ap (λ (m : ℕ). lower m (d + 1)) same);
      ends = ends_on;
    }

-- all are written
pub done : (max place n i top left : ℕ) (xs : List ℕ) → Underway max place n i top left xs → length xs ≡ n → n ≤ i → Written n max place xs
unfolding rank_of
done max place n i top left xs g long past =
    let z : n - i ≡ 0 = omega arith in
    let e = lower_end top left (omega (arith, g.within, ap (λ (m : ℕ). lower m top) z, ap (λ (m : ℕ). lower m (top + 1)) z)) in
    let w : take i xs ++ [] ≡ xs = append-nil (take i xs) ∙ take_all i xs (omega arith) in
    let f = g.ends [] (sym z) (sym e.0) (omega (arith, g.within, ap (λ (m : ℕ). lower m top) z, ap (lower 0) e.0, lower_none 0 0 refl, e.1)) in
    let r : rank_of xs ≡ place = ap rank_of (sym w) ∙ f.0 in
    let m : degree xs ≤ max = omega (arith, ap degree w, f.1) in
    record {
      is =
          sym (placed xs max m).1
          ∙ ap (λ (k : ℕ). get_or (at_most (length xs) max) k []) r
          ∙ ap (λ (v : ℕ). get_or (at_most v max) place []) long;
      ranked = r;
      most = m;
    }
