-- The exponents of a monomial in one or two of the variables.
use Rattle.std.specs.Prelude.{◌≡◌, ℕ, zero, suc, ◌+◌, ◌<◌, ◌≤◌, List, [], ◌∷◌, length, replicate, ◌≢◌, slice_index, slice_set, refl}
use Rattle.std.proofs.Common.{◌∙◌, arith, length-set, get_or-set_same, get_or-set_other}
use Rattle.polynomials.specs.Polynomial.{zeros}
use Rattle.monomials.specs.Order.{degree}

all_zero : (n k : ℕ) → ◌≡◌ {A = ℕ} (slice_index (replicate n 0) k) 0
all_zero zero k = refl
all_zero (suc n) zero = refl
all_zero (suc n) (suc k) = all_zero n k

pub zero_at : (k : ℕ) → slice_index zeros k ≡ 0
zero_at = all_zero 24

-- an exponent that is set adds at most itself to the degree
pub degree_set : (xs : List ℕ) (i e : ℕ) → degree (slice_set xs i e) ≤ degree xs + e
degree_set [] i e = omega arith
degree_set (x ∷ xs) zero e = omega arith
degree_set (x ∷ xs) (suc i) e = let h = degree_set xs i e in omega (arith, h)

module _ (i e : ℕ) where
  pub degree_power : degree (slice_set zeros i e) ≤ e
  degree_power = let h = degree_set zeros i e in omega (arith, h)

  pub power_wide : length (slice_set zeros i e) ≡ 24
  power_wide = length-set zeros i e

  pub power_here : i < 24 → slice_index (slice_set zeros i e) i ≡ e
  power_here h = get_or-set_same zeros i e 0 h

  pub power_other : (k : ℕ) → (k ≢ i) → slice_index (slice_set zeros i e) k ≡ 0
  power_other k n = get_or-set_other zeros i k e 0 n ∙ zero_at k

module _ (i j : ℕ) where
  pub degree_product : degree (slice_set (slice_set zeros i 1) j 1) ≤ 2
  degree_product = let h = degree_set (slice_set zeros i 1) j 1 in let k = degree_power i 1 in omega (arith, h, k)

  pub product_wide : length (slice_set (slice_set zeros i 1) j 1) ≡ 24
  product_wide = length-set (slice_set zeros i 1) j 1 ∙ length-set zeros i 1

  pub product_low : i < 24 → (i ≢ j) → slice_index (slice_set (slice_set zeros i 1) j 1) i ≡ 1
  product_low h n = get_or-set_other (slice_set zeros i 1) j i 1 0 n ∙ power_here i 1 h

  pub product_other : (k : ℕ) → (k ≢ i) → (k ≢ j) → slice_index (slice_set (slice_set zeros i 1) j 1) k ≡ 0
  product_other k n m = get_or-set_other (slice_set zeros i 1) j k 1 0 m ∙ power_other i 1 k n
