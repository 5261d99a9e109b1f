-- The sizes of a degree within their limits. Assumes nothing.
use Rattle.std.proofs.Common.{ℕ, ◌+◌, ◌*◌, ◌≤◌, ap, inl, inr, mul-le-mul_right, one-mul, arith}
use Rattle.polynomials.proofs.Ranks.{count_positive}
use Rattle.certificates.specs.declared.sizes.Sizes.{Sizes}
use Rattle.certificates.specs.Measures.{Excess, Measured}

-- the sizes are within the limit
pub not_excess : (e n d : ℕ) (z : Sizes) → Measured e n d z → Excess e n d → ⊥
not_excess e n d z is (inl x) = omega (arith, is.few_rows)
not_excess e n d z is (inr x) = omega (arith, is.few_products)

-- there are fewer products than elements of the matrix
pub products_inside : (e n d : ℕ) (z : Sizes) → n ≤ 24 → Measured e n d z → z.products ≤ z.cells
products_inside e n d z few is =
    let some : 1 ≤ z.rows = omega (arith, ap (λ (s : Sizes). s.rows) is.is, count_positive n (d + 3) few) in
    let wide : 1 * (z.products + 1) ≤ z.rows * (z.products + 1) = mul-le-mul_right (z.products + 1) some in
    omega (arith, wide, one-mul (z.products + 1), ap (λ (s : Sizes). s.cells) is.is, ap (λ (s : Sizes). s.rows * (s.products + 1)) is.is)
