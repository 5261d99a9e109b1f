-- Counting a degree's matrix from a capped table. Assumes nothing.
use Rattle.std.proofs.Common.{◌≡◌, ℕ, ◌+◌, ◌*◌, ◌/◌, ◌<◌, ◌≤◌, min, Some, None, ap, ◌∙◌, subst, inl, inr, mul-le-mul, arith}
use Rattle.monomials.specs.Choose.{choose}
use Rattle.monomials.specs.Reach.{count_for}
use Rattle.monomials.proofs.Binomials.{choose_mono}
use Rattle.monomials.proofs.Reach.{count_inside}
use Rattle.certificates.specs.declared.sizes.Sizes.{Sizes}
use Rattle.certificates.specs.Sizes.{multipliers, products, rows}
use Rattle.certificates.specs.Measures.{Excess, Measured}

-- a count that the table has
tabled : (n e k : ℕ) → n ≤ 24 → n + e ≤ 75 → Some k ≡ count_for n e → k ≡ min 1000001 (choose (n + e) n)
tabled n e k few near q =
    let w : Some k ≡ Some (min 1000001 (choose (n + e) n)) = q ∙ count_inside n e few near in
    cc

pub untabled : (n e : ℕ) → n ≤ 24 → n + e ≤ 75 → None ≡ count_for n e → ⊥
untabled n e few near q =
    let w : None ≡ Some (min 1000001 (choose (n + e) n)) = q ∙ count_inside n e few near in
    let z : ◌≡◌ {A = ℕ} 0 1 = cc in
    omega arith

-- a product of numbers below the cap and below 4,096 fits a word
pub fits : (e k : ℕ) → e ≤ 4095 → k ≤ 1000001 → e * k ≤ 4095000000 + 4095
fits e k h l = mul-le-mul h l

module _ (n d : ℕ) (few : n ≤ 24) (low : d ≤ 48) where
  pub multipliers_below : multipliers n d ≤ rows n d
  multipliers_below = choose_mono n d (d + 3) (omega arith)

  pub counted_rows : (k : ℕ) → Some k ≡ count_for n (d + 3) → k ≡ min 1000001 (rows n d)
  counted_rows k q = tabled n (d + 3) k few (omega arith) q

  pub counted_multipliers : (k : ℕ) → Some k ≡ count_for n d → k ≡ min 1000001 (multipliers n d)
  counted_multipliers k q = tabled n d k few (omega arith) q

  module _ (r k : ℕ) (p : Some r ≡ count_for n (d + 3)) (q : Some k ≡ count_for n d) where
    pub capped : k ≤ 1000001
    capped = omega (arith, counted_multipliers k q)

    pub many_rows : (e : ℕ) → 1000000 < r → Excess e n d
    many_rows e h = inl (omega (arith, counted_rows r p))

    module _ (h : r ≤ 1000000) where
      exact_rows : r ≡ rows n d
      exact_rows = omega (arith, counted_rows r p)

      exact_multipliers : k ≡ multipliers n d
      exact_multipliers = omega (arith, counted_rows r p, counted_multipliers k q, multipliers_below)

      exact_products : (e : ℕ) → e * k ≡ products e n d
      exact_products e = ap (λ (x : ℕ). e * x) exact_multipliers

      pub many_products : (e : ℕ) → 1000000 < e * k → Excess e n d
      many_products e l = inr (omega (arith, exact_products e))

      pub measured : (e map : ℕ) → map ≡ (e * k + 7) / 8 → e * k ≤ 1000000
          → Measured e n d (record { vertices = n; degree = d; equations = e; multipliers = k; products = e * k; rows = r; cells = r * (e * k + 1); map = map; bytes = 6 + map + e * k })
      measured e map q l = record {
        is =
            ap (λ (m : ℕ). record { vertices = n; degree = d; equations = e; multipliers = k; products = e * k; rows = r; cells = r * (e * k + 1); map = m; bytes = 6 + m + e * k }) q
            ∙ alike r (rows n d) k (multipliers n d) (e * k) (products e n d) exact_rows exact_multipliers (exact_products e);
        few_rows = omega (arith, exact_rows);
        few_products = omega (arith, exact_products e);
      }
        where
          alike : (r r' k k' p p' : ℕ) → r ≡ r' → k ≡ k' → p ≡ p'
              → ◌≡◌ {A = Sizes} (record { vertices = n; degree = d; equations = e; multipliers = k; products = p; rows = r; cells = r * (p + 1); map = (p + 7) / 8; bytes = 6 + (p + 7) / 8 + p })
              (record { vertices = n; degree = d; equations = e; multipliers = k'; products = p'; rows = r'; cells = r' * (p' + 1); map = (p' + 7) / 8; bytes = 6 + (p' + 7) / 8 + p' })
          alike r r' k k' p p' a b c t = record { vertices = n; degree = d; equations = e; multipliers = b t; products = c t; rows = a t; cells = a t * (c t + 1); map = (c t + 7) / 8; bytes = 6 + (c t + 7) / 8 + c t }

-- the same at other names for the equations and the vertices
pub excess_at : {e f n m : ℕ} (d : ℕ) → e ≡ f → n ≡ m → Excess e n d → Excess f m d
excess_at {e} {f} {n} {m} d p q x = subst (λ (k : ℕ). Excess f k d) q (subst (λ (k : ℕ). Excess k n d) p x)

pub measured_at : {e f n m : ℕ} (d : ℕ) (z : Sizes) → e ≡ f → n ≡ m → Measured e n d z → Measured f m d z
measured_at {e} {f} {n} {m} d z p q x = subst (λ (k : ℕ). Measured f k d z) q (subst (λ (k : ℕ). Measured k n d z) p x)
