-- What the sizes of a degree's matrix are as the program holds them: e equations, n vertices, degree d. Assumes nothing.
use Rattle.std.specs.Prelude.{◌≡◌, ℕ, ◌<◌, ◌≤◌, ◌⊎◌}
use Rattle.certificates.specs.declared.sizes.Sizes.{Sizes}
use Rattle.layout.specs.Length.{map_bytes, certificate_bytes}
use Rattle.certificates.specs.Sizes.{multipliers, products, rows, cells}

abbrev pub sizes_of : ℕ → ℕ → ℕ → Sizes
sizes_of e n d = record {
  vertices = n;
  degree = d;
  equations = e;
  multipliers = multipliers n d;
  products = products e n d;
  rows = rows n d;
  cells = cells e n d;
  map = map_bytes (products e n d);
  bytes = certificate_bytes (products e n d);
}

-- more than a million rows or products
abbrev pub Excess : ℕ → ℕ → ℕ → Type 0
Excess e n d = (1000000 < rows n d) ⊎ (1000000 < products e n d)

-- z has the sizes, and neither rows nor products pass a million
pub record Measured (e n d : ℕ) (z : Sizes) : Type 0 where
  pub is : z ≡ sizes_of e n d
  pub few_rows : rows n d ≤ 1000000
  pub few_products : products e n d ≤ 1000000
