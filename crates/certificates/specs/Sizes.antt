-- How large the matrix of a degree is, and what table it takes: n vertices, s equations, degree d. Assumes nothing.
use Rattle.std.specs.Prelude.{ℕ, ◌+◌, ◌*◌}
use Rattle.monomials.specs.Choose.{choose}

-- the monomials of degree at most d, which equations are multiplied with
abbrev pub multipliers : ℕ → ℕ → ℕ
multipliers n d = choose (n + d) n

-- the products: each equation by each multiplier
abbrev pub products : ℕ → ℕ → ℕ → ℕ
products s n d = s * multipliers n d

-- the monomials that can occur in a product, an equation having degree at most 3: the rows of the matrix
abbrev pub rows : ℕ → ℕ → ℕ
rows n d = choose (n + (d + 3)) n

-- the elements of the matrix: a column for each product, and one for the polynomial one
abbrev pub cells : ℕ → ℕ → ℕ → ℕ
cells s n d = rows n d * (products s n d + 1)
