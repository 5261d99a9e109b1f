-- How many bytes a certificate has, and may have. Assumes nothing.
use Rattle.std.specs.Prelude.{ℕ, ◌+◌, ◌/◌}

-- the bytes that hold one bit for each of p products
abbrev pub map_bytes : ℕ → ℕ
map_bytes p = (p + 7) / 8

-- the memory that a certificate may take: its head, its map, and a byte for each product
abbrev pub certificate_bytes : ℕ → ℕ
certificate_bytes p = 6 + map_bytes p + p
