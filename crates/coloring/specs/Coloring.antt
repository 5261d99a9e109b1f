-- What a 3-coloring of a graph is, and when it is proper. Assumes nothing.
use Rattle.std.specs.Prelude.{◌≡◌, ℕ, ◌<◌, Bool, true, ◌≢◌}

pub data Color : Type 0 where
  first : Color
  second : Color
  third : Color

-- no two joined vertices of n have one color
abbrev pub Proper : ℕ → (ℕ → ℕ → Bool) → (ℕ → Color) → Type 0
Proper n f c = (i j : ℕ) → i < j → j < n → f i j ≡ true → c i ≢ c j
