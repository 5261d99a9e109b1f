-- Cycles, whose vertices are numbered along them from 0.
use Rattle.std.specs.Prelude.{ℕ, ◌+◌, ◌%◌, Bool, ◌||◌, ◌==◌}

-- whether two vertices of a cycle of so many are next to each other
abbrev pub next_to : ℕ → ℕ → ℕ → Bool
next_to length a b = (a + 1) % length == b || (b + 1) % length == a
