-- The binomial coefficient: the number of ways to choose b things out of a, by Pascal's rule.
-- Assumes nothing.
use Rattle.std.specs.Prelude.{ℕ, zero, suc, ◌+◌}

unfoldable pub choose : ℕ → ℕ → ℕ
choose zero zero = 1
choose zero (suc b) = 0
choose (suc a) zero = 1
choose (suc a) (suc b) = choose a b + choose a (suc b)
