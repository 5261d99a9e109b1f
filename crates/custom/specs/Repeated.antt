-- The equations of an encoding, each listed twice: all of them, and then all of them again. Assumes nothing.
use Rattle.std.specs.Prelude.{ℕ, Bool, List, ◌++◌}

abbrev pub twice : {A : Type 0} → (ℕ → (ℕ → ℕ → Bool) → List A) → ℕ → (ℕ → ℕ → Bool) → List A
twice l n f = l n f ++ l n f
