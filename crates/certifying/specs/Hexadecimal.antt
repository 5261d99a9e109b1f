-- Bytes as upper-case hexadecimal digits, the higher half of each byte first. Assumes nothing.
use Rattle.std.specs.Prelude.{ℕ, ◌+◌, ◌/◌, ◌%◌, cond, List, [], ◌∷◌, nat_lt}

-- The character of a digit below sixteen: 0 to 9, then A to F.
abbrev pub digit_of : ℕ → ℕ
digit_of n = cond (nat_lt n 10) (48 + n) (55 + n)

abbrev pub hex_of : List ℕ → List ℕ
hex_of [] = []
hex_of (byte ∷ bytes) = digit_of (byte / 16) ∷ digit_of (byte % 16) ∷ hex_of bytes
