-- Reading bytes from hexadecimal digits, in either case. Assumes nothing.
use Rattle.std.specs.Prelude.{◌≡◌, ℕ, ◌+◌, ◌-◌, ◌*◌, ◌<◌, ◌≤◌, cond, ◌⊎◌, List, length, nat_lt, slice_index}
use Rattle.certifying.specs.Hexadecimal.{hex_of}

-- A character that is a digit in either case: 0 to 9, A to F or a to f.
abbrev pub HexDigit : ℕ → Type 0
HexDigit c = ((48 ≤ c) × (c < 58)) ⊎ ((65 ≤ c) × (c < 71)) ⊎ ((97 ≤ c) × (c < 103))

-- What a digit counts.
abbrev pub value_of : ℕ → ℕ
value_of c = cond (nat_lt c 58) (c - 48) (cond (nat_lt c 71) (c - 55) (c - 87))

-- Each of these characters is a digit.
abbrev pub HexDigits : List ℕ → Type 0
HexDigits digits = (k : ℕ) → k < length digits → HexDigit (slice_index digits k)

-- The byte that two digits write, from a place on.
abbrev pub byte_at : List ℕ → ℕ → ℕ
byte_at digits at = 16 * value_of (slice_index digits at) + value_of (slice_index digits (at + 1))

-- The digits write the bytes, two a byte.
pub record Writes (digits bytes : List ℕ) : Type 0 where
  pub twice : length digits ≡ 2 * length bytes
  pub each : HexDigits digits
  pub value : (k : ℕ) → k < length bytes → slice_index bytes k ≡ byte_at digits (2 * k)

-- What is written of bytes reads back as these bytes.
abbrev pub ReadBack : Type 0
ReadBack = (bytes : List ℕ) → ((k : ℕ) → k < length bytes → slice_index bytes k < 256) → Writes (hex_of bytes) bytes
