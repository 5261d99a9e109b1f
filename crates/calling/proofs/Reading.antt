-- Digits by the library's test, and the digits that are written of bytes, which read back as these bytes. Assumes nothing.
use Rattle.std.proofs.Common.{◌≡◌, ℕ, zero, suc, ◌+◌, ◌*◌, ◌/◌, ◌%◌, ◌<◌, true, List, [], ◌∷◌, length, slice_index, refl, sym, ap, ◌∙◌, subst, arith}
use Rattle.std.specs.Char.{is_ascii_hexdigit}
use Rattle.std.specs.List.{AllPass}
use Rattle.std.proofs.lemmas.Bool.Decides.{nat_tests}
use Rattle.std.proofs.lemmas.List.{get_or_default}
use Rattle.certifying.specs.Hexadecimal.{digit_of, hex_of}
use Rattle.calling.specs.Digits.{HexDigit, HexDigits, value_of, byte_at, Writes, ReadBack}

-- a digit by each test
seen : (c : ℕ) → is_ascii_hexdigit c ≡ true → HexDigit c
seen c h = grind (arith, nat_tests)

taken : (c : ℕ) → HexDigit c → is_ascii_hexdigit c ≡ true
taken c h = grind (arith, nat_tests)

pub all_seen : (digits : List ℕ) → AllPass is_ascii_hexdigit digits → HexDigits digits
all_seen digits h k less = seen (slice_index digits k) (h k 0 less)

pub all_taken : (digits : List ℕ) → HexDigits digits → AllPass is_ascii_hexdigit digits
all_taken digits h k d less = subst (λ c. is_ascii_hexdigit c ≡ true) (get_or_default digits k 0 d less) (taken (slice_index digits k) (h k less))

-- the bytes that digits write
pub pairs : List ℕ → List ℕ
pairs [] = []
pairs (high ∷ []) = []
pairs (high ∷ low ∷ rest) = (16 * value_of high + value_of low) ∷ pairs rest

twice : (digits : List ℕ) → length digits % 2 ≡ 0 → length digits ≡ 2 * length (pairs digits)
unfolding pairs
twice [] even = refl
twice (high ∷ []) even = absurd (omega arith)
twice (high ∷ low ∷ rest) even = omega (arith, twice rest (omega arith))

-- two digits further on
shifted : (high low : ℕ) (rest : List ℕ) (k : ℕ) → byte_at (high ∷ low ∷ rest) (2 * suc k) ≡ byte_at rest (2 * k)
shifted high low rest k =
    let first : 2 * suc k ≡ suc (suc (2 * k)) = omega arith in
    let second : 2 * suc k + 1 ≡ suc (suc (2 * k + 1)) = omega arith in
    ap (λ n. 16 * value_of (slice_index (high ∷ low ∷ rest) n) + value_of (slice_index (high ∷ low ∷ rest) (2 * suc k + 1))) first
    ∙ ap (λ n. 16 * value_of (slice_index rest (2 * k)) + value_of (slice_index (high ∷ low ∷ rest) n)) second

value : (digits : List ℕ) (k : ℕ) → k < length (pairs digits) → slice_index (pairs digits) k ≡ byte_at digits (2 * k)
unfolding pairs
value [] k h = absurd (omega arith)
value (high ∷ []) k h = absurd (omega arith)
value (high ∷ low ∷ rest) zero h = refl
value (high ∷ low ∷ rest) (suc k) h = value rest k (omega arith) ∙ sym (shifted high low rest k)

pub pairs_written : (digits : List ℕ) → length digits % 2 ≡ 0 → HexDigits digits → Writes digits (pairs digits)
pairs_written digits even h = record { twice = twice digits even; each = h; value = value digits }

-- each is a byte
abbrev Bytes : List ℕ → Type 0
Bytes bytes = (k : ℕ) → k < length bytes → slice_index bytes k < 256

later : (byte : ℕ) (bytes : List ℕ) → Bytes (byte ∷ bytes) → Bytes bytes
later byte bytes small k h = small (suc k) (omega arith)

digit_is : (n : ℕ) → n < 16 → HexDigit (digit_of n)
digit_is n small = grind (arith, nat_tests)

digit_value : (n : ℕ) → n < 16 → value_of (digit_of n) ≡ n
digit_value n small = grind (arith, nat_tests)

long : (bytes : List ℕ) → length (hex_of bytes) ≡ 2 * length bytes
long [] = refl
long (byte ∷ bytes) = omega (arith, long bytes)

each : (bytes : List ℕ) → Bytes bytes → HexDigits (hex_of bytes)
each [] small k h = absurd (omega arith)
each (byte ∷ bytes) small zero h = let fits = small 0 (omega arith) in digit_is (byte / 16) (omega arith)
each (byte ∷ bytes) small (suc zero) h = digit_is (byte % 16) (omega arith)
each (byte ∷ bytes) small (suc (suc k)) h = each bytes (later byte bytes small) k (omega arith)

same : (bytes : List ℕ) → Bytes bytes → pairs (hex_of bytes) ≡ bytes
unfolding pairs
same [] small = refl
same (byte ∷ bytes) small =
    let fits = small 0 (omega arith) in
    let high = digit_value (byte / 16) (omega arith) in
    let low = digit_value (byte % 16) (omega arith) in
    let value : 16 * value_of (digit_of (byte / 16)) + value_of (digit_of (byte % 16)) ≡ byte = rw (high, low) (omega arith) in
    rw (value, same bytes (later byte bytes small)) refl

pub read_back : ReadBack
read_back bytes small =
    let even : length (hex_of bytes) % 2 ≡ 0 = omega (arith, long bytes) in
    subst (Writes (hex_of bytes)) (same bytes small) (pairs_written (hex_of bytes) even (each bytes small))
