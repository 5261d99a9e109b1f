-- One byte more at the end is two digits more at the end. Assumes nothing.
use Rattle.std.proofs.Common.{◌≡◌, ℕ, ◌+◌, ◌/◌, ◌%◌, ◌<◌, List, [], ◌∷◌, ◌++◌, length, get_or, take, refl, ap, ◌∙◌, append_assoc, arith}
use Rattle.std.proofs.lemmas.Bool.Decides.{nat_tests}
use Rattle.std.proofs.lemmas.List.{take_more}
use Rattle.certifying.specs.Hexadecimal.{digit_of, hex_of}

one_more : (bytes : List ℕ) (byte : ℕ) → hex_of (bytes ++ (byte ∷ [])) ≡ hex_of bytes ++ (digit_of (byte / 16) ∷ digit_of (byte % 16) ∷ [])
one_more [] byte = refl
one_more (b ∷ bytes) byte = ap (λ text. digit_of (b / 16) ∷ digit_of (b % 16) ∷ text) (one_more bytes byte)

next : (bytes : List ℕ) (i : ℕ) → i < length bytes → hex_of (take (i + 1) bytes) ≡ hex_of (take i bytes) ++ (digit_of (get_or bytes i 0 / 16) ∷ digit_of (get_or bytes i 0 % 16) ∷ [])
next bytes i h = ap hex_of (take_more bytes i 0 h) ∙ one_more (take i bytes) (get_or bytes i 0)

-- a digit is one byte of text
digit_ascii : (n c : ℕ) → n < 16 → c ≡ digit_of n → c < 128
digit_ascii n c h e = rw e (grind (arith, nat_tests))

-- the text after one digit, as text is pushed
pub pushed : (before : List ℕ) {after encoded : List ℕ} {c : ℕ} (n : ℕ) → n < 16 → c ≡ digit_of n → (c < 128 → encoded ≡ c ∷ []) → after ≡ before ++ encoded → after ≡ before ++ (c ∷ [])
pushed before {c = c} n h e one grows = grows ∙ ap (λ t. before ++ t) (one (digit_ascii n c h e))

-- the text after both digits of a byte, each written as one byte
pub grown : (bytes : List ℕ) (i h l : ℕ) (before between after : List ℕ) → i < length bytes
    → before ≡ hex_of (take i bytes)
    → h ≡ digit_of (get_or bytes i 0 / 16)
    → l ≡ digit_of (get_or bytes i 0 % 16)
    → between ≡ before ++ (h ∷ [])
    → after ≡ between ++ (l ∷ [])
    → after ≡ hex_of (take (i + 1) bytes)
grown bytes i h l before between after within b hi lo first second =
    let all : after ≡ before ++ (h ∷ l ∷ []) = second ∙ ap (λ t. t ++ (l ∷ [])) first ∙ append_assoc before (h ∷ []) (l ∷ []) in
    let n = next bytes i within in
    cc
