-- Numbers and their binary digits, and a map's byte from the bits in it. Assumes nothing.
use Rattle.std.proofs.Common.{◌≡◌, ℕ, zero, suc, ◌+◌, ◌-◌, ◌*◌, ◌/◌, ◌%◌, ◌^◌, ◌<◌, Bool, true, false, cond, eqb, sym, refl, ap, ◌∙◌, inl, inr, mod-lt, one-mul, zero-mul, arith}
use native.Mathlib.Nat.{add-mul-div_right, div-eq_of_lt}
use Rattle.std.proofs.lemmas.Nat.{pow_pos, pow-add, shr_high, mod-pow-add}
use Rattle.std.proofs.lemmas.Bool.{cases_lt}
use Rattle.fields.specs.Field.{Ops}
use Rattle.layout.specs.Certificate.{present, bits}
use Rattle.layout.proofs.Bytes.{bits_below}

-- a new highest digit is what was put there
top : (n k : ℕ) (b : Bool) → n < 2 ^ k → (n + cond b (2 ^ k) 0) / 2 ^ k % 2 ≡ cond b 1 0
top n k true h =
    let sum : n + 2 ^ k ≡ 1 * 2 ^ k + n = omega (arith, one-mul (2 ^ k)) in
    ap (λ (m : ℕ). m / 2 ^ k % 2) sum ∙ ap (λ (m : ℕ). m % 2) (shr_high 1 k n h)
top n k false h =
    let sum : n + 0 ≡ n = omega arith in
    ap (λ (m : ℕ). m / 2 ^ k % 2) sum ∙ ap (λ (m : ℕ). m % 2) (div-eq_of_lt h)

-- and leaves the lower ones
lower : (n k i : ℕ) (b : Bool) → i < k → (n + cond b (2 ^ k) 0) / 2 ^ i % 2 ≡ n / 2 ^ i % 2
lower n k i true h =
    let above = 2 ^ (k - (i + 1)) in
    let split : 2 ^ k ≡ (above * 2) * 2 ^ i =
    ap (λ (m : ℕ). 2 ^ m) (omega arith) ∙ pow-add 2 (k - (i + 1) + 1) i ∙ ap (λ (m : ℕ). m * 2 ^ i) (pow-add 2 (k - (i + 1)) 1) in
    let moved : (n + 2 ^ k) / 2 ^ i ≡ n / 2 ^ i + above * 2 =
    ap (λ (m : ℕ). (n + m) / 2 ^ i) split ∙ add-mul-div_right n (above * 2) (pow_pos i) in
    ap (λ (m : ℕ). m % 2) moved ∙ omega arith
lower n k i false h = let sum : n + 0 ≡ n = omega arith in ap (λ (m : ℕ). m / 2 ^ i % 2) sum

weigh : (digit weight rest : ℕ) → digit < 2 → digit * weight + rest ≡ rest + cond (eqb digit 1) weight 0
weigh zero weight rest h = omega (arith, zero-mul weight)
weigh (suc zero) weight rest h = omega (arith, one-mul weight)
weigh (suc (suc digit)) weight rest h = absurd (omega arith)

-- one digit more of a number
digit_more : (n k : ℕ) → n % 2 ^ suc k ≡ n % 2 ^ k + cond (eqb (n / 2 ^ k % 2) 1) (2 ^ k) 0
digit_more n k =
    ap (λ (m : ℕ). n % 2 ^ m) (omega arith) ∙ mod-pow-add n 1 k ∙ weigh (n / 2 ^ k % 2) (2 ^ k) (n % 2 ^ k) (mod-lt (n / 2 ^ k) (omega arith))

pub digit_test : (b : Bool) → eqb (cond b 1 0) 1 ≡ b
digit_test true = refl
digit_test false = refl

module _ {F : Type 0} (o : Ops F) (p : ℕ) (x : ℕ → F) where
  -- a bit of the map says whether its product is present
  pub bit_is : (b k i : ℕ) → i < k → bits o p x b k / 2 ^ i % 2 ≡ cond (present o p x (8 * b + i)) 1 0
  unfolding bits
  bit_is b zero i h = absurd (omega arith)
  bit_is b (suc k) i h = elim (cases_lt i k) [
    | inl l ↦ lower (bits o p x b k) k i (present o p x (8 * b + k)) l ∙ bit_is b k i l
    | inr l ↦
        let e : i ≡ k = omega arith in
        ap (λ (j : ℕ). (bits o p x b k + cond (present o p x (8 * b + k)) (2 ^ k) 0) / 2 ^ j % 2) e
        ∙ top (bits o p x b k) k (present o p x (8 * b + k)) (bits_below o p x b k)
        ∙ ap (λ (j : ℕ). cond (present o p x (8 * b + j)) 1 0) (sym e)
  ]

  -- the bits of a map are the digits of a number where its digits say which products are present
  pub bits_are : (n b k : ℕ) → ((i : ℕ) → i < k → present o p x (8 * b + i) ≡ eqb (n / 2 ^ i % 2) 1) → bits o p x b k ≡ n % 2 ^ k
  unfolding bits
  bits_are n b zero h = omega arith
  bits_are n b (suc k) h =
      let rest = bits_are n b k (λ i l. h i (omega arith)) in
      ap (λ (m : ℕ). m + cond (present o p x (8 * b + k)) (2 ^ k) 0) rest ∙ ap (λ (t : Bool). n % 2 ^ k + cond t (2 ^ k) 0) (h k (omega arith)) ∙ sym (digit_more n k)
