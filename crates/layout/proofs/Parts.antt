-- Where the parts of a certificate stand in its bytes, and what reading finds there. Assumes nothing.
use Rattle.std.proofs.Common.{◌≡◌, ℕ, zero, suc, ◌+◌, ◌*◌, ◌/◌, ◌%◌, ◌^◌, ◌<◌, ◌≤◌, Bool, true, false, cond, not, ◌&&◌, eqb, List, [], ◌∷◌, ◌++◌, length, get_or, sym, refl, ap, ◌∙◌, inl, inr, arith}
use Rattle.std.proofs.lemmas.List.{length-append, get_or_append_left, get_or-append-add, get_or_push}
use Rattle.std.proofs.lemmas.Bool.{cases_lt, cases_Bool, lt-ltb, le-ltb, not-true, cond-true, cond-false}
use Rattle.fields.specs.Field.{Ops}
use Rattle.layout.specs.Length.{map_bytes}
use Rattle.layout.specs.Certificate.{upto, present, bits, map_of, code_of, codes_of, head_of, bytes_of}
use Rattle.layout.specs.Reading.{stands, before, code_at}
use Rattle.layout.proofs.Bytes.{upto_ones}
use Rattle.layout.proofs.Digits.{digit_test, bit_is}

-- lists of one byte each: the byte at a place
upto_at : (f : ℕ → ℕ) (n k : ℕ) → k < n → get_or (upto (λ j. f j ∷ []) n) k 0 ≡ f k
unfolding upto
upto_at f zero k h = absurd (omega arith)
upto_at f (suc n) k h = elim (cases_lt k n) [
  | inl l ↦ get_or_append_left (upto (λ j. f j ∷ []) n) (f n ∷ []) 0 k (omega (arith, upto_ones f n)) ∙ upto_at f n k l
  | inr l ↦ let e : n ≡ k = omega arith in get_or_push (upto (λ j. f j ∷ []) n) (f n) 0 k (upto_ones f n ∙ e) ∙ ap f e
]

module _ {F : Type 0} (o : Ops F) (p : ℕ) (x : ℕ → F) where
  -- whether a product is present
  pub not_present : (k : ℕ) → p ≤ k → present o p x k ≡ false
  not_present k h = ap (λ (t : Bool). t && not (eqb (o.code (x k)) 0)) (le-ltb k p h)

  pub present_is : (k : ℕ) → k < p → present o p x k ≡ not (eqb (o.code (x k)) 0)
  present_is k h = ap (λ (t : Bool). t && not (eqb (o.code (x k)) 0)) (lt-ltb k p h)

  pub no_code : (k : ℕ) → eqb (o.code (x k)) 0 ≡ true → code_of o p x k ≡ []
  no_code k e = cond-true (eqb (o.code (x k)) 0) [] (o.code (x k) ∷ []) e

  pub a_code : (k : ℕ) → eqb (o.code (x k)) 0 ≡ false → code_of o p x k ≡ o.code (x k) ∷ []
  a_code k e = cond-false (eqb (o.code (x k)) 0) [] (o.code (x k) ∷ []) e

  -- where a code stands among the codes
  pub code_there : (n k : ℕ) → k < n → eqb (o.code (x k)) 0 ≡ false
      → (length (upto (code_of o p x) k) < length (upto (code_of o p x) n)) × (get_or (upto (code_of o p x) n) (length (upto (code_of o p x) k)) 0 ≡ o.code (x k))
  unfolding upto
  code_there zero k h e = absurd (omega arith)
  code_there (suc n) k h e =
      let rest = upto (code_of o p x) n in
      let here = length (upto (code_of o p x) k) in
      elim (cases_lt k n) [
        | inl l ↦
            let there = code_there n k l e in
            (omega (arith, length-append rest (code_of o p x n), there.0), get_or_append_left rest (code_of o p x n) 0 here there.0 ∙ there.1)
        | inr l ↦
            let same : k ≡ n = omega arith in
            let last : rest ++ code_of o p x n ≡ rest ++ o.code (x k) ∷ [] =
            ap (λ (j : ℕ). rest ++ code_of o p x j) (sym same) ∙ ap (λ (ys : List ℕ). rest ++ ys) (a_code k e) in
            let place : length rest ≡ here = ap (λ (j : ℕ). length (upto (code_of o p x) j)) (sym same) in
            (omega (arith, ap length last, length-append rest (o.code (x k) ∷ []), place), ap (λ (ys : List ℕ). get_or ys here 0) last ∙ get_or_push rest (o.code (x k)) 0 here place)
      ]

  -- where the map says which products are present, the codes before one are counted
  module _ (bytes : List ℕ) (agree : (k : ℕ) → k < p → stands bytes k ≡ present o p x k) where
    pub before_is : (k : ℕ) → k ≤ p → before bytes k ≡ length (upto (code_of o p x) k)
    unfolding before upto
    before_is zero h = refl
    before_is (suc k) h =
        let rest = upto (code_of o p x) k in
        let so_far : before bytes k ≡ length rest = before_is k (omega arith) in
        let bit : stands bytes k ≡ not (eqb (o.code (x k)) 0) = agree k h ∙ present_is k h in
        let both = length-append rest (code_of o p x k) in
        elim (cases_Bool (eqb (o.code (x k)) 0)) [
          | inl e ↦
              let none : ◌≡◌ {A = ℕ} (cond (stands bytes k) 1 0) 0 = cond-false (stands bytes k) 1 0 (bit ∙ ap not e) in
              omega (arith, ap length (no_code k e))
          | inr e ↦
              let once : ◌≡◌ {A = ℕ} (cond (stands bytes k) 1 0) 1 = cond-true (stands bytes k) 1 0 (bit ∙ ap not e) in
              omega (arith, ap length (a_code k e))
        ]

  module _ (n d e : ℕ) where
    abbrev whole : List ℕ
    whole = bytes_of o p x n d e

    map_long : length (map_of o p x) ≡ map_bytes p
    map_long = upto_ones (λ b. bits o p x b 8) (map_bytes p)

    pub whole_long : length whole ≡ 6 + map_bytes p + length (codes_of o p x)
    whole_long = omega (arith, length-append (head_of o.size n d e) (map_of o p x ++ codes_of o p x), length-append (map_of o p x) (codes_of o p x), map_long)

    map_at : (b : ℕ) → b < map_bytes p → get_or whole (6 + b) 0 ≡ bits o p x b 8
    map_at b h =
        get_or-append-add (head_of o.size n d e) (map_of o p x ++ codes_of o p x) b 0
        ∙ get_or_append_left (map_of o p x) (codes_of o p x) 0 b (omega (arith, map_long))
        ∙ upto_at (λ j. bits o p x j 8) (map_bytes p) b h

    codes_at : (k : ℕ) → get_or whole (6 + map_bytes p + k) 0 ≡ get_or (codes_of o p x) k 0
    codes_at k =
        let place : 6 + map_bytes p + k ≡ 6 + (length (map_of o p x) + k) = omega (arith, map_long) in
        ap (λ (j : ℕ). get_or whole j 0) place
        ∙ get_or-append-add (head_of o.size n d e) (map_of o p x ++ codes_of o p x) (length (map_of o p x) + k) 0
        ∙ get_or-append-add (map_of o p x) (codes_of o p x) k 0

    pub stands_is : (k : ℕ) → k < 8 * map_bytes p → stands whole k ≡ present o p x k
    unfolding stands
    stands_is k h =
        let split : 8 * (k / 8) + k % 8 ≡ k = omega arith in
        ap (λ (m : ℕ). eqb (m / 2 ^ (k % 8) % 2) 1) (map_at (k / 8) (omega arith))
        ∙ ap (λ (m : ℕ). eqb m 1) (bit_is o p x (k / 8) 8 (k % 8) (omega arith))
        ∙ digit_test (present o p x (8 * (k / 8) + k % 8))
        ∙ ap (present o p x) split

    pub stands_below : (k : ℕ) → k < p → stands whole k ≡ present o p x k
    stands_below k h = stands_is k (omega arith)

    pub code_is : (k : ℕ) → k < p → eqb (o.code (x k)) 0 ≡ false → code_at whole p k ≡ o.code (x k)
    code_is k h e =
        ap (λ (j : ℕ). get_or whole (6 + map_bytes p + j) 0) (before_is whole stands_below k (omega arith))
        ∙ codes_at (length (upto (code_of o p x) k))
        ∙ (code_there p k h e).1

    pub has_code : (k : ℕ) → k < p → stands whole k ≡ true → eqb (o.code (x k)) 0 ≡ false
    has_code k h s = not-true (eqb (o.code (x k)) 0) (sym (stands_below k h ∙ present_is k h) ∙ s)
