-- Reading the bytes of a certificate and writing them are inverse. Assumes nothing.
use Rattle.std.proofs.Common.{◌≡◌, ℕ, zero, suc, ◌+◌, ◌*◌, ◌/◌, ◌%◌, ◌^◌, ◌<◌, ◌≤◌, true, false, not, eqb, List, [], ◌∷◌, ◌++◌, length, get_or, take, drop, sym, refl, ap, ◌∙◌, inl, inr, append-nil, mod-eq_of_lt, add-one, arith}
use Rattle.std.proofs.lemmas.List.{length-drop, length_push, get_or-drop, take_all, take_more, take-append-drop, drop-drop}
use Rattle.std.proofs.lemmas.Bool.{cases_lt, cases_Bool, both_ways, eq-eqb, ne_eqb}
use Rattle.fields.specs.Field.{Ops, Laws}
use Rattle.layout.specs.Length.{map_bytes}
use Rattle.layout.specs.Certificate.{upto, present, bits, map_of, code_of, codes_of, head_of, bytes_of}
use Rattle.layout.specs.Reading.{byte, stands, before, code_at, Means, WellFormed, BytesInverse}
use Rattle.layout.proofs.Digits.{bits_are}
use Rattle.layout.proofs.Parts.{not_present, present_is, no_code, a_code, code_there, before_is}
use Rattle.layout.proofs.Formed.{means, written}

-- lists of one byte each are the front of a list that has those bytes
upto_take : (f : ℕ → ℕ) (xs : List ℕ) (n : ℕ) → n ≤ length xs → ((k : ℕ) → k < n → f k ≡ get_or xs k 0) → upto (λ j. f j ∷ []) n ≡ take n xs
unfolding upto
upto_take f xs zero h same = refl
upto_take f xs (suc n) h same =
    let rest = upto_take f xs n (omega arith) (λ k l. same k (omega arith)) in
    ap (λ (ys : List ℕ). ys ++ f n ∷ []) rest ∙ ap (λ (v : ℕ). take n xs ++ v ∷ []) (same n (omega arith)) ∙ sym (take_more xs n 0 h) ∙ ap (λ (j : ℕ). take j xs) (add-one n)

-- a list is its six first elements, the m next ones and the others
parts : (head map codes bytes : List ℕ) (m : ℕ) → take 6 bytes ≡ head → map ≡ take m (drop 6 bytes) → codes ≡ drop (6 + m) bytes → head ++ (map ++ codes) ≡ bytes
parts head map codes bytes m h k l =
    let rest : map ++ codes ≡ drop 6 bytes =
    ap (λ (ys : List ℕ). ys ++ codes) k ∙ ap (λ (ys : List ℕ). take m (drop 6 bytes) ++ ys) (l ∙ sym (drop-drop m 6 bytes)) ∙ take-append-drop m (drop 6 bytes) in
    ap (λ (ys : List ℕ). ys ++ (map ++ codes)) (sym h) ∙ ap (λ (ys : List ℕ). take 6 bytes ++ ys) rest ∙ take-append-drop 6 bytes

-- a bit of the map by its byte and its place there
stands_at : (bytes : List ℕ) (b i : ℕ) → i < 8 → stands bytes (8 * b + i) ≡ eqb (byte bytes (6 + b) / 2 ^ i % 2) 1
unfolding stands
stands_at bytes b i h =
    let which : (8 * b + i) / 8 ≡ b = omega arith in
    let place : (8 * b + i) % 8 ≡ i = omega arith in
    ap (λ (c : ℕ). eqb (byte bytes (6 + c) / 2 ^ ((8 * b + i) % 8) % 2) 1) which ∙ ap (λ (j : ℕ). eqb (byte bytes (6 + b) / 2 ^ j % 2) 1) place

module _ {F : Type 0} {o : Ops F} (laws : Laws o) where
  -- a coefficient for a product, by its bit and its code
  pick : (p : ℕ) (bytes : List ℕ) → ((k : ℕ) → k < p → stands bytes k ≡ true → code_at bytes p k < o.size)
      → (k : ℕ) → (y : F) × (k < p → stands bytes k ≡ false → y ≡ o.zero) × (k < p → stands bytes k ≡ true → o.code y ≡ code_at bytes p k)
  pick p bytes codes k = elim (cases_lt k p) [
    | inl h ↦ elim (cases_Bool (stands bytes k)) [
      | inl s ↦
          let found = laws.code_onto (code_at bytes p k) (codes k h s) in
          (found.0, (λ _ f. absurd (both_ways (stands bytes k) f s)), λ _ _. found.1)
      | inr s ↦ (o.zero, (λ _ _. refl), λ _ t. absurd (both_ways (stands bytes k) s t))
    ]
    | inr h ↦ (o.zero, (λ _ _. refl), λ l _. absurd (omega arith))
  ]

  -- the coefficients that bytes stand for, where each product that stands has the code of an element
  pub reading : (p : ℕ) (bytes : List ℕ) → ((k : ℕ) → k < p → stands bytes k ≡ true → code_at bytes p k < o.size) → (x : ℕ → F) × Means o p bytes x
  reading p bytes codes = let read = pick p bytes codes in ((λ k. (read k).0), record { zeros = λ k. (read k).1; others = λ k. (read k).2 })

  one : (n d e p : ℕ) (bytes : List ℕ) → WellFormed o n d e p bytes → (x : ℕ → F) × Means o p bytes x
  one n d e p bytes w = reading p bytes (λ k h s. (w.codes k h s).1)

  agree : (p : ℕ) (bytes : List ℕ) (x y : ℕ → F) → Means o p bytes x → Means o p bytes y → (k : ℕ) → k < p → x k ≡ y k
  agree p bytes x y a b k h = elim (cases_Bool (stands bytes k)) [
    | inl s ↦ laws.code_same (x k) (y k) (a.others k h s ∙ sym (b.others k h s))
    | inr s ↦ a.zeros k h s ∙ sym (b.zeros k h s)
  ]

  module _ (n d e p : ℕ) (bytes : List ℕ) (x : ℕ → F) (w : WellFormed o n d e p bytes) (m : Means o p bytes x) where
    read_below : (k : ℕ) → k < p → stands bytes k ≡ present o p x k
    read_below k h = elim (cases_Bool (stands bytes k)) [
      | inl s ↦
          let code = m.others k h s in
          let positive = (w.codes k h s).0 in
          s ∙ sym (present_is o p x k h ∙ ap not (ne_eqb (o.code (x k)) 0 (λ z. omega (arith, z, code, positive))))
      | inr s ↦ s ∙ sym (present_is o p x k h ∙ ap not (eq-eqb (o.code (x k)) 0 (ap o.code (m.zeros k h s) ∙ laws.code_zero)))
    ]

    read_is : (k : ℕ) → k < 8 * map_bytes p → stands bytes k ≡ present o p x k
    read_is k h = elim (cases_lt k p) [ inl l ↦ read_below k l | inr l ↦ w.unused k l h ∙ sym (not_present o p x k l) ]

    count : (k : ℕ) → k ≤ p → before bytes k ≡ length (upto (code_of o p x) k)
    count = before_is o p x bytes read_below

    long : length bytes ≡ 6 + map_bytes p + length (codes_of o p x)
    long = w.long ∙ ap (λ (j : ℕ). 6 + map_bytes p + j) (count p (omega arith))

    -- each byte of the map has the bits of its products
    map_byte : (b : ℕ) → b < map_bytes p → bits o p x b 8 ≡ get_or (drop 6 bytes) b 0
    map_byte b h =
        bits_are o p x (byte bytes (6 + b)) b 8 (λ i l. sym (read_is (8 * b + i) (omega arith)) ∙ stands_at bytes b i l)
        ∙ mod-eq_of_lt (w.small (6 + b) (omega (arith, long)))
        ∙ sym (get_or-drop 6 bytes b 0)

    rest : List ℕ
    rest = drop (6 + map_bytes p) bytes

    rest_long : length rest ≡ length (codes_of o p x)
    unfolding rest
    rest_long = length-drop (6 + map_bytes p) bytes ∙ omega (arith, long)

    code_read : (k : ℕ) → k < p → eqb (o.code (x k)) 0 ≡ false → o.code (x k) ≡ get_or rest (length (upto (code_of o p x) k)) 0
    unfolding rest
    code_read k h c =
        m.others k h (read_below k h ∙ present_is o p x k h ∙ ap not c)
        ∙ ap (λ (j : ℕ). get_or bytes (6 + map_bytes p + j) 0) (count k (omega arith))
        ∙ sym (get_or-drop (6 + map_bytes p) bytes (length (upto (code_of o p x) k)) 0)

    -- the codes of the first k products are the first bytes behind the map
    codes_taken : (k : ℕ) → k ≤ p → upto (code_of o p x) k ≡ take (length (upto (code_of o p x) k)) rest
    unfolding upto
    codes_taken zero h = refl
    codes_taken (suc k) h =
        let so_far = upto (code_of o p x) k in
        let place = length so_far in
        let before = codes_taken k (omega arith) in
        elim (cases_Bool (eqb (o.code (x k)) 0)) [
          | inl c ↦
              let same : so_far ++ code_of o p x k ≡ so_far = ap (λ (ys : List ℕ). so_far ++ ys) (no_code o p x k c) ∙ append-nil so_far in
              same ∙ before ∙ ap (λ (ys : List ℕ). take (length ys) rest) (sym same)
          | inr c ↦
              let more : so_far ++ code_of o p x k ≡ so_far ++ o.code (x k) ∷ [] = ap (λ (ys : List ℕ). so_far ++ ys) (a_code o p x k c) in
              let long : place + 1 ≡ length (so_far ++ code_of o p x k) = sym (ap length more ∙ length_push so_far (o.code (x k))) in
              more
              ∙ ap (λ (ys : List ℕ). ys ++ o.code (x k) ∷ []) before
              ∙ ap (λ (v : ℕ). take place rest ++ v ∷ []) (code_read k h c)
              ∙ sym (take_more rest place 0 (omega (arith, (code_there o p x p k h c).0, rest_long)))
              ∙ ap (λ (j : ℕ). take j rest) long
        ]

    back : bytes_of o p x n d e ≡ bytes
    unfolding rest
    back = parts (head_of o.size n d e) (map_of o p x) (codes_of o p x) bytes (map_bytes p) w.head
        (upto_take (λ b. bits o p x b 8) (drop 6 bytes) (map_bytes p) (omega (arith, length-drop 6 bytes, long)) map_byte)
        (codes_taken p (omega arith) ∙ take_all (length (codes_of o p x)) rest (omega (arith, rest_long)))

  pub inverse : BytesInverse o
  inverse = record { written = written laws; means = means laws; one = one; agree = agree; back = back }
