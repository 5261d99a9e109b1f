-- Writing bytes one after the other, and the bytes of a certificate. Assumes nothing.
use Rattle.std.proofs.Common.{◌≡◌, ℕ, zero, suc, ◌+◌, ◌*◌, ◌/◌, ◌%◌, ◌^◌, ◌<◌, ◌≤◌, Bool, true, false, cond, eqb, ◌⊎◌, List, [], ◌∷◌, ◌++◌, length, map, take, drop, set, sym, refl, ap, ◌∙◌, subst, inl, inr, append_assoc, append-nil, mod-eq_of_lt, one-mul, add-one, arith, length-append, length-set, take-append-drop, drop-drop, drop-set-lt}
use native.Mathlib.Nat.{two-pow-succ}
use Rattle.std.proofs.lemmas.Nat.{pow_below}
use Rattle.std.proofs.lemmas.Bool.{eq-eqb, ne_eqb, cond-true, cond-false}
use Rattle.std.proofs.lemmas.List.{take_more_set}
use Rattle.std.proofs.lemmas.List.Sums.{sum-map}
use Rattle.std.proofs.lemmas.List.FromFn.{sum_by-map-range_with_len_more}
use Rattle.std.specs.Int.{div_ceil}
use Rattle.std.specs.List.{sum_by, range_with_len}
use Rattle.fields.specs.Field.{Ops}
use Rattle.layout.specs.Certificate.{upto, present, bits, code_of, over}
use Rattle.layout.specs.Written.{Wrote, Ended}

-- parts behind a place that agree still do behind a later one
drop_later : {A : Type 0} (n : ℕ) (xs ys : List A) → drop n xs ≡ drop n ys → drop (n + 1) xs ≡ drop (n + 1) ys
drop_later n xs ys e = sym (drop-drop 1 n xs) ∙ ap (drop 1) e ∙ drop-drop 1 n ys

pub wrote_none : (xs : List ℕ) → Wrote [] xs xs
wrote_none xs = record { front = refl; back = refl; long = refl }

-- one byte more, at the place behind those that are written
pub wrote_more : (done before xs : List ℕ) (at v : ℕ) → at ≡ length done → at < length xs → Wrote done before xs → Wrote (done ++ v ∷ []) before (set xs at v)
wrote_more done before xs at v e h w =
    let long : length (done ++ v ∷ []) ≡ at + 1 = length-append done (v ∷ []) ∙ ap (λ (n : ℕ). n + 1) (sym e) in
    record {
      front = ap (λ (n : ℕ). take n (set xs at v)) long ∙ take_more_set xs at v h ∙ ap (λ (n : ℕ). take n xs ++ v ∷ []) e ∙ ap (λ (ys : List ℕ). ys ++ v ∷ []) w.front;
      back =
          ap (λ (n : ℕ). drop n (set xs at v)) long ∙ drop-set-lt (at + 1) xs at v (omega arith)
          ∙ drop_later at xs before (ap (λ (n : ℕ). drop n xs) e ∙ w.back ∙ ap (λ (n : ℕ). drop n before) (sym e))
          ∙ ap (λ (n : ℕ). drop n before) (sym long);
      long = length-set xs at v ∙ w.long;
    }

-- when the bytes are written the whole is known
pub wrote_over : (bytes before after : List ℕ) → Wrote bytes before after → after ≡ over bytes before
wrote_over bytes before after w =
    sym (take-append-drop (length bytes) after) ∙ ap (λ (ys : List ℕ). ys ++ drop (length bytes) after) w.front ∙ ap (λ (ys : List ℕ). bytes ++ ys) w.back

pub upto_more : (g : ℕ → List ℕ) (n : ℕ) → upto g (n + 1) ≡ upto g n ++ g n
unfolding upto
upto_more g n = rw (add-one n)

-- lists of one byte each have as many bytes as there are
pub upto_ones : (f : ℕ → ℕ) (n : ℕ) → length (upto (λ k. f k ∷ []) n) ≡ n
unfolding upto
upto_ones f zero = refl
upto_ones f (suc n) = length-append (upto (λ k. f k ∷ []) n) (f n ∷ []) ∙ omega (arith, upto_ones f n)

-- the weight of a bit that may stand, as the program has it
abbrev pub weighed : Bool → ℕ → ℕ
weighed b k = (cond b 1 0 * 2 ^ k) % 256

shifted : (k : ℕ) → k < 8 → (1 * 2 ^ k) % 256 ≡ 2 ^ k
shifted k h = ap (λ (n : ℕ). n % 256) (one-mul (2 ^ k)) ∙ mod-eq_of_lt (pow_below k 8 h)

weighed_is : (b : Bool) (k : ℕ) → k < 8 → weighed b k ≡ cond b (2 ^ k) 0
weighed_is true k h = shifted k h
weighed_is false k h = omega arith

module _ {F : Type 0} (o : Ops F) (p : ℕ) (x : ℕ → F) where
  weight : (b : Bool) (k : ℕ) → cond b (2 ^ k) 0 ≤ 2 ^ k
  weight true k = omega arith
  weight false k = omega arith

  pub bits_below : (b k : ℕ) → bits o p x b k < 2 ^ k
  unfolding bits
  bits_below b zero = omega arith
  bits_below b (suc k) = omega (arith, bits_below b k, weight (present o p x (8 * b + k)) k, two-pow-succ k)

  -- the byte as the sum of its bits
  pub bits_summed : (b k : ℕ) → k ≤ 8 → sum_by (λ j. weighed (present o p x (8 * b + j)) j) (range_with_len 0 k) ≡ bits o p x b k
  unfolding bits
  bits_summed b zero h = refl
  bits_summed b (suc k) h =
      let w = λ (j : ℕ). weighed (present o p x (8 * b + j)) j in
      sym (sum-map w (range_with_len 0 (suc k)))
      ∙ ap (λ (n : ℕ). sum_by (λ (j : ℕ). j) (map w (range_with_len 0 n))) (sym (add-one k))
      ∙ sum_by-map-range_with_len_more (λ (j : ℕ). j) w 0 k k (omega arith)
      ∙ omega (arith, sum-map w (range_with_len 0 k), bits_summed b k (omega (arith, h)), weighed_is (present o p x (8 * b + k)) k h)

  pub bits_fit : (b : ℕ) → sum_by (λ j. weighed (present o p x (8 * b + j)) j) (range_with_len 0 8) < 256
  bits_fit b = omega (arith, bits_summed b 8 (omega arith), bits_below b 8)

  pub codes_none : (before : List ℕ) → Ended 0 (upto (code_of o p x) 0) before before
  unfolding upto
  codes_none before = record { place = refl; wrote = wrote_none before }

  pub codes_skip : (n end : ℕ) (before xs : List ℕ) → o.code (x n) ≡ 0 → Ended end (upto (code_of o p x) n) before xs → Ended end (upto (code_of o p x) (n + 1)) before xs
  codes_skip n end before xs z w =
      let none : code_of o p x n ≡ [] = cond-true (eqb (o.code (x n)) 0) [] (o.code (x n) ∷ []) (eq-eqb (o.code (x n)) 0 z) in
      let same : upto (code_of o p x) (n + 1) ≡ upto (code_of o p x) n =
      upto_more (code_of o p x) n ∙ ap (λ (ys : List ℕ). upto (code_of o p x) n ++ ys) none ∙ append-nil (upto (code_of o p x) n) in
      subst (λ (ys : List ℕ). Ended end ys before xs) (sym same) w

  pub codes_more : (n end code : ℕ) (before xs : List ℕ) → code ≡ o.code (x n) → (code ≡ 0 → ⊥) → end < length xs → Ended end (upto (code_of o p x) n) before xs → Ended (end + 1) (upto (code_of o p x) (n + 1)) before (set xs end code)
  codes_more n end code before xs e z h w =
      let so_far = upto (code_of o p x) n in
      let one : code_of o p x n ≡ code ∷ [] =
      cond-false (eqb (o.code (x n)) 0) [] (o.code (x n) ∷ []) (ne_eqb (o.code (x n)) 0 (λ q. z (e ∙ q))) ∙ ap (λ (u : ℕ). u ∷ []) (sym e) in
      let same : so_far ++ code ∷ [] ≡ upto (code_of o p x) (n + 1) = sym (upto_more (code_of o p x) n ∙ ap (λ (ys : List ℕ). so_far ++ ys) one) in
      record {
        place = ap (λ (m : ℕ). m + 1) w.place ∙ sym (length-append so_far (code ∷ [])) ∙ ap length same;
        wrote = subst (λ (ys : List ℕ). Wrote ys before (set xs end code)) same (wrote_more so_far before xs end code w.place h w.wrote);
      }

-- head, map and codes, one after the other, each in a part of its own
pub parts_over : (head map codes before rest after : List ℕ) → rest ≡ drop (length map) (drop (length head) before) → Wrote codes rest after → head ++ (map ++ after) ≡ over (head ++ (map ++ codes)) before
parts_over head map codes before rest after e w =
    let long : length (head ++ (map ++ codes)) ≡ length head + length map + length codes = omega (arith, length-append head (map ++ codes), length-append map codes) in
    let back : drop (length codes) rest ≡ drop (length (head ++ (map ++ codes))) before =
    ap (drop (length codes)) (e ∙ drop-drop (length map) (length head) before) ∙ drop-drop (length codes) (length head + length map) before ∙ ap (λ (n : ℕ). drop n before) (sym long) in
    ap (λ (ys : List ℕ). head ++ (map ++ ys)) (wrote_over codes rest after w ∙ ap (λ (ys : List ℕ). codes ++ ys) back)
    ∙ sym (append_assoc head (map ++ codes) (drop (length (head ++ (map ++ codes))) before) ∙ ap (λ (ys : List ℕ). head ++ ys) (append_assoc map codes (drop (length (head ++ (map ++ codes))) before)))

pub div_ceil-eight : (n : ℕ) → div_ceil n 8 ≡ (n + 7) / 8
div_ceil-eight n = omega arith

-- none of three numbers passes its limit
pub unhindered : (p e k : ℕ) {b : ℕ} → p ≤ 1000000 → e ≤ 65535 → b ≤ k → (1000000 < p) ⊎ (65535 < e) ⊎ (k < b) → ⊥
unhindered p e k h l m (inl x) = omega arith
unhindered p e k h l m (inr (inl x)) = omega arith
unhindered p e k h l m (inr (inr x)) = omega arith
