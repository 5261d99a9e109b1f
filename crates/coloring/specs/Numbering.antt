-- The numbering of joined pairs: how many there are before a pair, and which one has a number.
use Rattle.std.specs.Prelude.{◌≡◌, ℕ, ◌+◌, ◌<◌, ◌≤◌, Bool, true, false, List, [], ◌∷◌, ◌++◌, length, Some, nat_lt}
use Rattle.std.specs.List.{slice_get}
use Rattle.std.proofs.Common.{ap, ◌∙◌, append_assoc, append-nil, arith, length-append, lt-ltb, le-ltb}
use Rattle.coloring.specs.Pairs.{Pair}
use Rattle.coloring.specs.Pairs.{upto, two, pair, row, pairs}
use Rattle.coloring.specs.Upto.{upto_more, upto_none, upto_split, at_middle}

module _ (f : ℕ → ℕ → Bool) where
  pub pair_below : (i j : ℕ) → j ≤ i → pair f i j ≡ []
  pair_below i j h = let e : nat_lt i j ≡ false = le-ltb i j h in rw e

  pub pair_there : (i j : ℕ) → i < j → f i j ≡ true → pair f i j ≡ two i j ∷ []
  pair_there i j h t = let e : nat_lt i j ≡ true = lt-ltb i j h in rw (e, t)

  pub pair_not : (i j : ℕ) → i < j → f i j ≡ false → pair f i j ≡ []
  pair_not i j h t = let e : nat_lt i j ≡ true = lt-ltb i j h in rw (e, t)

  pub row_start : (i : ℕ) → length (upto (pair f i) (i + 1)) ≡ 0
  row_start i = let e : upto (pair f i) (i + 1) ≡ [] = upto_none (pair f i) (i + 1) (λ k h. pair_below i k (omega arith)) in rw e

  pub row_there : (i j : ℕ) → i < j → f i j ≡ true → length (upto (pair f i) (j + 1)) ≡ length (upto (pair f i) j) + 1
  row_there i j h t = ap length (upto_more (pair f i) j ∙ ap (λ (z : List Pair). upto (pair f i) j ++ z) (pair_there i j h t)) ∙ length-append (upto (pair f i) j) _

  pub row_not : (i j : ℕ) → i < j → f i j ≡ false → length (upto (pair f i) (j + 1)) ≡ length (upto (pair f i) j)
  row_not i j h t = ap length (upto_more (pair f i) j ∙ ap (λ (z : List Pair). upto (pair f i) j ++ z) (pair_not i j h t) ∙ append-nil _)

  pub rows_more : (n i : ℕ) → length (upto (row f n) (i + 1)) ≡ length (upto (row f n) i) + length (upto (pair f i) n)
  rows_more n i = ap length (upto_more (row f n) i) ∙ length-append (upto (row f n) i) _

  pub pair_found : (n i j w : ℕ) → i < j → j < n → f i j ≡ true → w ≡ length (upto (row f n) i) + length (upto (pair f i) j) → slice_get (pairs f n) w ≡ Some (two i j)
  pair_found n i j w a d s e =
      let s1 = upto_split (row f n) i n (omega arith) in
      let s2 = upto_split (pair f i) j n d in
      let p = upto (row f n) i in
      let q = upto (pair f i) j in
      let e2 : row f n i ≡ q ++ ((two i j ∷ []) ++ s2.0) = s2.1 ∙ ap (λ (z : List Pair). q ++ (z ++ s2.0)) (pair_there i j a s) in
      let e1 : pairs f n ≡ p ++ ((q ++ ((two i j ∷ []) ++ s2.0)) ++ s1.0) = s1.1 ∙ ap (λ (z : List Pair). p ++ (z ++ s1.0)) e2 in
      let e0 : p ++ ((q ++ ((two i j ∷ []) ++ s2.0)) ++ s1.0) ≡ (p ++ q) ++ (two i j ∷ (s2.0 ++ s1.0)) = simp append_assoc in
      ap (λ (z : List Pair). slice_get z w) (e1 ∙ e0) ∙
      at_middle (p ++ q) (two i j) _ w (omega (arith, length-append p q, e))
