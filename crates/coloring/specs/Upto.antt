-- A run of lists, one for each number below n: its start, its next step, where one of its lists begins, and what holds of all of it.
use Rattle.std.specs.Prelude.{◌≡◌, ℕ, zero, suc, ◌+◌, ◌<◌, List, [], ◌∷◌, ◌++◌, map, length, get_or, Some, None, option_map, unwrap_or, slice_index_or, refl}
use Rattle.std.proofs.Common.{sym, ap, subst, ◌∙◌, ⊎_elim, append_assoc, append-nil, add-one, arith, length-append}
use Rattle.std.proofs.ByRecursion.{All-append}
use Rattle.std.proofs.lemmas.Bool.{cases_eq}
use Rattle.std.proofs.lemmas.Option.{get_or_from_slice_get, slice_get-map, slice_get_read, unwrap_or-slice_get}
use Rattle.std.proofs.Math.Seq.{get_or-append_seam}
use Rattle.std.specs.List.{slice_get, AllByRecursion}
use Rattle.coloring.specs.Pairs.{upto}

not_below : {n : ℕ} → n < 0 → ⊥
not_below h = omega arith

module _ {A : Type 0} where
  pub upto_more : (g : ℕ → List A) (i : ℕ) → upto g (i + 1) ≡ upto g i ++ g i
  upto_more g i = rw (add-one i)

  pub upto_none : (g : ℕ → List A) (n : ℕ) → ((k : ℕ) → k < n → g k ≡ []) → upto g n ≡ []
  upto_none g zero h = refl
  upto_none g (suc n) h =
      let r : upto g n ≡ [] = upto_none g n (λ k l. h k (omega arith)) in
      let e : g n ≡ [] = h n (omega arith) in
      rw (r, e)

  -- the run up to the list of i, that list, and the rest
  pub upto_split : (g : ℕ → List A) (i n : ℕ) → i < n → (rest : List A) × (upto g n ≡ upto g i ++ (g i ++ rest))
  upto_split g i zero h = absurd (not_below h)
  upto_split g i (suc n) h =
      ⊎_elim
      (λ e. ([], subst (λ (k : ℕ). upto g n ++ g n ≡ upto g k ++ (g k ++ [])) (sym e) (ap (λ (z : List A). upto g n ++ z) (sym (append-nil (g n))))))
      (λ e. let s = upto_split g i n (omega arith) in
      (s.0 ++ g n, ap (λ (z : List A). z ++ g n) s.1 ∙ append_assoc (upto g i) (g i ++ s.0) (g n) ∙ ap (λ (z : List A). upto g i ++ z) (append_assoc (g i) s.0 (g n))))
      (cases_eq i n)

  -- one list more, by its length
  pub length_more : (g : ℕ → List A) (i : ℕ) (xs : List A) → g i ≡ xs → length (upto g (i + 1)) ≡ length (upto g i) + length xs
  length_more g i xs e = ap length (upto_more g i ∙ ap (λ (z : List A). upto g i ++ z) e) ∙ length-append (upto g i) xs

  pub length_none : (g : ℕ → List A) (n : ℕ) → ((k : ℕ) → k < n → g k ≡ []) → length (upto g n) ≡ 0
  length_none g n h = ap length (upto_none g n h)

  -- what holds of each element of each list holds of all
  pub all_upto : (P : A → Type 0) (g : ℕ → List A) (n : ℕ) → ((k : ℕ) → k < n → AllByRecursion P (g k)) → AllByRecursion P (upto g n)
  all_upto P g zero h = tt
  all_upto P g (suc n) h = All-append P (upto g n) (g n) (all_upto P g n (λ k l. h k (omega arith))) (h n (omega arith))

  pub at_middle : (xs : List A) (y : A) (ys : List A) (k : ℕ) → k ≡ length xs → slice_get (xs ++ (y ∷ ys)) k ≡ Some y
  at_middle xs y ys k e =
      slice_get_read (xs ++ (y ∷ ys)) (length (xs ++ (y ∷ ys))) k y refl (omega (arith, length-append xs (y ∷ ys), e))
      (sym (ap (λ (m : ℕ). get_or (xs ++ (y ∷ ys)) m y) e ∙ get_or-append_seam xs y ys y))

  -- what a place has, through a function; and where a list has nothing
  pub at_map : {B : Type 0} (f : A → B) (xs : List A) (k : ℕ) (x : A) (d : B) → slice_get xs k ≡ Some x → slice_index_or (map f xs) k d ≡ f x
  at_map f xs k x d e = get_or_from_slice_get (map f xs) k (f x) d (slice_get-map f xs k ∙ ap (option_map f) e)

  pub at_none : {B : Type 0} (f : A → B) (xs : List A) (k : ℕ) (d : B) → slice_get xs k ≡ None → slice_index_or (map f xs) k d ≡ d
  at_none f xs k d e = sym (unwrap_or-slice_get (map f xs) k d) ∙ ap (λ o. unwrap_or o d) (slice_get-map f xs k ∙ ap (option_map f) e)
