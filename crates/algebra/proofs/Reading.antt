-- The loop that reads the last column of reduced rows, one column at a time.
use Rattle.std.proofs.Common.{◌≡◌, ℕ, ◌+◌, ◌-◌, ◌*◌, ◌<◌, ◌≤◌, Bool, true, false, ◌≢◌, List, length, get_or, set, sym, refl, ap, ◌∙◌, subst, inl, inr, arith, length-set, get_or-set_other, get_or-set_same}
use Rattle.std.proofs.lemmas.Bool.{cases_eq, cases_lt, cases_order}
use Rattle.fields.specs.Field.{Ops, Laws}
use Rattle.algebra.specs.Grid.{cell, Kept}
use Rattle.algebra.specs.Reduced.{Reduced, Read}

-- the columns below col are read, and the rows below row have their pivots there
pub record Walk {F : Type 0} (o : Ops F) (cols rank : ℕ) (pivot : ℕ → ℕ) (col row : ℕ) (xs ys : List F) : Type 0 where
  pub passed : (q : ℕ) → q < row → pivot q < col
  pub ahead : (q : ℕ) → row ≤ q → q < rank → col ≤ pivot q
  pub within : row ≤ rank
  pub there : (q : ℕ) → q < rank → pivot q < col → get_or ys (pivot q) o.zero ≡ cell o xs cols q (cols - 1)
  pub elsewhere : (c : ℕ) → c < col → ((q : ℕ) → q < rank → pivot q ≡ c → ⊥) → get_or ys c o.zero ≡ o.zero
  pub kept : Kept o col xs ys

pub kept_none : {F : Type 0} (o : Ops F) (xs : List F) → Kept o 0 xs xs
kept_none o xs = record { long = refl; beyond = λ k h. refl }

-- the cell at the column is written, and no later one
pub kept_more : {F : Type 0} (o : Ops F) (col : ℕ) (xs ys : List F) (v : F) → Kept o col xs ys → Kept o (col + 1) xs (set ys col v)
kept_more o col xs ys v p = record {
  long = length-set ys col v ∙ p.long;
  beyond = λ k l. let ne : k ≢ col = omega arith in get_or-set_other ys col k v o.zero ne ∙ p.beyond k (omega arith);
}

module _ {F : Type 0} {o : Ops F} (laws : Laws o) (rows cols rank : ℕ) (pivot : ℕ → ℕ) (xs : List F) (reduced : Reduced o rows cols rank pivot (cell o xs cols)) where
  pub walk_none : Walk o cols rank pivot 0 0 xs xs
  walk_none = record {
    passed = λ q h. absurd (omega arith);
    ahead = λ q h l. omega arith;
    within = omega arith;
    there = λ q h l. absurd (omega arith);
    elsewhere = λ c h n. absurd (omega arith);
    kept = kept_none o xs;
  }

  pub walk_found : (col row : ℕ) (ys : List F) (v : F) → col < cols - 1 → col < length ys → row < rank
      → (cell o ys cols row col ≡ o.zero → ⊥) → v ≡ cell o ys cols row (cols - 1)
      → Walk o cols rank pivot col row xs ys → Walk o cols rank pivot (col + 1) (row + 1) xs (set ys col v)
  walk_found col row ys v hc hl hr n e p =
      let here : pivot row ≡ col =
      elim (cases_lt col (pivot row)) [
        | inl l ↦ absurd (n (p.kept.beyond (row * cols + col) (omega arith) ∙ reduced.leading row col hr l))
        | inr l ↦ omega (arith, p.ahead row (omega arith) hr)
      ] in
      let mine : (q : ℕ) → q < rank → pivot q ≡ col → q ≡ row = λ q h w.
      elim (cases_order q row) [
        | inl s ↦ s
        | inr s ↦ elim s [ inl l ↦ absurd (omega (arith, p.passed q l)) | inr l ↦ absurd (omega (arith, reduced.rising row q l h)) ]
      ] in
      record {
        passed = λ q h. elim (cases_eq q row) [ inl s ↦ omega (arith, ap pivot s) | inr s ↦ omega (arith, p.passed q (omega arith)) ];
        ahead = λ q h l. omega (arith, reduced.rising row q (omega arith) l);
        within = omega arith;
        there = λ q h l.
            elim (cases_eq (pivot q) col) [
              | inl s ↦
                  subst (λ (i : ℕ). get_or (set ys col v) i o.zero ≡ cell o xs cols q (cols - 1)) (sym s)
                  (get_or-set_same ys col v o.zero hl ∙ e ∙ p.kept.beyond (row * cols + (cols - 1)) (omega arith)
                  ∙ ap (λ (i : ℕ). cell o xs cols i (cols - 1)) (sym (mine q h s)))
              | inr s ↦ get_or-set_other ys col (pivot q) v o.zero s ∙ p.there q h (omega arith)
            ];
        elsewhere = λ c h m.
            elim (cases_eq c col) [
              | inl s ↦ absurd (m row hr (here ∙ sym s))
              | inr s ↦ get_or-set_other ys col c v o.zero s ∙ p.elsewhere c (omega arith) m
            ];
        kept = kept_more o col xs ys v p.kept;
      }

  pub walk_skip : (col row : ℕ) (ys : List F) (v : F) → col < length ys
      → (row < rank → cell o ys cols row col ≡ o.zero) → v ≡ o.zero
      → Walk o cols rank pivot col row xs ys → Walk o cols rank pivot (col + 1) row xs (set ys col v)
  walk_skip col row ys v hl z e p =
      let miss : (q : ℕ) → row ≤ q → q < rank → pivot q ≡ col → ⊥ = λ q l h w.
      elim (cases_eq q row) [
        | inl s ↦
            let hr : row < rank = omega arith in
            laws.one_not_zero (sym (reduced.one row hr) ∙ ap (λ (c : ℕ). cell o xs cols row c) (ap pivot (sym s) ∙ w) ∙ sym (p.kept.beyond (row * cols + col) (omega arith)) ∙ z hr)
        | inr s ↦ omega (arith, reduced.rising row q (omega arith) h, p.ahead row (omega arith) (omega arith))
      ] in
      record {
        passed = λ q h. omega (arith, p.passed q h);
        ahead = λ q h l. let ne : pivot q ≢ col = miss q h l in omega (arith, p.ahead q h l);
        within = p.within;
        there = λ q h l.
            let ne : pivot q ≢ col = elim (cases_lt q row) [ inl s ↦ (λ w. omega (arith, p.passed q s)) | inr s ↦ miss q s h ] in
            get_or-set_other ys col (pivot q) v o.zero ne ∙ p.there q h (omega arith);
        elsewhere = λ c h m.
            elim (cases_eq c col) [
              | inl s ↦ subst (λ (i : ℕ). get_or (set ys col v) i o.zero ≡ o.zero) (sym s) (get_or-set_same ys col v o.zero hl ∙ e)
              | inr s ↦ get_or-set_other ys col c v o.zero s ∙ p.elsewhere c (omega arith) m
            ];
        kept = kept_more o col xs ys v p.kept;
      }

  top : (ys : List F) (c : ℕ) → cell o ys cols 0 c ≡ get_or ys c o.zero
  top ys c = let e : 0 * cols + c ≡ c = omega arith in ap (λ (i : ℕ). get_or ys i o.zero) e

  pub walk_all : (row : ℕ) (ys : List F) (answer : Bool) → (answer ≡ true → row ≡ rank) → (answer ≡ false → row ≡ rank → ⊥)
      → Walk o cols rank pivot (cols - 1) row xs ys → Read o rows cols rank pivot xs ys answer
  walk_all row ys answer t f p = record {
    solved = λ a q h. p.passed q (omega (arith, t a));
    unsolved = λ a. let ne : row ≢ rank = f a in let h : row < rank = omega (arith, p.within) in
        (row, (h, omega (arith, p.ahead row (omega arith) h, reduced.inside row h)));
    there = λ q h l. top ys (pivot q) ∙ p.there q h l;
    elsewhere = λ c h m. top ys c ∙ p.elsewhere c h m;
    others = p.kept;
  }
