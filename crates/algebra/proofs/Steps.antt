-- The steps of elimination keep the rows' combinations.
use Rattle.std.proofs.Common.{◌≡◌, ℕ, ◌<◌, List, sym, ap, ◌∙◌, subst, inl, inr}
use Rattle.std.proofs.lemmas.Bool.{cases_eq}
use Rattle.fields.specs.Field.{Ops, Laws}
use Rattle.algebra.specs.Grid.{cell, Swapped, Scaled}
use Rattle.algebra.specs.Linear.{RowComb, Within, Equivalent}
use Rattle.algebra.proofs.Sums.{add_back, one-mul}
use Rattle.algebra.proofs.RowCombinations.{comb_same, comb_row, comb_add, comb_mul, within_self, within_trans}

-- to each row but `row` a multiple of that row is added
pub record AddedToOthers {F : Type 0} (o : Ops F) (rows cols row : ℕ) (k : ℕ → F) (m m' : ℕ → ℕ → F) : Type 0 where
  pub own : (c : ℕ) → c < cols → m' row c ≡ m row c
  pub others : (r c : ℕ) → r < rows → (r ≡ row → ⊥) → c < cols → m' r c ≡ o.add (m r c) (o.mul (k r) (m row c))

module _ {F : Type 0} {o : Ops F} (laws : Laws o) (rows cols : ℕ) where
  pub equivalent_self : (m : ℕ → ℕ → F) → Equivalent o rows cols m m
  equivalent_self m = record { forth = within_self laws rows cols m; back = within_self laws rows cols m }

  pub equivalent_trans : (a b d : ℕ → ℕ → F) → Equivalent o rows cols a b → Equivalent o rows cols b d → Equivalent o rows cols a d
  equivalent_trans a b d p q = record { forth = within_trans laws rows cols a b d p.forth q.forth; back = within_trans laws rows cols d b a q.back p.back }

  -- a row that is as it was
  kept_row : (m m' : ℕ → ℕ → F) (r s : ℕ) → s < rows → ((c : ℕ) → c < cols → m' r c ≡ m s c) → RowComb o rows cols m (m' r)
  kept_row m m' r s h e = comb_same laws rows cols m (m s) (m' r) e (comb_row laws rows cols m s h)

  added_within : (m m' : ℕ → ℕ → F) (row : ℕ) (k : ℕ → F) → row < rows → AddedToOthers o rows cols row k m m' → Within o rows cols m m'
  added_within m m' row k hr p r h =
      elim (cases_eq r row) [
        | inl e ↦ subst (λ (s : ℕ). RowComb o rows cols m (m' s)) (sym e) (kept_row m m' row row hr p.own)
        | inr n ↦ comb_same laws rows cols m (λ c. o.add (m r c) (o.mul (k r) (m row c))) (m' r) (λ c l. p.others r c h n l)
            (comb_add laws rows cols m (m r) (λ c. o.mul (k r) (m row c)) (comb_row laws rows cols m r h) (comb_mul laws rows cols m (k r) (m row) (comb_row laws rows cols m row hr)))
      ]

  added_back : (m m' : ℕ → ℕ → F) (row : ℕ) (k : ℕ → F) → AddedToOthers o rows cols row k m m' → AddedToOthers o rows cols row k m' m
  added_back m m' row k p = record {
    own = λ c l. sym (p.own c l);
    others = λ r c h n l.
        sym (add_back laws (m r c) (o.mul (k r) (m row c)))
        ∙ ap (λ z. o.add z (o.mul (k r) (m row c))) (sym (p.others r c h n l))
        ∙ ap (λ z. o.add (m' r c) (o.mul (k r) z)) (sym (p.own c l));
  }

  pub added_equivalent : (m m' : ℕ → ℕ → F) (row : ℕ) (k : ℕ → F) → row < rows → AddedToOthers o rows cols row k m m' → Equivalent o rows cols m m'
  added_equivalent m m' row k hr p = record {
    forth = added_within m m' row k hr p;
    back = added_within m' m row k hr (added_back m m' row k p);
  }

  swapped_within : (xs ys : List F) (a b : ℕ) → a < rows → b < rows → Swapped o cols a b xs ys → Within o rows cols (cell o xs cols) (cell o ys cols)
  swapped_within xs ys a b ha hb p r h =
      let m = cell o xs cols in
      let m' = cell o ys cols in
      elim (cases_eq r a) [
        | inl e ↦ subst (λ (s : ℕ). RowComb o rows cols m (m' s)) (sym e) (kept_row m m' a b hb p.first)
        | inr n ↦ elim (cases_eq r b) [
          | inl e ↦ subst (λ (s : ℕ). RowComb o rows cols m (m' s)) (sym e) (kept_row m m' b a ha p.second)
          | inr q ↦ kept_row m m' r r h (λ c l. p.others r c n q l)
        ]
      ]

  pub swapped_equivalent : (xs ys : List F) (a b : ℕ) → a < rows → b < rows → Swapped o cols a b xs ys → Equivalent o rows cols (cell o xs cols) (cell o ys cols)
  swapped_equivalent xs ys a b ha hb p = record {
    forth = swapped_within xs ys a b ha hb p;
    back = swapped_within ys xs a b ha hb (record {
      first = λ c h. sym (p.second c h);
      second = λ c h. sym (p.first c h);
      others = λ r c n q h. sym (p.others r c n q h);
    });
  }

  scaled_within : (xs ys : List F) (row : ℕ) (k : F) → row < rows → Scaled o cols row k xs ys → Within o rows cols (cell o xs cols) (cell o ys cols)
  scaled_within xs ys row k hr p r h =
      let m = cell o xs cols in
      let m' = cell o ys cols in
      let moved : RowComb o rows cols m (m' row) = comb_same laws rows cols m (λ c. o.mul k (m row c)) (m' row) p.there (comb_mul laws rows cols m k (m row) (comb_row laws rows cols m row hr)) in
      elim (cases_eq r row) [
        | inl e ↦ subst (λ (s : ℕ). RowComb o rows cols m (m' s)) (sym e) moved
        | inr n ↦ kept_row m m' r r h (λ c l. p.others r c n l)
      ]

  -- k has an inverse, j
  pub scaled_equivalent : (xs ys : List F) (row : ℕ) (k j : F) → row < rows → o.mul j k ≡ o.one → Scaled o cols row k xs ys → Equivalent o rows cols (cell o xs cols) (cell o ys cols)
  scaled_equivalent xs ys row k j hr e p = record {
    forth = scaled_within xs ys row k hr p;
    back = scaled_within ys xs row j hr (record {
      there = λ c h.
          let x = cell o xs cols row c in
          sym (ap (o.mul j) (p.there c h) ∙ sym (laws.mul_assoc j k x) ∙ ap (λ z. o.mul z x) e ∙ one-mul laws x);
      others = λ r c n h. sym (p.others r c n h);
    });
  }
