-- The loop of elimination, one column at a time.
use Rattle.std.proofs.Common.{◌≡◌, ℕ, ◌+◌, ◌<◌, ◌≤◌, cond, eqb, List, length, refl, ◌∙◌, subst, arith}
use Rattle.std.proofs.lemmas.Bool.{eq-eqb, ne_eqb, cond-true, cond-false}
use Rattle.fields.specs.Field.{Ops, Laws}
use Rattle.algebra.specs.Grid.{cell}
use Rattle.algebra.specs.Linear.{Equivalent}
use Rattle.algebra.specs.Reduced.{Pivoted, Reduced, Eliminated}
use Rattle.algebra.proofs.Places.{kept_past}
use Rattle.algebra.proofs.Steps.{equivalent_self, equivalent_trans}
use Rattle.algebra.proofs.Turns.{reduced_none, reduced_skip, reduced_more}

-- the columns below col are done: ys is what xs has become
pub record State {F : Type 0} (o : Ops F) (rows cols col rank : ℕ) (xs ys : List F) : Type 0 where
  pub pivot : ℕ → ℕ
  pub reduced : Reduced o rows col rank pivot (cell o ys cols)
  pub same : Equivalent o rows cols (cell o xs cols) (cell o ys cols)
  pub beyond : (r c : ℕ) → rows ≤ r → c < cols → cell o ys cols r c ≡ cell o xs cols r c

module _ {F : Type 0} {o : Ops F} (laws : Laws o) (rows cols : ℕ) (xs : List F) where
  pub state_none : State o rows cols 0 0 xs xs
  state_none = record {
    pivot = λ q. 0;
    reduced = reduced_none laws rows cols 0 0 (λ q. 0) (cell o xs cols);
    same = equivalent_self laws rows cols (cell o xs cols);
    beyond = λ r c h l. refl;
  }

  pub state_skip : (col rank rank' : ℕ) (ys zs : List F) → rank' ≡ rank → zs ≡ ys
      → ((r : ℕ) → rank ≤ r → r < rows → cell o ys cols r col ≡ o.zero)
      → State o rows cols col rank xs ys → State o rows cols (col + 1) rank' xs zs
  state_skip col rank rank' ys zs e f z s =
      let same : State o rows cols (col + 1) rank xs ys = record {
        pivot = s.pivot;
        reduced = reduced_skip laws rows cols rank col s.pivot (cell o ys cols) z s.reduced;
        same = s.same;
        beyond = s.beyond;
      } in
      rw (e, f) same

  pub state_more : (col rank rank' : ℕ) (ys zs : List F) → rank' ≡ rank + 1 → col < cols
      → State o rows cols col rank xs ys → Pivoted o rows cols rank col ys zs → State o rows cols (col + 1) rank' xs zs
  state_more col rank rank' ys zs e hc s t =
      let pivot' : ℕ → ℕ = λ q. cond (eqb q rank) col (s.pivot q) in
      let more : State o rows cols (col + 1) (rank + 1) xs zs = record {
        pivot = pivot';
        reduced = reduced_more laws rows cols rank col s.pivot pivot' ys zs hc
            (λ q h. cond-false (eqb q rank) col (s.pivot q) (ne_eqb q rank (λ w. omega arith)))
            (cond-true (eqb rank rank) col (s.pivot rank) (eq-eqb rank rank refl))
            s.reduced t;
        same = equivalent_trans laws rows cols (cell o xs cols) (cell o ys cols) (cell o zs cols) s.same t.same;
        beyond = λ r c h l. t.beyond r c h l ∙ s.beyond r c h l;
      } in
      rw e more

  pub state_all : (col rank : ℕ) (ys : List F) → col ≡ cols → 0 < cols → length ys ≡ length xs → State o rows cols col rank xs ys → Eliminated o rows cols rank xs ys
  state_all col rank ys e h long s = record {
    pivot = s.pivot;
    reduced = subst (λ (n : ℕ). Reduced o rows n rank s.pivot (cell o ys cols)) e s.reduced;
    same = s.same;
    kept = record { long = long; beyond = kept_past o rows cols xs ys h s.beyond };
  }
