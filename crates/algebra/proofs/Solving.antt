-- What reading the last column of eliminated rows says of the columns as they were.
use Rattle.std.proofs.Common.{◌≡◌, ℕ, ◌-◌, ◌<◌, Bool, true, List, length, sym, ap, ◌∙◌, subst, inl, inr, arith}
use Rattle.fields.specs.Field.{Ops, Laws}
use Rattle.algebra.specs.Grid.{cell, Fits}
use Rattle.algebra.specs.Linear.{Represents, Dependent, OnIndependent}
use Rattle.algebra.specs.Reduced.{Eliminated, Read, Solved}
use Rattle.algebra.proofs.Places.{row_before}
use Rattle.algebra.proofs.Sums.{sum_same}
use Rattle.algebra.proofs.ColumnCombinations.{represents_within, unique}
use Rattle.algebra.proofs.Columns.{seek, pivot_independent, coefficient, coefficient_there, coefficient_elsewhere, coefficients_give}

module _ {F : Type 0} {o : Ops F} (laws : Laws o) (rows cols rank : ℕ) (xs ys : List F) (e : Eliminated o rows cols rank xs ys) where
  -- a column that is a combination of earlier ones was one, and is no pivot's
  pub dependent_forth : (c : ℕ) → c < cols → Dependent o rows (cell o xs cols) c → Dependent o rows (cell o ys cols) c
  dependent_forth c h d = (d.0, represents_within laws rows cols c (cell o xs cols) (cell o ys cols) d.0 h e.same.forth d.1)

  pub dependent_back : (c : ℕ) → c < cols → Dependent o rows (cell o ys cols) c → Dependent o rows (cell o xs cols) c
  dependent_back c h d = (d.0, represents_within laws rows cols c (cell o ys cols) (cell o xs cols) d.0 h e.same.back d.1)

  pub pivot_was_independent : (q : ℕ) → q < rank → Dependent o rows (cell o xs cols) (e.pivot q) → ⊥
  pivot_was_independent q h d =
      pivot_independent laws rows cols rank e.pivot (cell o ys cols) e.reduced q h (dependent_forth (e.pivot q) (e.reduced.inside q h) d)

  pub other_was_dependent : (c : ℕ) → c < cols → ((q : ℕ) → q < rank → e.pivot q ≡ c → ⊥) → Dependent o rows (cell o xs cols) c
  other_was_dependent c h n =
      dependent_back c h (
        coefficient laws rows cols rank e.pivot (cell o ys cols) e.reduced c,
        coefficients_give laws rows cols rank e.pivot (cell o ys cols) e.reduced c h n,
      )

  module _ (zs : List F) (answer : Bool) (fits : Fits rows cols (length xs)) (p : Read o rows cols rank e.pivot ys zs answer) where
    last_in : cols - 1 < cols
    last_in = omega (arith, fits.some_column)

    read_is : (d : ℕ) → d < cols - 1 → cell o zs cols 0 d ≡ coefficient laws rows cols rank e.pivot (cell o ys cols) e.reduced (cols - 1) d
    read_is d h =
        elim (seek rank e.pivot d) [
          | inl s ↦
              subst (λ (i : ℕ). cell o zs cols 0 i ≡ coefficient laws rows cols rank e.pivot (cell o ys cols) e.reduced (cols - 1) i) s.1.1
              (p.there s.0 s.1.0 (omega (arith, s.1.1)) ∙ sym (coefficient_there laws rows cols rank e.pivot (cell o ys cols) e.reduced (cols - 1) s.0 s.1.0))
          | inr n ↦ p.elsewhere d h n ∙ sym (coefficient_elsewhere laws rows cols rank e.pivot (cell o ys cols) e.reduced (cols - 1) d n)
        ]

    reading : answer ≡ true → Represents o rows (cols - 1) (cell o xs cols) (cell o zs cols 0) (λ r. cell o xs cols r (cols - 1))
    reading t =
        let n : (q : ℕ) → q < rank → e.pivot q ≡ cols - 1 → ⊥ = λ q h w. omega (arith, p.solved t q h) in
        let k = coefficient laws rows cols rank e.pivot (cell o ys cols) e.reduced (cols - 1) in
        represents_within laws rows cols (cols - 1) (cell o ys cols) (cell o xs cols) (cell o zs cols 0) last_in e.same.back
        (λ r hr.
        coefficients_give laws rows cols rank e.pivot (cell o ys cols) e.reduced (cols - 1) last_in n r hr
        ∙ sum_same laws (cols - 1) (λ d. o.mul (k d) (cell o ys cols r d)) (λ d. o.mul (cell o zs cols 0 d) (cell o ys cols r d))
        (λ d l. ap (λ z. o.mul z (cell o ys cols r d)) (sym (read_is d l))))

    zero_at_dependent : OnIndependent o rows (cols - 1) (cell o xs cols) (cell o zs cols 0)
    zero_at_dependent c h d =
        p.elsewhere c h (λ q l w. pivot_was_independent q l (subst (λ (i : ℕ). Dependent o rows (cell o xs cols) i) (sym w) d))

    pub solved : Solved o rows cols xs zs answer
    solved = record {
      unsolvable = λ f d.
          let s = p.unsolved f in
          pivot_was_independent s.0 s.1.0 (subst (λ (i : ℕ). Dependent o rows (cell o xs cols) i) (sym s.1.1) d);
      given = reading;
      independent = λ t. zero_at_dependent;
      only = λ t x q a. unique laws rows (cell o xs cols) (cols - 1) (λ r. cell o xs cols r (cols - 1)) x (cell o zs cols 0) q (reading t) a zero_at_dependent;
      kept = record {
        long = p.others.long ∙ e.kept.long;
        beyond = λ k h. p.others.beyond k (omega (arith, row_before 0 rows cols fits.some_row)) ∙ e.kept.beyond k h;
      };
    }
