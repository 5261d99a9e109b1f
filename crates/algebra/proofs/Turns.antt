-- A turn of elimination, at one column.
use Rattle.std.proofs.Common.{Option, Some, None, MatchOption, ◌≡◌, ℕ, ◌+◌, ◌<◌, ◌≤◌, List, sym, ap, ◌∙◌, subst, inl, inr, arith, below_more}
use Rattle.std.proofs.lemmas.Bool.{cases_eq}
use Rattle.fields.specs.Field.{Ops, Laws}
use Rattle.algebra.specs.Grid.{cell, Swapped, Scaled, AllZero, FirstNonzero}
use Rattle.algebra.specs.Reduced.{Cleared, Pivoted, Reduced}
use Rattle.algebra.proofs.Sums.{mul-zero}
use Rattle.algebra.proofs.Steps.{swapped_equivalent, scaled_equivalent, equivalent_trans}

-- a search through the rows finds the first that is not zero in the column
pub first_nonzero : {F : Type 0} (o : Ops F) (xs : List F) (cols from rows col : ℕ) (r : Option ℕ)
    → MatchOption r (AllZero o xs cols from rows col) (λ i. (from ≤ i) × (i < rows) × (cell o xs cols i col ≡ o.zero → ⊥) × AllZero o xs cols from i col)
    → MatchOption r (AllZero o xs cols from rows col) (λ i. FirstNonzero o xs cols from rows col i)
first_nonzero o xs cols from rows col None p = p
first_nonzero o xs cols from rows col (Some i) p = record { low = p.0; high = p.1; nonzero = p.2; earlier = p.3 }

module _ {F : Type 0} {o : Ops F} (laws : Laws o) (rows cols rank col : ℕ) where
  -- the row found is zero left of the column, also after it was exchanged and scaled
  pub blank_scaled : (row : ℕ) (k : F) (xs us vs : List F) → col < cols → rank ≤ row → row < rows
      → ((r c : ℕ) → rank ≤ r → r < rows → c < col → cell o xs cols r c ≡ o.zero)
      → Swapped o cols rank row xs us → Scaled o cols rank k us vs
      → (c : ℕ) → c < col → cell o vs cols rank c ≡ o.zero
  blank_scaled row k xs us vs hc low high blank s t c l =
      t.there c (omega arith) ∙ ap (o.mul k) (s.first c (omega arith) ∙ blank row c low high l) ∙ mul-zero laws k

  -- and has one in the column
  pub one_scaled : (row : ℕ) (k : F) (xs us vs : List F) → col < cols → (cell o xs cols row col ≡ o.zero → ⊥)
      → Swapped o cols rank row xs us → k ≡ o.inv (cell o us cols rank col) → Scaled o cols rank k us vs
      → cell o vs cols rank col ≡ o.one
  one_scaled row k xs us vs hc some s inv t =
      let x = cell o us cols rank col in
      t.there col hc ∙ laws.mul_comm k x ∙ ap (o.mul x) inv ∙ laws.mul-inv x (λ z. some (sym (s.first col hc) ∙ z))

  -- the rows from rank on are zero left of the column
  pub pivoted : (row : ℕ) (k : F) (xs us vs ys : List F) → col < cols → rank ≤ row → row < rows
      → ((r c : ℕ) → rank ≤ r → r < rows → c < col → cell o xs cols r c ≡ o.zero)
      → (cell o xs cols row col ≡ o.zero → ⊥)
      → Swapped o cols rank row xs us → k ≡ o.inv (cell o us cols rank col) → Scaled o cols rank k us vs → Cleared o rows cols rank col vs ys
      → Pivoted o rows cols rank col xs ys
  pivoted row k xs us vs ys hc low high blank some s inv t u =
      let found : cell o us cols rank col ≡ cell o xs cols row col = s.first col hc in
      let inverse : o.mul (cell o us cols rank col) k ≡ o.one = ap (o.mul (cell o us cols rank col)) inv ∙ laws.mul-inv (cell o us cols rank col) (λ z. some (sym found ∙ z)) in
      let swapped : (r c : ℕ) → r < rows → c < col → cell o us cols r c ≡ cell o xs cols r c = λ r c hr l.
      elim (cases_eq r rank) [
        | inl e ↦ subst (λ (q : ℕ). cell o us cols q c ≡ cell o xs cols q c) (sym e) (s.first c (omega arith) ∙ blank row c low high l ∙ sym (blank rank c (omega arith) (omega arith) l))
        | inr n ↦ elim (cases_eq r row) [
          | inl e ↦ subst (λ (q : ℕ). cell o us cols q c ≡ cell o xs cols q c) (sym e) (s.second c (omega arith) ∙ blank rank c (omega arith) (omega arith) l ∙ sym (blank row c low high l))
          | inr w ↦ s.others r c n w (omega arith)
        ]
      ] in
      let zero-there : (c : ℕ) → c < col → cell o us cols rank c ≡ o.zero = λ c l. swapped rank c (omega arith) l ∙ blank rank c (omega arith) (omega arith) l in
      let zero-then : (c : ℕ) → c < col → cell o vs cols rank c ≡ o.zero = blank_scaled row k xs us vs hc low high blank s t in
      let scaled : (r c : ℕ) → c < col → cell o vs cols r c ≡ cell o us cols r c = λ r c l.
      elim (cases_eq r rank) [
        | inl e ↦ subst (λ (q : ℕ). cell o vs cols q c ≡ cell o us cols q c) (sym e) (zero-then c l ∙ sym (zero-there c l))
        | inr n ↦ t.others r c n (omega arith)
      ] in
      record {
        inside = omega arith;
        one = u.own col hc ∙ one_scaled row k xs us vs hc some s inv t;
        zeros = u.zeros;
        kept = λ r c hr l. u.kept r c (omega arith) (zero-then c l) ∙ scaled r c l ∙ swapped r c hr l;
        beyond = λ r c h l. u.beyond r c h l ∙ t.others r c (λ e. omega arith) l ∙ s.others r c (λ e. omega arith) (λ e. omega arith) l;
        same =
            equivalent_trans laws rows cols (cell o xs cols) (cell o us cols) (cell o ys cols) (swapped_equivalent laws rows cols xs us rank row (omega arith) high s)
            (equivalent_trans laws rows cols (cell o us cols) (cell o vs cols) (cell o ys cols) (scaled_equivalent laws rows cols us vs rank k (cell o us cols rank col) (omega arith) inverse t) u.same);
      }

  pub reduced_none : (pivot : ℕ → ℕ) (m : ℕ → ℕ → F) → Reduced o rows 0 0 pivot m
  reduced_none pivot m = record {
    small = omega arith;
    rising = λ q p h l. absurd (omega arith);
    inside = λ q h. absurd (omega arith);
    one = λ q h. absurd (omega arith);
    zeros = λ q r h l n. absurd (omega arith);
    leading = λ q c h l. absurd (omega arith);
    rest = λ r c h l k. absurd (omega arith);
  }

  pub reduced_skip : (pivot : ℕ → ℕ) (m : ℕ → ℕ → F) → ((r : ℕ) → rank ≤ r → r < rows → m r col ≡ o.zero) → Reduced o rows col rank pivot m → Reduced o rows (col + 1) rank pivot m
  reduced_skip pivot m z p = record {
    small = p.small;
    rising = p.rising;
    inside = λ q h. omega (arith, p.inside q h);
    one = p.one;
    zeros = p.zeros;
    leading = p.leading;
    rest = λ r c h l k. below_more (λ c. m r c ≡ o.zero) col (λ c k. p.rest r c h l k) (z r h l) c k;
  }

  pub reduced_more : (pivot pivot' : ℕ → ℕ) (xs ys : List F) → col < cols → ((q : ℕ) → q < rank → pivot' q ≡ pivot q) → pivot' rank ≡ col
      → Reduced o rows col rank pivot (cell o xs cols) → Pivoted o rows cols rank col xs ys → Reduced o rows (col + 1) (rank + 1) pivot' (cell o ys cols)
  reduced_more pivot pivot' xs ys hc old new p t =
      let m = cell o xs cols in
      let m' = cell o ys cols in
      record {
        small = omega (arith, t.inside);
        rising = λ q r h l.
            below_more (λ r. q < r → pivot' q < pivot' r) rank
            (λ r l h. omega (arith, p.rising q r h l, old q (omega arith), old r l))
            (λ h. omega (arith, p.inside q h, old q h, new)) r l h;
        inside = below_more (λ q. pivot' q < col + 1) rank (λ q h. omega (arith, p.inside q h, old q h)) (omega (arith, new));
        one = below_more (λ q. m' q (pivot' q) ≡ o.one) rank
            (λ q h. ap (m' q) (old q h) ∙ t.kept q (pivot q) (omega (arith, p.small)) (p.inside q h) ∙ p.one q h)
            (ap (m' rank) new ∙ t.one);
        zeros = λ q r h. below_more (λ q. r < rows → (r ≡ q → ⊥) → m' r (pivot' q) ≡ o.zero) rank
            (λ q h l n. ap (m' r) (old q h) ∙ t.kept r (pivot q) l (p.inside q h) ∙ p.zeros q r h l n)
            (λ l n. ap (m' r) new ∙ t.zeros r l n) q h;
        leading = λ q c h. below_more (λ q. c < pivot' q → m' q c ≡ o.zero) rank
            (λ q h l. t.kept q c (omega (arith, p.small)) (omega (arith, p.inside q h, old q h)) ∙ p.leading q c h (omega (arith, old q h)))
            (λ l. t.kept rank c t.inside (omega (arith, new)) ∙ p.rest rank c (omega arith) t.inside (omega (arith, new))) q h;
        rest = λ r c h l k. below_more (λ c. m' r c ≡ o.zero) col
            (λ c k. t.kept r c l k ∙ p.rest r c (omega arith) l k)
            (t.zeros r l (λ e. omega arith)) c k;
      }
