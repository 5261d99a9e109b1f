-- Adding a term of a product into its column. Assumes nothing.
use Rattle.std.proofs.Common.{◌≡◌, ℕ, ◌+◌, ◌*◌, ◌<◌, ◌≤◌, cond, eqb, List, length, get_or, take, set, sym, refl, ap, ◌∙◌, subst, inl, inr, arith, length-set, get_or-set_other}
use Rattle.std.proofs.lemmas.Bool.{cases_eq, eq-eqb, ne_eqb, cond-true, cond-false}
use Rattle.fields.specs.Field.{Ops, Laws}
use Rattle.algebra.specs.Grid.{cell}
use Rattle.algebra.proofs.Places.{cell_in, cell_set_same, cell_set_row, cell_set_column}
use Rattle.algebra.proofs.Sums.{one-mul}
use Rattle.monomials.specs.Order.{rank_of}
use Rattle.polynomials.specs.declared.term.Term.{Term}
use Rattle.polynomials.specs.Polynomial.{coefficient, alike, scaled}
use Rattle.polynomials.specs.Monomial.{Monomial, count, monomial_at}
use Rattle.polynomials.proofs.Coefficients.{coefficient_scaled}
use Rattle.polynomials.proofs.Entries.{coefficient_more}
use Rattle.polynomials.proofs.Ranks.{alike_rank}
use Rattle.certificates.specs.Matrix.{Summed}

module _ {F : Type 0} {o : Ops F} (laws : Laws o) (n d cols column : ℕ) (few : n ≤ 24) (inside : column < cols) (p : List (Term F)) (xs : List F) where
  pub summed_none : Summed o n d cols column (take 0 p) xs xs
  summed_none = record { there = λ r h. sym (laws.add-zero (cell o xs cols r column)); others = λ r c a h. refl; kept = record { long = refl; beyond = λ k h. refl } }

  -- one term more, in the row of its monomial
  pub summed_more : (k row : ℕ) (t : Term F) (ys : List F) (v : F) → k < length p → count n (d + 3) * cols ≤ length ys
      → Monomial n (d + 3) (get_or p k t).exponents → row < count n (d + 3) → row ≡ rank_of (take n (get_or p k t).exponents)
      → v ≡ o.add (cell o ys cols row column) (get_or p k t).coeff
      → Summed o n d cols column (take k p) xs ys → Summed o n d cols column (take (k + 1) p) xs (set ys (row * cols + column) v)
  summed_more k row t ys v h room mono below is sum s =
      let N = count n (d + 3) in
      let place : row * cols + column < N * cols = cell_in row column N cols (N * cols) below inside (omega arith) in
      record {
        there = λ r l.
            let m = monomial_at n (d + 3) r in
            let more = coefficient_more laws p k t m h in
            let told : alike (get_or p k t).exponents m ≡ eqb row r = alike_rank n (d + 3) r (get_or p k t).exponents few l mono ∙ ap (λ (q : ℕ). eqb q r) (sym is) in
            elim (cases_eq row r) [
              | inl e ↦
                  let yes : cond (alike (get_or p k t).exponents m) (get_or p k t).coeff o.zero ≡ (get_or p k t).coeff = cond-true _ _ _ (told ∙ eq-eqb row r e) in
                  subst (λ (q : ℕ). cell o (set ys (row * cols + column) v) cols q column ≡ o.add (cell o xs cols q column) (coefficient o (take (k + 1) p) (monomial_at n (d + 3) q))) e
                  (cell_set_same o cols ys v row column inside (omega arith) ∙ sum
                  ∙ ap (λ (z : F). o.add z (get_or p k t).coeff) (s.there row below)
                  ∙ laws.add_assoc (cell o xs cols row column) (coefficient o (take k p) (monomial_at n (d + 3) row)) (get_or p k t).coeff
                  ∙ ap (o.add (cell o xs cols row column))
                  (subst (λ (q : ℕ). o.add (coefficient o (take k p) (monomial_at n (d + 3) q)) (get_or p k t).coeff ≡ coefficient o (take (k + 1) p) (monomial_at n (d + 3) q)) (sym e)
                  (ap (o.add (coefficient o (take k p) m)) (sym yes) ∙ sym more)))
              | inr a ↦
                  let no : cond (alike (get_or p k t).exponents m) (get_or p k t).coeff o.zero ≡ o.zero = cond-false _ _ _ (told ∙ ne_eqb row r a) in
                  cell_set_row o cols ys v row column inside r column (λ e. a (sym e)) inside ∙ s.there r l
                  ∙ ap (o.add (cell o xs cols r column)) (sym (more ∙ ap (o.add (coefficient o (take k p) m)) no ∙ laws.add-zero (coefficient o (take k p) m)))
            ];
        others = λ r c a l. cell_set_column o cols ys v row column inside r c a l ∙ s.others r c a l;
        kept = record {
          long = length-set ys (row * cols + column) v ∙ s.kept.long;
          beyond = λ q l. get_or-set_other ys (row * cols + column) q v o.zero (λ e. omega arith) ∙ s.kept.beyond q l;
        };
      }

-- a factor one changes no coefficient
pub summed_once : {F : Type 0} {o : Ops F} (laws : Laws o) (n d cols column : ℕ) (p : List (Term F)) (xs ys : List F) → Summed o n d cols column (scaled o o.one p) xs ys → Summed o n d cols column p xs ys
summed_once {F} {o} laws n d cols column p xs ys s = record {
  there = λ r h. let m = monomial_at n (d + 3) r in s.there r h ∙ ap (o.add (cell o xs cols r column)) (coefficient_scaled laws o.one p m ∙ one-mul laws (coefficient o p m));
  others = s.others;
  kept = s.kept;
}
