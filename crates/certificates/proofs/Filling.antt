-- Column after column of the matrix. Assumes nothing.
use Rattle.std.proofs.Common.{◌≡◌, ℕ, ◌+◌, ◌*◌, ◌<◌, ◌≤◌, eqb, List, [], length, get_or, set, sym, ap, ◌∙◌, subst, inl, inr, mul-le-mul_right, add-mul, one-mul, arith}
use Rattle.std.proofs.lemmas.Bool.{cases_eq, ne_eqb, cond-false}
use Rattle.fields.specs.Field.{Ops, Laws}
use Rattle.algebra.specs.Grid.{cell, Kept}
use Rattle.algebra.proofs.Places.{cell_in, cell_set_same, cell_set_row, cell_set_column}
use Rattle.algebra.proofs.Sums.{zero-add}
use Rattle.polynomials.specs.declared.term.Term.{Term}
use Rattle.polynomials.specs.Polynomial.{coefficient, scaled, times}
use Rattle.polynomials.specs.Monomial.{count, monomial_at}
use Rattle.polynomials.specs.Product.{product, products, entry, target}
use Rattle.polynomials.proofs.Entries.{product_at}
use Rattle.certificates.specs.Matrix.{Summed, Begun, Filled}
use Rattle.certificates.proofs.Columns.{summed_once}

-- a column of an equation is one of the products
pub column_below : (e j c k : ℕ) → e < k → j < c → e * c + j < k * c
column_below e j c k h l =
    let m : (e + 1) * c ≤ k * c = mul-le-mul_right c (omega arith) in
    omega (arith, m, add-mul e 1 c, one-mul c)

module _ {F : Type 0} {o : Ops F} (laws : Laws o) (n d : ℕ) (eqs : List (List (Term F))) where
  pub begun_none : (xs : List F) → ((k : ℕ) → k < count n (d + 3) * (products n d eqs + 1) → get_or xs k o.zero ≡ o.zero) → Begun o n d eqs 0 xs
  begun_none xs blank = record {
    done = λ r p h l. absurd (omega arith);
    left = λ r p h l k. blank (r * (products n d eqs + 1) + p) (cell_in r p (count n (d + 3)) (products n d eqs + 1) _ h (omega arith) (omega arith));
  }

  -- one column more
  pub begun_more : (e j : ℕ) (xs ys : List F) → e < length eqs → j < count n d
      → Summed o n d (products n d eqs + 1) (e * count n d + j) (times (monomial_at n d j) (get_or eqs e [])) xs ys
      → Begun o n d eqs (e * count n d + j) xs → Begun o n d eqs (e * count n d + (j + 1)) ys
  unfolding entry
  begun_more e j xs ys h l s b =
      let k = e * count n d + j in
      let P = products n d eqs in
      let below : k < P = column_below e j (count n d) (length eqs) h l in
      record {
        done = λ r p q a. elim (cases_eq p k) [
          | inl i ↦ subst (λ (z : ℕ). cell o ys (P + 1) r z ≡ coefficient o (product n d eqs z) (monomial_at n (d + 3) r)) (sym i)
              (s.there r q ∙ ap (λ (z : F). o.add z (coefficient o (times (monomial_at n d j) (get_or eqs e [])) (monomial_at n (d + 3) r))) (b.left r k q (omega arith) (omega arith))
              ∙ zero-add laws (coefficient o (times (monomial_at n d j) (get_or eqs e [])) (monomial_at n (d + 3) r))
              ∙ ap (λ (q : List (Term F)). coefficient o q (monomial_at n (d + 3) r)) (sym (product_at n d eqs e j l)))
          | inr i ↦ s.others r p i (omega arith) ∙ b.done r p q (omega arith)
        ];
        left = λ r p q a z. s.others r p (λ i. omega arith) (omega arith) ∙ b.left r p q (omega arith) z;
      }

  -- a product that is added with the factor one is one column more, by whatever names its number, its monomial and the width go
  pub column_turn : (e j m cols : ℕ) (x : List ℕ) (f : F) (xs ys : List F) → e < length eqs → j < count n d → m ≡ count n d → x ≡ monomial_at n d j → f ≡ o.one → cols ≡ products n d eqs + 1
      → Summed o n d cols (e * m + j) (scaled o f (times x (get_or eqs e []))) xs ys → Begun o n d eqs (e * m + j) xs
      → Kept o (count n (d + 3) * cols) xs ys × Begun o n d eqs (e * m + (j + 1)) ys
  column_turn e j m cols x f xs ys h l many here one wide s b =
      let eq = get_or eqs e [] in
      let plain = summed_once laws n d cols (e * m + j) (times x eq) xs ys (subst (λ (g : F). Summed o n d cols (e * m + j) (scaled o g (times x eq)) xs ys) one s) in
      let summed : Summed o n d (products n d eqs + 1) (e * count n d + j) (times (monomial_at n d j) eq) xs ys =
      subst (λ (z : List ℕ). Summed o n d (products n d eqs + 1) (e * count n d + j) (times z eq) xs ys) here
      (subst (λ (k : ℕ). Summed o n d (products n d eqs + 1) (e * k + j) (times x eq) xs ys) many
      (subst (λ (w : ℕ). Summed o n d w (e * m + j) (times x eq) xs ys) wide plain)) in (
        s.kept,
        subst (λ (k : ℕ). Begun o n d eqs (e * k + (j + 1)) ys) (sym many) (begun_more e j xs ys h l summed (subst (λ (k : ℕ). Begun o n d eqs (e * k + j) xs) many b)),
      )

  -- the last column gets one in the first row
  pub begun_filled : (xs : List F) → n ≤ 24 → 0 < count n (d + 3) → count n (d + 3) * (products n d eqs + 1) ≤ length xs → Begun o n d eqs (products n d eqs) xs
      → Filled o n d eqs (set xs (0 * (products n d eqs + 1) + products n d eqs) o.one)
  begun_filled xs few some room b =
      let P = products n d eqs in
      let place : 0 * (P + 1) + P < length xs = omega (arith, cell_in 0 P (count n (d + 3)) (P + 1) (length xs) some (omega arith) room) in
      record {
        columns = λ r p h l. cell_set_column o (P + 1) xs o.one 0 P (omega arith) r p (λ e. omega arith) (omega arith) ∙ b.done r p h l;
        last = λ r h. elim (cases_eq r 0) [
          | inl e ↦ subst (λ (z : ℕ). cell o (set xs (0 * (P + 1) + P) o.one) (P + 1) z P ≡ target o z) (sym e) (cell_set_same o (P + 1) xs o.one 0 P (omega arith) place)
          | inr e ↦ cell_set_row o (P + 1) xs o.one 0 P (omega arith) r P e (omega arith) ∙ b.left r P h (omega arith) (omega arith) ∙ sym (cond-false (eqb r 0) o.one o.zero (ne_eqb r 0 e))
        ];
      }
