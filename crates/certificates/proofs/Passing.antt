-- A check passes exactly where the sum of the products is one. Assumes nothing.
use Rattle.std.proofs.Common.{◌≡◌, ℕ, ◌+◌, ◌*◌, ◌<◌, ◌≤◌, List, ◌++◌, length, get_or, take, drop, replicate, sym, ap, ◌∙◌, subst, arith, length-take, get_or-take}
use Rattle.fields.specs.Field.{Ops, Laws}
use Rattle.algebra.specs.Grid.{Kept}
use Rattle.algebra.specs.Linear.{sum}
use Rattle.polynomials.specs.declared.term.Term.{Term}
use Rattle.polynomials.specs.Monomial.{Formed, count}
use Rattle.polynomials.specs.Polynomial.{IsOne}
use Rattle.polynomials.specs.Product.{products, combination, entry}
use Rattle.polynomials.proofs.Certificates.{matrix_decides}
use Rattle.certificates.specs.declared.sizes.Sizes.{Sizes}
use Rattle.certificates.specs.Checking.{degree_of, Admitted, Passes, swept}
use Rattle.layout.specs.Reading.{Means}
use Rattle.certificates.specs.Sizes.{rows}
use Rattle.certificates.specs.Summing.{Totals, Unity}
use Rattle.certificates.proofs.Admitting.{degree_is, rows_inside, codes_read}
use Rattle.layout.proofs.Inverse.{reading}
use Rattle.certificates.proofs.Seeking.{blank_after}

module _ {F : Type 0} {o : Ops F} (laws : Laws o) (n d : ℕ) (eqs : List (List (Term F))) (formed : Formed n eqs) (bytes : List ℕ) (xs : List F) (totals : Totals o n d eqs bytes (products n d eqs) xs) (k : ℕ) (rows : k ≡ count n (d + 3)) (room : k ≤ length xs) where
  abbrev front : List F
  front = take k xs

  long : length front ≡ count n (d + 3)
  long = length-take k xs ∙ omega (arith, rows)

  -- a row has the coefficient of the combination at its monomial
  row_is : (x : ℕ → F) → Means o (products n d eqs) bytes x → (r : ℕ) → r < count n (d + 3) → get_or front r o.zero ≡ sum o (products n d eqs) (λ p. o.mul (x p) (entry o n d eqs r p))
  unfolding combination
  row_is x m r h =
      get_or-take k xs r o.zero (omega (arith, rows)) ∙ ap (λ (j : ℕ). get_or xs j o.zero) (omega arith) ∙ totals x m r h ∙ (matrix_decides laws).coefficients n d eqs x r

  pub unity_one : Unity o front → (x : ℕ → F) → Means o (products n d eqs) bytes x → IsOne o (combination o n d eqs x)
  unity_one unity x m = (matrix_decides laws).is_one n d eqs x formed (λ r h. sym (unity r (omega (arith, long))) ∙ row_is x m r h)

  pub one_unity : (x : ℕ → F) → Means o (products n d eqs) bytes x → IsOne o (combination o n d eqs x) → Unity o front
  one_unity x m one r h =
      let below : r < count n (d + 3) = omega (arith, long) in
      row_is x m r below ∙ sym ((matrix_decides laws).one n d eqs x formed one r below)

module _ {F : Type 0} {o : Ops F} (laws : Laws o) (n : ℕ) (eqs : List (List (Term F))) (formed : Formed n eqs) (bytes : List ℕ) (table xs : List F) (z : Sizes) (a : Admitted o.size n (length eqs) bytes (length table) z) (kept : Kept o z.rows table xs) (totals : Totals o n z.degree eqs bytes z.products xs) where
  abbrev d : ℕ
  d = degree_of bytes

  all : Totals o n d eqs bytes (products n d eqs) xs
  all = subst (λ (k : ℕ). Totals o n d eqs bytes k xs) (ap (λ (s : Sizes). s.products) a.measured.is) (subst (λ (k : ℕ). Totals o n k eqs bytes z.products xs) (degree_is o.size n (length eqs) bytes (length table) z a) totals)

  height : z.rows ≡ rows n d
  height = ap (λ (s : Sizes). s.rows) a.measured.is

  inside : z.rows ≤ length table
  inside = rows_inside o.size n (length eqs) bytes (length table) z a

  room : z.rows ≤ length xs
  room = omega (arith, inside, kept.long)

  pub passes : Unity o (take z.rows xs) → Passes o n eqs bytes
  passes unity =
      let read = reading laws (products n d eqs) bytes (codes_read o.size n (length eqs) bytes (length table) z a) in
      (read.0, read.1, unity_one laws n d eqs formed bytes xs all z.rows height room unity read.0 read.1)

  pub passed : Passes o n eqs bytes → Unity o (take z.rows xs)
  passed (x, m, one) = one_unity laws n d eqs formed bytes xs all z.rows height room x m one

  pub wiped : (after : List F) → after ≡ replicate (z.rows * 1) o.zero ++ drop (z.rows * 1) xs → after ≡ swept o n eqs bytes table
  wiped after e =
      blank_after o (rows n d) table xs after (omega (arith, inside, height)) (subst (λ (k : ℕ). Kept o k table xs) height kept)
      (e ∙ ap (λ (k : ℕ). replicate k o.zero ++ drop k xs) (omega (arith, height)))
