-- Certificates by independent products: there is one wherever there is any, only one, and over two fields the same.
use Rattle.std.proofs.Common.{◌≡◌, ℕ, ◌+◌, ◌<◌, Bool, true, false, eqb, List, sym, refl, ap, ◌∙◌, subst}
use Rattle.fields.specs.Field.{Ops, Laws}
use Rattle.fields.specs.Bit.{bit_ops}
use Rattle.algebra.specs.Linear.{Represents, ColumnComb, Dependent, OnIndependent}
use Rattle.algebra.specs.ZeroOne.{digit, digits, Agree}
use Rattle.algebra.proofs.Alternatives.{independent_suffice}
use Rattle.algebra.proofs.ColumnCombinations.{unique}
use Rattle.algebra.proofs.ZerosAndOnes.{agree}
use Rattle.polynomials.specs.declared.term.Term.{Term}
use Rattle.polynomials.specs.Polynomial.{IsOne}
use Rattle.polynomials.specs.Monomial.{Formed, count}
use Rattle.polynomials.specs.Certificate.{Certified}
use Rattle.polynomials.specs.Product.{products, combination, DependentProduct, UsesIndependent, entry, target}
use Rattle.polynomials.specs.Image.{exponents_of, AllOne, SameOnes, with_ones}
use Rattle.polynomials.specs.Theorems.{CertificatesIndependent, CertificatesAgree}
use Rattle.polynomials.proofs.Matrices.{one_represented, represented_one, dependent_column, column_dependent}
use Rattle.polynomials.proofs.Certificates.{matrix_decides}
use Rattle.polynomials.proofs.Images.{with_ones_back, entry_image, same_products}

module _ {F : Type 0} {o : Ops F} (laws : Laws o) where
  on_independent : (n d : ℕ) (eqs : List (List (Term F))) (x : ℕ → F) → Formed n eqs → UsesIndependent o n d eqs x →
      OnIndependent o (count n (d + 3)) (products n d eqs) (entry o n d eqs) x
  on_independent n d eqs x formed h p l dep = h p l (column_dependent laws n d p eqs formed l dep)

  pub certificates_independent : CertificatesIndependent o
  certificates_independent = record {
    some = λ n d eqs formed c.
        let columns = (matrix_decides laws).certified n d eqs formed c in
        let found = independent_suffice laws (count n (d + 3)) (products n d eqs) (entry o n d eqs) (target o) columns in
        (found.0, represented_one laws n d eqs found.0 formed found.1.0, λ p l dep. found.1.1 p l (dependent_column laws n d p eqs dep));
    only = λ n d eqs x y formed one-x ix one-y iy.
        unique laws (count n (d + 3)) (entry o n d eqs) (products n d eqs) (target o) x y
        (one_represented laws n d eqs x formed one-x) (one_represented laws n d eqs y formed one-y)
        (on_independent n d eqs x formed ix) (on_independent n d eqs y formed iy);
  }

-- the entries of equations whose coefficients are all one, as truth values
abbrev truths : ℕ → ℕ → List (List (List ℕ)) → ℕ → ℕ → Bool
truths n d es r q = (entry bit_ops n d (with_ones bit_ops es) r q).set

module _ {F : Type 0} {o : Ops F} (laws : Laws o) (n d : ℕ)
    (eqs : List (List (Term F))) (es : List (List (List ℕ))) (same : exponents_of eqs ≡ es) (ones : AllOne o eqs) where
  matrix_of_ones : entry o n d eqs ≡ digits o (truths n d es)
  matrix_of_ones i r q =
      (ap (λ (w : List (List (Term F))). entry o n d w r q) (sym (with_ones_back o eqs ones))
      ∙ ap (λ (e : List (List (List ℕ))). entry o n d (with_ones o e) r q) same
      ∙ entry_image laws n d es r q) i

digit_code : {F G : Type 0} {o : Ops F} {p : Ops G} (first : Laws o) (second : Laws p) (b : Bool) →
    o.code (digit o b) ≡ p.code (digit p b)
digit_code first second true = first.code_one ∙ sym second.code_one
digit_code first second false = first.code_zero ∙ sym second.code_zero

module _ {F G : Type 0} {o : Ops F} {p : Ops G} (first : Laws o) (second : Laws p) (n d : ℕ)
    (eqs : List (List (Term F))) (others : List (List (Term G)))
    (formed : Formed n eqs) (formed' : Formed n others) (is : SameOnes o p eqs others) where
  agreement : Agree o p (count n (d + 3)) (products n d eqs) (truths n d (exponents_of eqs)) (λ r. eqb r 0)
  agreement = agree first second (count n (d + 3)) (products n d eqs) (truths n d (exponents_of eqs)) (λ r. eqb r 0)

  mine : entry o n d eqs ≡ digits o (truths n d (exponents_of eqs))
  mine = matrix_of_ones first n d eqs (exponents_of eqs) refl is.first

  theirs : entry p n d others ≡ digits p (truths n d (exponents_of eqs))
  theirs = matrix_of_ones second n d others (exponents_of eqs) (sym is.exponents) is.second

  as_many : products n d eqs ≡ products n d others
  as_many = same_products n d eqs others is.exponents

  dependent_over : (q : ℕ) → q < products n d eqs → DependentProduct o n d eqs q → DependentProduct p n d others q
  dependent_over q l h =
      column_dependent second n d q others formed' (subst (λ (k : ℕ). q < k) as_many l)
      (subst (λ (m : ℕ → ℕ → G). Dependent p (count n (d + 3)) m q) (sym theirs)
      (agreement.columns q (subst (λ (m : ℕ → ℕ → F). Dependent o (count n (d + 3)) m q) mine (dependent_column first n d q eqs h))))

  certified_over : Certified o n d eqs → Certified p n d others
  certified_over c =
      let rows = count n (d + 3) in
      let k = products n d eqs in
      let columns = (matrix_decides first).certified n d eqs formed c in
      let over = agreement.side (subst (λ (m : ℕ → ℕ → F). ColumnComb o rows k m (target o)) mine columns) in
      let back = subst (λ (m : ℕ → ℕ → G). ColumnComb p rows k m (target p)) (sym theirs) over in
      (matrix_decides second).is_certified n d others formed' (subst (λ (k : ℕ). ColumnComb p rows k (entry p n d others) (target p)) as_many back)

  codes_over : (x : ℕ → F) (y : ℕ → G) →
      IsOne o (combination o n d eqs x) → UsesIndependent o n d eqs x → IsOne p (combination p n d others y) → UsesIndependent p n d others y →
      (q : ℕ) → q < products n d eqs → o.code (x q) ≡ p.code (y q)
  codes_over x y one-x ix one-y iy q l =
      let rows = count n (d + 3) in
      let k = products n d eqs in
      let rep-x = subst (λ (m : ℕ → ℕ → F). Represents o rows k m x (target o)) mine (one_represented first n d eqs x formed one-x) in
      let ind-x = subst (λ (m : ℕ → ℕ → F). OnIndependent o rows k m x) mine (on_independent first n d eqs x formed ix) in
      let rep-y =
      subst (λ (m : ℕ → ℕ → G). Represents p rows k m y (target p)) theirs
      (subst (λ (k : ℕ). Represents p rows k (entry p n d others) y (target p)) (sym as_many) (one_represented second n d others y formed' one-y)) in
      let ind-y =
      subst (λ (m : ℕ → ℕ → G). OnIndependent p rows k m y) theirs
      (subst (λ (k : ℕ). OnIndependent p rows k (entry p n d others) y) (sym as_many) (on_independent second n d others y formed' iy)) in
      let found = agreement.solutions x y rep-x ind-x rep-y ind-y in
      ap o.code (found.1 q l).0 ∙ digit_code first second (found.0 q) ∙ sym (ap p.code (found.1 q l).1)

pub certificates_agree : {F G : Type 0} {o : Ops F} {p : Ops G} → Laws o → Laws p → CertificatesAgree o p
certificates_agree first second = record {
  dependent = λ n d q eqs others formed formed' is. dependent_over first second n d eqs others formed formed' is q;
  certified = certified_over first second;
  codes = λ n d eqs others x y formed formed' is. codes_over first second n d eqs others formed formed' is x y;
}
