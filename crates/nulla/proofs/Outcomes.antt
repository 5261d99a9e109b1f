-- A degree has a verdict, and it is known whether a certificate passes its check. Assumes nothing.
use Rattle.std.proofs.Common.{◌≡◌, ℕ, ◌+◌, ◌<◌, List, length, ap, ◌∙◌, inl, inr}
use Rattle.std.proofs.lemmas.Bool.{cases_eq}
use Rattle.fields.specs.Field.{Ops, Laws}
use Rattle.algebra.specs.Linear.{sum}
use Rattle.algebra.proofs.Alternatives.{alternative, never_both}
use Rattle.algebra.proofs.Sums.{sum_same}
use Rattle.polynomials.specs.declared.term.Term.{Term}
use Rattle.polynomials.specs.Certificate.{Certified}
use Rattle.polynomials.specs.Monomial.{Formed, count}
use Rattle.polynomials.specs.Polynomial.{IsOne}
use Rattle.polynomials.specs.Product.{products, combination, entry, target}
use Rattle.polynomials.proofs.Certificates.{matrix_decides}
use Rattle.polynomials.proofs.Independence.{certificates_independent}
use Rattle.certificates.specs.declared.verdict.Verdict.{Verdict}
use Rattle.certificates.specs.declared.verdict.Verdict.TheVariants.{Infeasible, Open}
use Rattle.certificates.specs.Checking.{degree_of, faults, Passes}
use Rattle.certificates.specs.Grounds.{Clear}
use Rattle.certificates.specs.Outcome.{Memory, memory, Chosen, cleared, written, Worked, certified, uncertified}
use Rattle.layout.specs.Certificate.{over}
use Rattle.layout.specs.Reading.{before}
use Rattle.layout.specs.Length.{map_bytes}
use Rattle.certificates.proofs.Standing.{codes_below}
use Rattle.layout.proofs.Inverse.{reading, inverse}
use Rattle.nulla.proofs.Decisions.{Known, known_below}

known_same : {F : Type 0} {o : Ops F} → Laws o → (x y : F) → Known (x ≡ y)
known_same {o = o} laws x y = elim (cases_eq (o.code x) (o.code y)) [ inl e ↦ inl (laws.code_same x y e) | inr n ↦ inr (λ e. n (ap o.code e)) ]

module _ {F : Type 0} {o : Ops F} (laws : Laws o) where
  module _ (n : ℕ) (eqs : List (List (Term F))) (ok : Formed n eqs) where
    known_certified : (d : ℕ) → Known (Certified o n d eqs)
    known_certified d = elim (alternative laws (count n (d + 3)) (products n d eqs) (entry o n d eqs) (target o)) [
      | inl c ↦ inl ((matrix_decides laws).is_certified n d eqs ok c)
      | inr w ↦ inr (λ c. never_both laws (count n (d + 3)) (products n d eqs) (entry o n d eqs) (target o) ((matrix_decides laws).certified n d eqs ok c) w.0 w.1)
    ]

    -- a degree has a verdict
    pub worked : (d : ℕ) (m : Memory F) → (v : Verdict) × (k : Memory F) × Worked o n d eqs m v k
    worked d m = elim (known_certified d) [
      | inl c ↦
          let some = (certificates_independent laws).some n d eqs ok c in
          let x = some.0 in
          let chosen : Chosen o n d eqs x = record {
            sums = some.1;
            independent = some.2;
            only = λ y one uses. (certificates_independent laws).only n d eqs y x ok one uses some.1 some.2;
          } in
          (Infeasible d (length (written o n d eqs x)), memory (cleared o n d eqs m.table) (over (written o n d eqs x) m.certificate), certified x chosen)
      | inr h ↦ (Open d, memory (cleared o n d eqs m.table) m.certificate, uncertified h)
    ]

    -- whether the products by their coefficients add up to one
    known_one : (d : ℕ) (x : ℕ → F) → Known (IsOne o (combination o n d eqs x))
    known_one d x =
        elim (known_below (λ r. target o r ≡ sum o (products n d eqs) (λ c. o.mul (x c) (entry o n d eqs r c)))
        (λ r. known_same laws (target o r) (sum o (products n d eqs) (λ c. o.mul (x c) (entry o n d eqs r c)))) (count n (d + 3))) [
          | inl h ↦ inl ((matrix_decides laws).is_one n d eqs x ok h)
          | inr h ↦ inr (λ one. h ((matrix_decides laws).one n d eqs x ok one))
        ]

    -- coefficients that agree at the products add up alike
    one_alike : (d : ℕ) (x y : ℕ → F) → ((p : ℕ) → p < products n d eqs → x p ≡ y p) → IsOne o (combination o n d eqs x) → IsOne o (combination o n d eqs y)
    one_alike d x y same one =
        (matrix_decides laws).is_one n d eqs y ok
        (λ r h.
        (matrix_decides laws).one n d eqs x ok one r h
        ∙ sum_same laws (products n d eqs) (λ c. o.mul (x c) (entry o n d eqs r c)) (λ c. o.mul (y c) (entry o n d eqs r c)) (λ c l. ap (λ z. o.mul z (entry o n d eqs r c)) (same c l)))

    -- bytes with no fault stand for coefficients, and those only, so it is known whether they pass
    pub known_passes : (bytes : List ℕ) (table : List F) → Clear (faults o n eqs bytes table) → Known (Passes o n eqs bytes)
    known_passes bytes table c =
        let d = degree_of bytes in
        let p = products n d eqs in
        let long : length bytes ≡ 6 + map_bytes p + before bytes p = elim (cases_eq (length bytes) (6 + map_bytes p + before bytes p)) [ inl e ↦ e | inr e ↦ absurd (c.1.1.1.0 e) ] in
        let read = reading laws p bytes (codes_below bytes o.size p long (λ b. c.1.1.1.1.0 (inr b))) in
        let x = read.0 in
        let means = read.1 in
        elim (known_one d x) [
          | inl one ↦ inl (x, means, one)
          | inr none ↦ inr (λ h. none (one_alike d h.0 x ((inverse laws).agree p bytes h.0 x h.1 means) h.2))
        ]
