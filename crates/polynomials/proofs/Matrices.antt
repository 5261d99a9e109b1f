-- Combinations of products by their coefficients at the ranks.
use Rattle.std.proofs.Common.{◌≡◌, ℕ, zero, suc, ◌+◌, ◌<◌, ◌≤◌, Bool, cond, eqb, ◌⊎◌, List, [], ◌∷◌, take, sym, refl, ap, ◌∙◌, subst, inl, inr, arith}
use Rattle.std.proofs.ByRecursion.{All-append, All-weaker}
use Rattle.std.proofs.lemmas.Bool.{cases_eq, eq-eqb, ne_eqb, cond-true, cond-false}
use Rattle.fields.specs.Field.{Ops, Laws}
use Rattle.algebra.specs.Linear.{sum, Represents, Dependent}
use Rattle.algebra.proofs.Sums.{zero-add}
use Rattle.monomials.specs.Order.{rank_of}
use Rattle.polynomials.specs.declared.term.Term.{Term}
use Rattle.polynomials.specs.Polynomial.{coefficient, Equal, IsOne, unity, scaled}
use Rattle.polynomials.specs.Monomial.{Monomial, Within, Formed, Ranked, monomial_at, count}
use Rattle.polynomials.specs.Product.{product, products, weighted, combination, DependentProduct, entry, target}
use Rattle.polynomials.specs.Theorems.{Agree, OneIsUnity, RanksSuffice}
use Rattle.polynomials.proofs.Coefficients.{cases_alike, coefficient_append, coefficient_scaled}
use Rattle.polynomials.proofs.Values.{one_equal, equal_one}
use Rattle.polynomials.proofs.Ranks.{ranked, zeros_monomial, rank_zero, rank_other, product_within}

module _ {F : Type 0} {o : Ops F} (laws : Laws o) where
  pub one_is_unity : OneIsUnity o
  one_is_unity p = (one_equal laws p, equal_one laws p)

  -- only the monomials of its terms have a coefficient other than zero
  coefficient_or : (n d : ℕ) (p : List (Term F)) (e : List ℕ) → Within n d p → Monomial n d e ⊎ (coefficient o p e ≡ o.zero)
  coefficient_or n d [] e h = inr refl
  coefficient_or n d (t ∷ p) e h =
      elim (cases_alike t.exponents e) [
        | inl y ↦ inl (subst (Monomial n d) y h.0)
        | inr no-match ↦ elim (coefficient_or n d p e h.1) [
          | inl is ↦ inl is
          | inr z ↦ inr (ap (λ (b : Bool). o.add (cond b t.coeff o.zero) (coefficient o p e)) no-match ∙ zero-add laws (coefficient o p e) ∙ z)
        ]
      ]

  agree_equal : (n d : ℕ) (p q : List (Term F)) → n ≤ 24 → Within n d p → Within n d q → Agree o n d p q → Equal o p q
  agree_equal n d p q few hp hq h e =
      elim (coefficient_or n d p e hp) [
        | inl is ↦ at_monomial is
        | inr zp ↦ elim (coefficient_or n d q e hq) [ inl is ↦ at_monomial is | inr zq ↦ zp ∙ sym zq ]
      ]
    where
      at_monomial : Monomial n d e → coefficient o p e ≡ coefficient o q e
      at_monomial is =
          let at = ranked n d e few is in
          subst (λ (f : List ℕ). coefficient o p f ≡ coefficient o q f) at.same (h (rank_of (take n e)) at.below)

  scaled_within : (n d : ℕ) (k : F) (p : List (Term F)) → Within n d p → Within n d (scaled o k p)
  scaled_within n d k [] h = tt
  scaled_within n d k (t ∷ p) h = (h.0, scaled_within n d k p h.1)

  weighted_within : (n d k : ℕ) (x : ℕ → F) (f : ℕ → List (Term F)) → ((p : ℕ) → p < k → Within n d (f p)) → Within n d (weighted o k x f)
  weighted_within n d zero x f h = tt
  weighted_within n d (suc k) x f h =
      All-append (λ t. Monomial n d t.exponents) (weighted o k x f) (scaled o (x k) (f k))
      (weighted_within n d k x f (λ p l. h p (omega arith)))
      (scaled_within n d (x k) (f k) (h k (omega arith)))

  pub combination_within : (n d : ℕ) (eqs : List (List (Term F))) (x : ℕ → F) → Formed n eqs → Within n (d + 3) (combination o n d eqs x)
  unfolding combination
  combination_within n d eqs x formed =
      weighted_within n (d + 3) (products n d eqs) x (product n d eqs) (λ p l. product_within n d p eqs l formed)

  unity_within : (n d : ℕ) → Within n d (unity o)
  unity_within n d = (zeros_monomial n d, tt)

  pub ranks_suffice : RanksSuffice o
  ranks_suffice = record {
    equal = λ n d p q few hp hq. ((λ h r l. h (monomial_at n d r)), agree_equal n d p q few hp hq);
    ranked = λ n d p eqs formed l.
        All-weaker (λ t. Monomial n (d + 3) t.exponents) (λ t. Ranked n (d + 3) t.exponents)
        (λ t is. ranked n (d + 3) t.exponents formed.few is)
        (product n d eqs p) (product_within n d p eqs l formed);
    combinations = combination_within;
    one = unity_within;
  }

  pub coefficient_weighted : (k : ℕ) (x : ℕ → F) (f : ℕ → List (Term F)) (e : List ℕ) →
      coefficient o (weighted o k x f) e ≡ sum o k (λ p. o.mul (x p) (coefficient o (f p) e))
  coefficient_weighted zero x f e = refl
  coefficient_weighted (suc k) x f e =
      coefficient_append laws (weighted o k x f) (scaled o (x k) (f k)) e
      ∙ ap (λ (s : F). o.add s (coefficient o (scaled o (x k) (f k)) e)) (coefficient_weighted k x f e)
      ∙ ap (o.add (sum o k (λ p. o.mul (x p) (coefficient o (f p) e)))) (coefficient_scaled laws (x k) (f k) e)

  -- at any exponents
  pub coefficient_combination : (n d : ℕ) (eqs : List (List (Term F))) (x : ℕ → F) (e : List ℕ) →
      coefficient o (combination o n d eqs x) e ≡ sum o (products n d eqs) (λ p. o.mul (x p) (coefficient o (product n d eqs p) e))
  unfolding combination
  coefficient_combination n d eqs x e = coefficient_weighted (products n d eqs) x (product n d eqs) e

  -- and at a rank
  pub coefficient_entries : (n d : ℕ) (eqs : List (List (Term F))) (x : ℕ → F) (r : ℕ) →
      coefficient o (combination o n d eqs x) (monomial_at n (d + 3) r) ≡ sum o (products n d eqs) (λ p. o.mul (x p) (entry o n d eqs r p))
  unfolding entry
  coefficient_entries n d eqs x r = coefficient_combination n d eqs x (monomial_at n (d + 3) r)

  -- the polynomial one has the coefficients of the target
  unity_target : (n d r : ℕ) → n ≤ 24 → r < count n d → coefficient o (unity o) (monomial_at n d r) ≡ target o r
  unity_target n d r few l =
      elim (cases_eq r 0) [
        | inl y ↦
            ap (λ (k : ℕ). coefficient o (unity o) (monomial_at n d k)) y
            ∙ ap (coefficient o (unity o)) (rank_zero n d few)
            ∙ laws.add-zero o.one
            ∙ sym (cond-true (eqb r 0) o.one o.zero (eq-eqb r 0 y))
        | inr m ↦
            (equal_one laws (unity o) (λ e. refl)).others (monomial_at n d r) (λ e. m (rank_other n d r few l e))
            ∙ sym (cond-false (eqb r 0) o.one o.zero (ne_eqb r 0 m))
      ]

  -- the two sides of the linear system
  pub one_represented : (n d : ℕ) (eqs : List (List (Term F))) (x : ℕ → F) → Formed n eqs → IsOne o (combination o n d eqs x) →
      Represents o (count n (d + 3)) (products n d eqs) (entry o n d eqs) x (target o)
  one_represented n d eqs x formed is r l =
      sym (unity_target n (d + 3) r formed.few l)
      ∙ sym (one_equal laws (combination o n d eqs x) is (monomial_at n (d + 3) r))
      ∙ coefficient_entries n d eqs x r

  pub represented_one : (n d : ℕ) (eqs : List (List (Term F))) (x : ℕ → F) → Formed n eqs →
      Represents o (count n (d + 3)) (products n d eqs) (entry o n d eqs) x (target o) → IsOne o (combination o n d eqs x)
  represented_one n d eqs x formed h =
      equal_one laws (combination o n d eqs x)
      (agree_equal n (d + 3) (combination o n d eqs x) (unity o) formed.few (combination_within n d eqs x formed) (unity_within n (d + 3))
      (λ r l. coefficient_entries n d eqs x r ∙ sym (h r l) ∙ sym (unity_target n (d + 3) r formed.few l)))

  -- products that lower-numbered ones make
  pub dependent_column : (n d p : ℕ) (eqs : List (List (Term F))) → DependentProduct o n d eqs p →
      Dependent o (count n (d + 3)) (entry o n d eqs) p
  unfolding entry
  dependent_column n d p eqs h =
      (h.0, λ r l. h.1 (monomial_at n (d + 3) r) ∙ coefficient_weighted p h.0 (product n d eqs) (monomial_at n (d + 3) r))

  pub column_dependent : (n d p : ℕ) (eqs : List (List (Term F))) → Formed n eqs → p < products n d eqs →
      Dependent o (count n (d + 3)) (entry o n d eqs) p → DependentProduct o n d eqs p
  unfolding entry
  column_dependent n d p eqs formed below h = (
    h.0,
    agree_equal n (d + 3) (product n d eqs p) (weighted o p h.0 (product n d eqs)) formed.few
        (product_within n d p eqs below formed)
        (weighted_within n (d + 3) p h.0 (product n d eqs) (λ q l. product_within n d q eqs (omega arith) formed))
        (λ r l. h.1 r l ∙ sym (coefficient_weighted p h.0 (product n d eqs) (monomial_at n (d + 3) r))),
  )
