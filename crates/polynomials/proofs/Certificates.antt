-- Lists of multiples and coefficients by product number; and the certificates of more equations in more variables.
use Rattle.std.proofs.Common.{◌≡◌, ℕ, zero, suc, ◌+◌, ◌*◌, ◌/◌, ◌%◌, ◌<◌, ◌≤◌, Bool, true, false, cond, List, [], ◌∷◌, get_or, take, sym, refl, ap, ◌∙◌, arith}
use lib.Arith.{digits_lt, digits_div, digits_mod}
use Rattle.std.specs.List.{AllByRecursion}
use Rattle.std.proofs.ByRecursion.{All-weaker}
use Rattle.fields.specs.Field.{Ops, Laws}
use Rattle.algebra.specs.Linear.{sum}
use Rattle.algebra.proofs.Sums.{mul-zero, zero-mul, add-mul, sum_same, sum_zero, sum_add, sum_mul, unit, sum_unit}
use Rattle.monomials.specs.Order.{rank_of}
use Rattle.polynomials.specs.declared.term.Term.{Term}
use Rattle.polynomials.specs.Polynomial.{alike, plus, coefficient, Equal, IsOne, scaled, times, zeros}
use Rattle.polynomials.specs.Monomial.{monomial_at, count}
use Rattle.polynomials.specs.Certificate.{Multiple, Allowed, multiple, total, Certified, Listed, AllListed}
use Rattle.polynomials.specs.Product.{product, products, weighted, combination}
use Rattle.polynomials.specs.Theorems.{ProductsSuffice, CertificatesStay, CertificatesRise, MatrixDecides}
use Rattle.polynomials.proofs.Coefficients.{weigh, weigh_equal, coefficient_append, coefficient_scaled}
use Rattle.polynomials.proofs.Ranks.{ranked, monomial_at_lem, monomial_wider, monomial_higher, equation_below, rank_below}
use Rattle.polynomials.proofs.Matrices.{coefficient_combination, coefficient_entries, one_represented, represented_one, dependent_column, column_dependent}

-- one polynomial in the place of another
pub one_from : {F : Type 0} (o : Ops F) (p q : List (Term F)) → Equal o p q → IsOne o q → IsOne o p
one_from o p q h is = record { unit = h zeros ∙ is.unit; others = λ e d. h e ∙ is.others e d }

module _ {F : Type 0} (n d : ℕ) where
  -- the number of the product that a multiple is a multiple of
  abbrev pub place : Multiple F → ℕ
  place m = m.equation * count n d + rank_of (take n m.multiplier)

  -- the multiple of product p by its coefficient
  abbrev numbered : (ℕ → F) → ℕ → Multiple F
  numbered x p = record { coeff = x p; multiplier = monomial_at n d (p % count n d); equation = p / count n d }

  abbrev all_numbered : (ℕ → F) → ℕ → List (Multiple F)
  all_numbered x zero = []
  all_numbered x (suc k) = numbered x k ∷ all_numbered x k

  module _ (eqs : List (List (Term F))) (few : n ≤ 24) where
    numbered_allowed : (x : ℕ → F) (k : ℕ) → k ≤ products n d eqs → AllByRecursion (Allowed n d eqs) (all_numbered x k)
    numbered_allowed x zero h = tt
    numbered_allowed x (suc k) h = (
      record {
        monomial = monomial_at_lem n d (k % count n d) few (rank_below n d k eqs (omega arith));
        listed = equation_below n d k eqs (omega arith);
      },
      numbered_allowed x k (omega arith),
    )

    place_below : (m : Multiple F) → Allowed n d eqs m → place m < products n d eqs
    place_below m a = digits_lt a.listed (ranked n d m.multiplier few a.monomial).below

    place_product : (m : Multiple F) → Allowed n d eqs m → product n d eqs (place m) ≡ times m.multiplier (get_or eqs m.equation [])
    unfolding product
    place_product m a =
        let at = ranked n d m.multiplier few a.monomial in
        ap (λ (r : ℕ). times (monomial_at n d r) (get_or eqs (place m / count n d) [])) (digits_mod m.equation at.below)
        ∙ ap (λ (k : ℕ). times (monomial_at n d (rank_of (take n m.multiplier))) (get_or eqs k [])) (digits_div m.equation at.below)
        ∙ ap (λ (e : List ℕ). times e (get_or eqs m.equation [])) at.same

module _ {F : Type 0} {o : Ops F} (laws : Laws o) where
  coefficient_numbered : (n d : ℕ) (eqs : List (List (Term F))) (x : ℕ → F) (k : ℕ) (e : List ℕ) →
      coefficient o (total o eqs (all_numbered n d x k)) e ≡ coefficient o (weighted o k x (product n d eqs)) e
  unfolding product
  coefficient_numbered n d eqs x zero e = refl
  coefficient_numbered n d eqs x (suc k) e =
      let first = scaled o (x k) (product n d eqs k) in
      coefficient_append laws first (total o eqs (all_numbered n d x k)) e
      ∙ ap (o.add (coefficient o first e)) (coefficient_numbered n d eqs x k e)
      ∙ laws.add_comm (coefficient o first e) (coefficient o (weighted o k x (product n d eqs)) e)
      ∙ sym (coefficient_append laws (weighted o k x (product n d eqs)) first e)

  -- a combination as a list of multiples
  pub combination_total : (n d : ℕ) (eqs : List (List (Term F))) (x : ℕ → F) →
      Equal o (total o eqs (all_numbered n d x (products n d eqs))) (combination o n d eqs x)
  unfolding combination
  combination_total n d eqs x e = coefficient_numbered n d eqs x (products n d eqs) e

  pub certificate_of_lem : (n d : ℕ) (eqs : List (List (Term F))) (x : ℕ → F) → n ≤ 24 → IsOne o (combination o n d eqs x) → Certified o n d eqs
  certificate_of_lem n d eqs x few is = (
    all_numbered n d x (products n d eqs),
    record {
      allowed = numbered_allowed n d eqs few x (products n d eqs) (omega arith);
      sums = one_from o (total o eqs (all_numbered n d x (products n d eqs))) (combination o n d eqs x) (combination_total n d eqs x) is;
    },
  )

  -- the coefficient of each product in a list of multiples
  pub weights : ℕ → ℕ → List (Multiple F) → ℕ → F
  weights n d [] p = o.zero
  weights n d (m ∷ ms) p = o.add (o.mul m.coeff (unit laws (place n d m) p)) (weights n d ms p)

  -- what a multiple adds to a sum over the product numbers
  weights_step : (k r : ℕ) (c : F) (w g : ℕ → F) → r < k →
      sum o k (λ p. o.mul (o.add (o.mul c (unit laws r p)) (w p)) (g p)) ≡ o.add (o.mul c (g r)) (sum o k (λ p. o.mul (w p) (g p)))
  weights_step k r c w g h =
      let own = λ (p : ℕ). o.mul (unit laws r p) (g p) in
      let rest = λ (p : ℕ). o.mul (w p) (g p) in
      sum_same laws k (λ p. o.mul (o.add (o.mul c (unit laws r p)) (w p)) (g p)) (λ p. o.add (o.mul c (own p)) (rest p))
      (λ p l.
      add-mul laws (o.mul c (unit laws r p)) (w p) (g p)
      ∙ ap (λ (s : F). o.add s (rest p)) (laws.mul_assoc c (unit laws r p) (g p)))
      ∙ sum_add laws k (λ p. o.mul c (own p)) rest
      ∙ ap (λ (s : F). o.add s (sum o k rest)) (sum_mul laws k c own ∙ ap (o.mul c) (sum_unit laws k r g h))

  coefficient_weights : (n d : ℕ) (eqs : List (List (Term F))) (ms : List (Multiple F)) (e : List ℕ) → n ≤ 24 → AllByRecursion (Allowed n d eqs) ms →
      coefficient o (total o eqs ms) e ≡ sum o (products n d eqs) (λ p. o.mul (weights n d ms p) (coefficient o (product n d eqs p) e))
  unfolding weights
  coefficient_weights n d eqs [] e few a =
      let g = λ (p : ℕ). coefficient o (product n d eqs p) e in
      let k = products n d eqs in
      sym (sum_same laws k (λ p. o.mul o.zero (g p)) (λ p. o.zero) (λ p l. zero-mul laws (g p)) ∙ sum_zero laws k)
  coefficient_weights n d eqs (m ∷ ms) e few a =
      let g = λ (p : ℕ). coefficient o (product n d eqs p) e in
      let rest = coefficient o (total o eqs ms) e in
      coefficient_append laws (multiple o eqs m) (total o eqs ms) e
      ∙ ap (λ (s : F). o.add s rest) (coefficient_scaled laws m.coeff (times m.multiplier (get_or eqs m.equation [])) e)
      ∙ ap (λ (q : List (Term F)). o.add (o.mul m.coeff (coefficient o q e)) rest) (sym (place_product n d eqs few m a.0))
      ∙ ap (o.add (o.mul m.coeff (g (place n d m)))) (coefficient_weights n d eqs ms e few a.1)
      ∙ sym (weights_step (products n d eqs) (place n d m) m.coeff (weights n d ms) g (place_below n d eqs few m a.0))

  -- a list of multiples is the combination by its weights
  pub total_combination : (n d : ℕ) (eqs : List (List (Term F))) (ms : List (Multiple F)) → n ≤ 24 → AllByRecursion (Allowed n d eqs) ms →
      Equal o (total o eqs ms) (combination o n d eqs (weights n d ms))
  total_combination n d eqs ms few a e =
      coefficient_weights n d eqs ms e few a ∙ sym (coefficient_combination laws n d eqs (weights n d ms) e)

  pub weights_of : (n d : ℕ) (eqs : List (List (Term F))) → n ≤ 24 → Certified o n d eqs → (x : ℕ → F) × IsOne o (combination o n d eqs x)
  weights_of n d eqs few c = (
    weights n d c.0,
    one_from o (combination o n d eqs (weights n d c.0)) (total o eqs c.0)
        (λ e. sym (total_combination n d eqs c.0 few c.1.allowed e)) c.1.sums,
  )

  pub products_suffice : ProductsSuffice o
  products_suffice = record {
    sums = λ n d eqs ms few a. (weights n d ms, total_combination n d eqs ms few a);
    lists = λ n d eqs x few. (
      all_numbered n d x (products n d eqs),
      numbered_allowed n d eqs few x (products n d eqs) (omega arith),
      combination_total n d eqs x,
    );
    forth = weights_of;
    back = certificate_of_lem;
  }

  pub matrix_decides : MatrixDecides o
  matrix_decides = record {
    coefficients = coefficient_entries laws;
    one = one_represented laws;
    is_one = represented_one laws;
    certified = λ n d eqs formed c.
        let x = weights_of n d eqs formed.few c in (x.0, one_represented laws n d eqs x.0 formed x.1);
    is_certified = λ n d eqs formed h.
        certificate_of_lem n d eqs h.0 formed.few (represented_one laws n d eqs h.0 formed h.1);
    dependent = λ n d p eqs formed below h. dependent_column laws n d p eqs h;
    is_dependent = column_dependent laws;
  }

  cond_weight : (b : Bool) (c : F) → cond b c o.zero ≡ o.mul c (cond b o.one o.zero)
  cond_weight true c = sym (laws.mul-one c)
  cond_weight false c = sym (mul-zero laws c)

  -- the coefficients of a product with a monomial are sums of weights
  coefficient_times : (m : List ℕ) (p : List (Term F)) (e : List ℕ) →
      coefficient o (times m p) e ≡ weigh o (λ f. cond (alike (plus m f) e) o.one o.zero) p
  coefficient_times m [] e = refl
  coefficient_times m (t ∷ p) e =
      ap (λ (s : F). o.add s (coefficient o (times m p) e)) (cond_weight (alike (plus m t.exponents) e) t.coeff)
      ∙ ap (o.add (o.mul t.coeff (cond (alike (plus m t.exponents) e) o.one o.zero))) (coefficient_times m p e)

  pub times_equal : (m : List ℕ) (p q : List (Term F)) → Equal o p q → Equal o (times m p) (times m q)
  times_equal m p q h e =
      coefficient_times m p e
      ∙ weigh_equal laws (λ f. cond (alike (plus m f) e) o.one o.zero) p q h
      ∙ sym (coefficient_times m q e)

  pub scaled_equal : (k : F) (p q : List (Term F)) → Equal o p q → Equal o (scaled o k p) (scaled o k q)
  scaled_equal k p q h e = coefficient_scaled laws k p e ∙ ap (o.mul k) (h e) ∙ sym (coefficient_scaled laws k q e)

  -- the multiples of the equations where the new list has them
  module _ (n n' d : ℕ) (eqs eqs' : List (List (Term F))) (wider : n ≤ n') (still : AllListed o eqs eqs') where
    found : (m : Multiple F) → Allowed n d eqs m → Listed o eqs' (get_or eqs m.equation [])
    found m a = still m.equation a.listed

    moved : (m : Multiple F) → Allowed n d eqs m → Multiple F
    moved m a = record { coeff = m.coeff; multiplier = m.multiplier; equation = (found m a).0 }

    all_moved : (ms : List (Multiple F)) → AllByRecursion (Allowed n d eqs) ms → List (Multiple F)
    all_moved [] a = []
    all_moved (m ∷ ms) a = moved m a.0 ∷ all_moved ms a.1

    moved_allowed : (ms : List (Multiple F)) (a : AllByRecursion (Allowed n d eqs) ms) → AllByRecursion (Allowed n' d eqs') (all_moved ms a)
    unfolding all_moved moved
    moved_allowed [] a = tt
    moved_allowed (m ∷ ms) a =
        let first : Allowed n' d eqs' (moved m a.0) =
        record { monomial = monomial_wider n n' d m.multiplier wider a.0.monomial; listed = (found m a.0).1 } in
        (first, moved_allowed ms a.1)

    moved_equal : (ms : List (Multiple F)) (a : AllByRecursion (Allowed n d eqs) ms) → Equal o (total o eqs' (all_moved ms a)) (total o eqs ms)
    unfolding all_moved moved
    moved_equal [] a e = refl
    moved_equal (m ∷ ms) a e =
        let q = get_or eqs m.equation [] in
        let q' = get_or eqs' (found m a.0).0 [] in
        coefficient_append laws (scaled o m.coeff (times m.multiplier q')) (total o eqs' (all_moved ms a.1)) e
        ∙ ap (o.add (coefficient o (scaled o m.coeff (times m.multiplier q')) e)) (moved_equal ms a.1 e)
        ∙ ap (λ (s : F). o.add s (coefficient o (total o eqs ms) e))
        (scaled_equal m.coeff (times m.multiplier q') (times m.multiplier q) (times_equal m.multiplier q' q (found m a.0).2) e)
        ∙ sym (coefficient_append laws (scaled o m.coeff (times m.multiplier q)) (total o eqs ms) e)

  pub certificates_rise : CertificatesRise o
  certificates_rise n d d' eqs h c = (
    c.0,
    record {
      allowed = All-weaker (Allowed n d eqs) (Allowed n d' eqs)
          (λ m a. record { monomial = monomial_higher n d d' m.multiplier h a.monomial; listed = a.listed }) c.0 c.1.allowed;
      sums = c.1.sums;
    },
  )

  pub certificates_stay : CertificatesStay o
  certificates_stay n n' d eqs eqs' wider still c =
      let ms = c.0 in
      let a = c.1.allowed in (
        all_moved n n' d eqs eqs' wider still ms a,
        record {
          allowed = moved_allowed n n' d eqs eqs' wider still ms a;
          sums = one_from o (total o eqs' (all_moved n n' d eqs eqs' wider still ms a)) (total o eqs ms)
              (moved_equal n n' d eqs eqs' wider still ms a) c.1.sums;
        },
      )
