-- Values at a point: of sums, multiples and products, of equal polynomials, and of the polynomial one.
use Rattle.std.proofs.Common.{◌≡◌, ℕ, zero, suc, ◌<◌, Bool, cond, List, [], ◌∷◌, ◌++◌, length, get_or, set, replicate, sym, refl, ap, ◌∙◌, inl, inr, arith}
use Rattle.std.specs.List.{AllByRecursion}
use Rattle.fields.specs.Field.{Ops, Laws}
use Rattle.algebra.proofs.Sums.{mul-zero}
use Rattle.polynomials.specs.declared.term.Term.{Term}
use Rattle.polynomials.specs.Polynomial.{zeros, plus, coefficient, Equal, IsOne, unity, scaled, times}
use Rattle.polynomials.specs.Certificate.{Multiple, Allowed, multiple, total}
use Rattle.polynomials.specs.Evaluation.{Pair, constant, zero_pair, one_pair, add_pairs, mul_pairs, power, monomial_value, value, Solves}
use Rattle.polynomials.specs.Theorems.{CertificatesExclude}
use Rattle.polynomials.proofs.Pairs.{pair, pairs_add_comm, pairs_add_assoc, pairs_zero_add, pairs_mul_comm, pairs_mul_assoc, pairs_mul_left}
use Rattle.polynomials.proofs.Pairs.{pairs_mul_add, pairs_mul_zero, pairs_one_mul, pairs_cross, constant_mul, power_add, one_not_zero_pair}
use Rattle.polynomials.proofs.Coefficients.{weigh, weigh_equal, is_alike, cases_alike, not_alike}

module _ {F : Type 0} {o : Ops F} (laws : Laws o) where
  -- a polynomial that is one is equal to the term one
  pub one_equal : (p : List (Term F)) → IsOne o p → Equal o p (unity o)
  one_equal p h e =
      elim (cases_alike zeros e) [
        | inl y ↦
            ap (coefficient o p) (sym y) ∙ h.unit
            ∙ sym (ap (λ (b : Bool). o.add (cond b o.one o.zero) o.zero) (is_alike zeros e y) ∙ laws.add-zero o.one)
        | inr n ↦
            h.others e (λ y. not_alike zeros e n (sym y))
            ∙ sym (ap (λ (b : Bool). o.add (cond b o.one o.zero) o.zero) n ∙ laws.add-zero o.zero)
      ]

  pub equal_one : (p : List (Term F)) → Equal o p (unity o) → IsOne o p
  equal_one p h = record {
    unit = h zeros ∙ laws.add-zero o.one;
    others = λ e d.
        elim (cases_alike zeros e) [
          | inl y ↦ absurd (d (sym y))
          | inr n ↦ h e ∙ ap (λ (b : Bool). o.add (cond b o.one o.zero) o.zero) n ∙ laws.add-zero o.zero
        ];
  }

  -- each half of the value is a sum of weights
  value_weigh : (x : ℕ → Pair F) (p : List (Term F)) →
      value o x p ≡ record { unit = weigh o (λ e. (monomial_value o x e).unit) p; alpha = weigh o (λ e. (monomial_value o x e).alpha) p }
  value_weigh x [] = refl
  value_weigh x (t ∷ p) =
      let m = monomial_value o x t.exponents in
      let first : Pair F = record { unit = o.mul t.coeff m.unit; alpha = o.mul t.coeff m.alpha } in
      ap (λ (s : Pair F). add_pairs o s (value o x p)) (constant_mul laws t.coeff m) ∙ ap (add_pairs o first) (value_weigh x p)

  pub value_equal : (x : ℕ → Pair F) (p q : List (Term F)) → Equal o p q → value o x p ≡ value o x q
  value_equal x p q h =
      value_weigh x p
      ∙ pair (weigh_equal laws (λ e. (monomial_value o x e).unit) p q h) (weigh_equal laws (λ e. (monomial_value o x e).alpha) p q h)
      ∙ sym (value_weigh x q)

  pub monomial_value_none : (x : ℕ → Pair F) (k : ℕ) → monomial_value o x (replicate k 0) ≡ one_pair o
  monomial_value_none x zero = refl
  monomial_value_none x (suc k) = pairs_one_mul laws (monomial_value o (λ i. x (suc i)) (replicate k 0)) ∙ monomial_value_none (λ i. x (suc i)) k

  -- one more exponent that is not zero
  pub monomial_value_set : (x : ℕ → Pair F) (m : List ℕ) (i e : ℕ) → i < length m → get_or m i 0 ≡ 0 →
      monomial_value o x (set m i e) ≡ mul_pairs o (power o (x i) e) (monomial_value o x m)
  monomial_value_set x [] i e h z = absurd (omega arith)
  monomial_value_set x (f ∷ m) zero e h z =
      ap (mul_pairs o (power o (x 0) e))
      (sym (pairs_one_mul laws (monomial_value o (λ i. x (suc i)) m))
      ∙ ap (λ (k : ℕ). mul_pairs o (power o (x 0) k) (monomial_value o (λ i. x (suc i)) m)) (sym z))
  monomial_value_set x (f ∷ m) (suc i) e h z =
      let rest = monomial_value o (λ i. x (suc i)) m in
      ap (mul_pairs o (power o (x 0) f)) (monomial_value_set (λ i. x (suc i)) m i e (omega arith) z)
      ∙ pairs_mul_left laws (power o (x 0) f) (power o (x (suc i)) e) rest

  pub monomial_value_plus : (x : ℕ → Pair F) (m f : List ℕ) →
      monomial_value o x (plus m f) ≡ mul_pairs o (monomial_value o x m) (monomial_value o x f)
  monomial_value_plus x [] f = sym (pairs_one_mul laws (monomial_value o x f))
  monomial_value_plus x (j ∷ m) [] =
      sym (pairs_mul_comm laws (monomial_value o x (j ∷ m)) (one_pair o) ∙ pairs_one_mul laws (monomial_value o x (j ∷ m)))
  monomial_value_plus x (j ∷ m) (k ∷ f) =
      let y = λ (i : ℕ). x (suc i) in
      ap (λ (s : Pair F). mul_pairs o s (monomial_value o y (plus m f))) (power_add laws (x 0) j k)
      ∙ ap (mul_pairs o (mul_pairs o (power o (x 0) j) (power o (x 0) k))) (monomial_value_plus y m f)
      ∙ pairs_cross laws (power o (x 0) j) (power o (x 0) k) (monomial_value o y m) (monomial_value o y f)

  pub value_append : (x : ℕ → Pair F) (p q : List (Term F)) → value o x (p ++ q) ≡ add_pairs o (value o x p) (value o x q)
  value_append x [] q = sym (pairs_zero_add laws (value o x q))
  value_append x (t ∷ p) q =
      let first = mul_pairs o (constant o t.coeff) (monomial_value o x t.exponents) in
      ap (add_pairs o first) (value_append x p q) ∙ sym (pairs_add_assoc laws first (value o x p) (value o x q))

  constant_product : (k c : F) → constant o (o.mul k c) ≡ mul_pairs o (constant o k) (constant o c)
  constant_product k c = sym (constant_mul laws k (constant o c) ∙ pair refl (mul-zero laws k))

  pub value_scaled : (x : ℕ → Pair F) (k : F) (p : List (Term F)) → value o x (scaled o k p) ≡ mul_pairs o (constant o k) (value o x p)
  value_scaled x k [] = sym (pairs_mul_zero laws (constant o k))
  value_scaled x k (t ∷ p) =
      let m = monomial_value o x t.exponents in
      let c = constant o t.coeff in
      ap (λ (s : Pair F). add_pairs o (mul_pairs o s m) (value o x (scaled o k p))) (constant_product k t.coeff)
      ∙ ap (λ (s : Pair F). add_pairs o s (value o x (scaled o k p))) (pairs_mul_assoc laws (constant o k) c m)
      ∙ ap (add_pairs o (mul_pairs o (constant o k) (mul_pairs o c m))) (value_scaled x k p)
      ∙ sym (pairs_mul_add laws (constant o k) (mul_pairs o c m) (value o x p))

  pub value_times : (x : ℕ → Pair F) (m : List ℕ) (p : List (Term F)) →
      value o x (times m p) ≡ mul_pairs o (monomial_value o x m) (value o x p)
  value_times x m [] = sym (pairs_mul_zero laws (monomial_value o x m))
  value_times x m (t ∷ p) =
      let c = constant o t.coeff in
      let w = monomial_value o x m in
      let v = monomial_value o x t.exponents in
      let rest = value o x (times m p) in
      ap (λ (s : Pair F). add_pairs o (mul_pairs o c s) rest) (monomial_value_plus x m t.exponents)
      ∙ ap (λ (s : Pair F). add_pairs o s rest) (pairs_mul_left laws c w v)
      ∙ ap (add_pairs o (mul_pairs o w (mul_pairs o c v))) (value_times x m p)
      ∙ sym (pairs_mul_add laws w (mul_pairs o c v) (value o x p))

  pub value_one : (x : ℕ → Pair F) (p : List (Term F)) → IsOne o p → value o x p ≡ one_pair o
  value_one x p h =
      value_equal x p (unity o) (one_equal p h)
      ∙ ap (λ (s : Pair F). add_pairs o s (zero_pair o)) (pairs_one_mul laws (monomial_value o x zeros) ∙ monomial_value_none x 24)
      ∙ pairs_add_comm laws (one_pair o) (zero_pair o)
      ∙ pairs_zero_add laws (one_pair o)

  -- a multiple of an equation is zero where the equation is
  value_multiple : (x : ℕ → Pair F) (n d : ℕ) (eqs : List (List (Term F))) (m : Multiple F) → Solves o x eqs → Allowed n d eqs m →
      value o x (multiple o eqs m) ≡ zero_pair o
  value_multiple x n d eqs m s a =
      let q = get_or eqs m.equation [] in
      let w = monomial_value o x m.multiplier in
      let z : value o x q ≡ zero_pair o = s m.equation a.listed in
      value_scaled x m.coeff (times m.multiplier q)
      ∙ ap (mul_pairs o (constant o m.coeff)) (value_times x m.multiplier q ∙ ap (mul_pairs o w) z ∙ pairs_mul_zero laws w)
      ∙ pairs_mul_zero laws (constant o m.coeff)

  pub value_total : (x : ℕ → Pair F) (n d : ℕ) (eqs : List (List (Term F))) (ms : List (Multiple F)) → Solves o x eqs →
      AllByRecursion (Allowed n d eqs) ms → value o x (total o eqs ms) ≡ zero_pair o
  value_total x n d eqs [] s a = refl
  value_total x n d eqs (m ∷ ms) s a =
      value_append x (multiple o eqs m) (total o eqs ms)
      ∙ ap (λ (v : Pair F). add_pairs o v (value o x (total o eqs ms))) (value_multiple x n d eqs m s a.0)
      ∙ pairs_zero_add laws (value o x (total o eqs ms))
      ∙ value_total x n d eqs ms s a.1

  pub certificates_exclude : CertificatesExclude o
  certificates_exclude n d eqs x s c =
      one_not_zero_pair laws (sym (value_one x (total o eqs c.0) c.1.sums) ∙ value_total x n d eqs c.0 s c.1.allowed)
