-- Coefficients of sums, multiples and products; and what depends on the coefficients alone.
-- `weigh` adds up a weight for each exponent list, by the coefficients: the value at a point and the coefficients of a product
-- are of that kind.
use Rattle.std.proofs.Common.{◌≡◌, ℕ, zero, suc, ◌≤◌, Bool, true, false, cond, ◌⊎◌, List, [], ◌∷◌, ◌++◌, length, sym, refl, ap, ◌∙◌, inl, inr, arith}
use Rattle.std.proofs.lemmas.Slice.Eq.{IsBytesEq, compares_Decides}
use Rattle.std.proofs.lemmas.Bool.{cases_Bool, both_ways}
use Rattle.fields.specs.Field.{Ops, Laws}
use Rattle.algebra.proofs.Sums.{zero-add, add_back, mul-zero, zero-mul, add-mul}
use Rattle.polynomials.specs.declared.term.Term.{Term}
use Rattle.polynomials.specs.Polynomial.{alike, coefficient, Equal, scaled}
use Rattle.polynomials.proofs.Pairs.{add_left}

alike_compares : IsBytesEq alike
alike_compares = record { empty = refl; shorter = λ y ys. refl; longer = λ x xs. refl; heads = λ x y xs ys. refl }

pub alike_is : (e f : List ℕ) → alike e f ≡ true → e ≡ f
alike_is e f = (compares_Decides alike alike_compares e f).0

pub is_alike : (e f : List ℕ) → e ≡ f → alike e f ≡ true
is_alike e f = (compares_Decides alike alike_compares e f).1

pub not_alike : (e f : List ℕ) → alike e f ≡ false → e ≡ f → ⊥
not_alike e f n h = both_ways (alike e f) n (is_alike e f h)

-- two exponent lists are the same or not
pub cases_alike : (e f : List ℕ) → (e ≡ f) ⊎ (alike e f ≡ false)
cases_alike e f = elim (cases_Bool (alike e f)) [ inl y ↦ inl (alike_is e f y) | inr n ↦ inr n ]

module _ {F : Type 0} (o : Ops F) where
  -- the weights of the exponents, by the coefficients
  abbrev pub weigh : (List ℕ → F) → List (Term F) → F
  weigh w [] = o.zero
  weigh w (t ∷ p) = o.add (o.mul t.coeff (w t.exponents)) (weigh w p)

  -- the terms with other exponents
  abbrev pub without : List ℕ → List (Term F) → List (Term F)
  without e [] = []
  without e (t ∷ p) = cond (alike t.exponents e) (without e p) (t ∷ without e p)

module _ {F : Type 0} {o : Ops F} (laws : Laws o) where
  pub coefficient_append : (p q : List (Term F)) (e : List ℕ) → coefficient o (p ++ q) e ≡ o.add (coefficient o p e) (coefficient o q e)
  coefficient_append [] q e = sym (zero-add laws (coefficient o q e))
  coefficient_append (t ∷ p) q e =
      ap (o.add (cond (alike t.exponents e) t.coeff o.zero)) (coefficient_append p q e)
      ∙ sym (laws.add_assoc (cond (alike t.exponents e) t.coeff o.zero) (coefficient o p e) (coefficient o q e))

  cond_mul : (b : Bool) (k c : F) → cond b (o.mul k c) o.zero ≡ o.mul k (cond b c o.zero)
  cond_mul true k c = refl
  cond_mul false k c = sym (mul-zero laws k)

  pub coefficient_scaled : (k : F) (p : List (Term F)) (e : List ℕ) → coefficient o (scaled o k p) e ≡ o.mul k (coefficient o p e)
  coefficient_scaled k [] e = sym (mul-zero laws k)
  coefficient_scaled k (t ∷ p) e =
      ap (λ (s : F). o.add s (coefficient o (scaled o k p) e)) (cond_mul (alike t.exponents e) k t.coeff)
      ∙ ap (o.add (o.mul k (cond (alike t.exponents e) t.coeff o.zero))) (coefficient_scaled k p e)
      ∙ sym (laws.mul-add k (cond (alike t.exponents e) t.coeff o.zero) (coefficient o p e))

  split_step : (b : Bool) (c r u v s : F) → (b ≡ true → u ≡ v) →
      o.add (o.mul c u) (o.add (o.mul r v) s) ≡ o.add (o.mul (o.add (cond b c o.zero) r) v) (cond b s (o.add (o.mul c u) s))
  split_step true c r u v s h =
      sym (laws.add_assoc (o.mul c u) (o.mul r v) s)
      ∙ ap (λ (z : F). o.add (o.add (o.mul c z) (o.mul r v)) s) (h refl)
      ∙ ap (λ (z : F). o.add z s) (sym (add-mul laws c r v))
  split_step false c r u v s h =
      add_left laws (o.mul c u) (o.mul r v) s
      ∙ ap (λ (z : F). o.add (o.mul z v) (o.add (o.mul c u) s)) (sym (zero-add laws r))

  weigh_cond : (w : List ℕ → F) (b : Bool) (p q : List (Term F)) → weigh o w (cond b p q) ≡ cond b (weigh o w p) (weigh o w q)
  weigh_cond w true p q = refl
  weigh_cond w false p q = refl

  -- the terms with the exponents e, and the others
  weigh_split : (w : List ℕ → F) (e : List ℕ) (p : List (Term F)) →
      weigh o w p ≡ o.add (o.mul (coefficient o p e) (w e)) (weigh o w (without o e p))
  weigh_split w e [] = sym (ap (λ (s : F). o.add s o.zero) (zero-mul laws (w e)) ∙ laws.add-zero o.zero)
  weigh_split w e (t ∷ p) =
      ap (o.add (o.mul t.coeff (w t.exponents))) (weigh_split w e p)
      ∙ split_step (alike t.exponents e) t.coeff (coefficient o p e) (w t.exponents) (w e) (weigh o w (without o e p))
      (λ y. ap w (alike_is t.exponents e y))
      ∙ ap (o.add (o.mul (coefficient o (t ∷ p) e) (w e))) (sym (weigh_cond w (alike t.exponents e) (without o e p) (t ∷ without o e p)))

  -- the others have the coefficients that p has, and zero at e
  coefficient_without : (e f : List ℕ) (p : List (Term F)) → alike e f ≡ false → coefficient o (without o e p) f ≡ coefficient o p f
  coefficient_without e f [] n = refl
  coefficient_without e f (t ∷ p) n =
      elim (cases_alike t.exponents e) [
        | inl y ↦
            ap (λ (b : Bool). coefficient o (cond b (without o e p) (t ∷ without o e p)) f) (is_alike t.exponents e y)
            ∙ coefficient_without e f p n
            ∙ sym (zero-add laws (coefficient o p f))
            ∙ ap (λ (b : Bool). o.add (cond b t.coeff o.zero) (coefficient o p f)) (sym (ap (λ (g : List ℕ). alike g f) y ∙ n))
        | inr m ↦
            ap (λ (b : Bool). coefficient o (cond b (without o e p) (t ∷ without o e p)) f) m
            ∙ ap (o.add (cond (alike t.exponents f) t.coeff o.zero)) (coefficient_without e f p n)
      ]

  coefficient_none : (e : List ℕ) (p : List (Term F)) → coefficient o (without o e p) e ≡ o.zero
  coefficient_none e [] = refl
  coefficient_none e (t ∷ p) =
      elim (cases_alike t.exponents e) [
        | inl y ↦
            ap (λ (b : Bool). coefficient o (cond b (without o e p) (t ∷ without o e p)) e) (is_alike t.exponents e y)
            ∙ coefficient_none e p
        | inr m ↦
            ap (λ (b : Bool). coefficient o (cond b (without o e p) (t ∷ without o e p)) e) m
            ∙ ap (λ (b : Bool). o.add (cond b t.coeff o.zero) (coefficient o (without o e p) e)) m
            ∙ zero-add laws (coefficient o (without o e p) e)
            ∙ coefficient_none e p
      ]

  fewer : (e : List ℕ) (p : List (Term F)) → length (without o e p) ≤ length p
  fewer e [] = omega arith
  fewer e (t ∷ p) = fewer_cond (alike t.exponents e) t (without o e p) (length p) (fewer e p)
    where
      fewer_cond : (b : Bool) (t : Term F) (q : List (Term F)) (k : ℕ) → length q ≤ k → length (cond b q (t ∷ q)) ≤ suc k
      fewer_cond true t q k h = omega arith
      fewer_cond false t q k h = omega arith

  -- where all coefficients are zero, so is the sum of any weights; on the number of terms
  weigh_none : (w : List ℕ → F) (k : ℕ) (p : List (Term F)) → length p ≤ k → ((e : List ℕ) → coefficient o p e ≡ o.zero) →
      weigh o w p ≡ o.zero
  weigh_none w k [] h z = refl
  weigh_none w zero (t ∷ p) h z = absurd (omega arith)
  weigh_none w (suc k) (t ∷ p) h z =
      let e = t.exponents in
      let short : length (without o e (t ∷ p)) ≤ k =
      ap_le (ap (λ (b : Bool). length (cond b (without o e p) (t ∷ without o e p))) (is_alike e e refl)) (fewer e p) (omega arith) in
      weigh_split w e (t ∷ p)
      ∙ ap (λ (s : F). o.add (o.mul s (w e)) (weigh o w (without o e (t ∷ p)))) (z e)
      ∙ ap (o.add (o.mul o.zero (w e)))
      (weigh_none w k (without o e (t ∷ p)) short
      (λ f. elim (cases_alike e f) [
        | inl y ↦ ap (coefficient o (without o e (t ∷ p))) (sym y) ∙ coefficient_none e (t ∷ p)
        | inr m ↦ coefficient_without e f (t ∷ p) m ∙ z f
      ]))
      ∙ laws.add-zero (o.mul o.zero (w e))
      ∙ zero-mul laws (w e)
    where
      ap_le : {a b c d : ℕ} → a ≡ b → b ≤ c → c ≤ d → a ≤ d
      ap_le p q r = omega arith

  pub weigh_append : (w : List ℕ → F) (p q : List (Term F)) → weigh o w (p ++ q) ≡ o.add (weigh o w p) (weigh o w q)
  weigh_append w [] q = sym (zero-add laws (weigh o w q))
  weigh_append w (t ∷ p) q =
      ap (o.add (o.mul t.coeff (w t.exponents))) (weigh_append w p q)
      ∙ sym (laws.add_assoc (o.mul t.coeff (w t.exponents)) (weigh o w p) (weigh o w q))

  -- two that add up to zero are the same
  same_from_sum : (x y : F) → o.add x y ≡ o.zero → x ≡ y
  same_from_sum x y h = sym (add_back laws x y) ∙ ap (λ (s : F). o.add s y) h ∙ zero-add laws y

  -- equal polynomials have equal sums of weights
  pub weigh_equal : (w : List ℕ → F) (p q : List (Term F)) → Equal o p q → weigh o w p ≡ weigh o w q
  weigh_equal w p q h =
      same_from_sum (weigh o w p) (weigh o w q)
      (sym (weigh_append w p q)
      ∙ weigh_none w (length (p ++ q)) (p ++ q) (omega arith)
      (λ e. coefficient_append p q e ∙ ap (o.add (coefficient o p e)) (sym (h e)) ∙ laws.add_self (coefficient o p e)))
