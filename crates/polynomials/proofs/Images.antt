-- Entries over the bits and over a field.
use Rattle.std.proofs.Common.{◌≡◌, ℕ, zero, suc, ◌+◌, ◌*◌, ◌/◌, ◌%◌, Bool, true, false, cond, ◌&&◌, eqb, List, [], ◌∷◌, map, length, get_or, sym, refl, ap, ◌∙◌, arith}
use Rattle.std.specs.List.{AllByRecursion}
use Rattle.std.proofs.lemmas.List.{length-map}
use Rattle.fields.specs.Field.{Ops, Laws}
use Rattle.fields.specs.Bools.{xor}
use Rattle.fields.specs.Bit.{bit_ops}
use Rattle.fields.specs.declared.bit.Bit.{Bit}
use Rattle.algebra.proofs.Sums.{zero-add, zero-mul, one-mul}
use Rattle.polynomials.specs.declared.term.Term.{Term}
use Rattle.polynomials.specs.Polynomial.{alike, plus, coefficient, times}
use Rattle.polynomials.specs.Monomial.{monomial_at, count}
use Rattle.polynomials.specs.Product.{product, products, entry}
use Rattle.polynomials.specs.Image.{image, AllOne, exponents_of, with_ones}
use Rattle.polynomials.specs.Theorems.{EntriesAreImages}

-- the terms with these exponents, all coefficients one
abbrev ones : {F : Type 0} → Ops F → List (List ℕ) → List (Term F)
ones o es = map (λ e. record { coeff = o.one; exponents = e }) es

with_coeff : {F : Type 0} {c k : F} (e : List ℕ) → c ≡ k →
    ◌≡◌ {A = Term F} (record { coeff = c; exponents = e }) (record { coeff = k; exponents = e })
with_coeff e h i = record { coeff = h i; exponents = e }

module _ {F : Type 0} (o : Ops F) where
  ones_back : (p : List (Term F)) → AllByRecursion (λ t. t.coeff ≡ o.one) p → ones o (map (λ t. t.exponents) p) ≡ p
  ones_back [] h = refl
  ones_back (t ∷ p) h =
      ap (λ (u : Term F). u ∷ ones o (map (λ t. t.exponents) p)) (with_coeff t.exponents (sym h.0))
      ∙ ap (λ (q : List (Term F)). t ∷ q) (ones_back p h.1)

  pub with_ones_back : (eqs : List (List (Term F))) → AllOne o eqs → with_ones o (exponents_of eqs) ≡ eqs
  with_ones_back [] h = refl
  with_ones_back (p ∷ eqs) h =
      ap (λ (q : List (Term F)). q ∷ with_ones o (exponents_of eqs)) (ones_back p (h 0 (omega arith)))
      ∙ ap (λ (rest : List (List (Term F))). p ∷ rest) (with_ones_back eqs (λ k l. h (suc k) (omega arith)))

  with_ones_at : (es : List (List (List ℕ))) (k : ℕ) → get_or (with_ones o es) k [] ≡ ones o (get_or es k [])
  with_ones_at [] k = refl
  with_ones_at (e ∷ es) zero = refl
  with_ones_at (e ∷ es) (suc k) = with_ones_at es k

pub exponents_length : {F : Type 0} (eqs : List (List (Term F))) → length (exponents_of eqs) ≡ length eqs
exponents_length eqs = length-map eqs (λ p. map (λ t. t.exponents) p)

module _ {F G : Type 0} (eqs : List (List (Term F))) (others : List (List (Term G))) (same : exponents_of eqs ≡ exponents_of others) where
  pub same_length : length eqs ≡ length others
  same_length = sym (exponents_length eqs) ∙ ap length same ∙ exponents_length others

pub same_products : {F G : Type 0} (n d : ℕ) (eqs : List (List (Term F))) (others : List (List (Term G))) →
    exponents_of eqs ≡ exponents_of others → products n d eqs ≡ products n d others
same_products n d eqs others same = ap (λ (k : ℕ). k * count n d) (same_length eqs others same)

module _ {F : Type 0} {o : Ops F} (laws : Laws o) where
  truth_add : (a b : Bool) → cond (xor a b) o.one o.zero ≡ o.add (cond a o.one o.zero) (cond b o.one o.zero)
  truth_add true true = sym (laws.add_self o.one)
  truth_add true false = sym (laws.add-zero o.one)
  truth_add false true = sym (zero-add laws o.one)
  truth_add false false = sym (laws.add-zero o.zero)

  truth_mul : (a b : Bool) → cond (a && b) o.one o.zero ≡ o.mul (cond a o.one o.zero) (cond b o.one o.zero)
  truth_mul true true = sym (laws.mul-one o.one)
  truth_mul true false = sym (one-mul laws o.zero)
  truth_mul false true = sym (zero-mul laws o.one)
  truth_mul false false = sym (zero-mul laws o.zero)

  truth_cond : (b : Bool) → cond b o.one o.zero ≡ image o (cond b bit_ops.one bit_ops.zero)
  truth_cond true = refl
  truth_cond false = refl

  coefficient_image : (m : List ℕ) (es : List (List ℕ)) (e : List ℕ) →
      coefficient o (times m (ones o es)) e ≡ image o (coefficient bit_ops (times m (ones bit_ops es)) e)
  coefficient_image m [] e = refl
  coefficient_image m (f ∷ es) e =
      let first = cond (alike (plus m f) e) bit_ops.one bit_ops.zero in
      let rest = coefficient bit_ops (times m (ones bit_ops es)) e in
      ap (λ (s : F). o.add s (coefficient o (times m (ones o es)) e)) (truth_cond (alike (plus m f) e))
      ∙ ap (o.add (image o first)) (coefficient_image m es e)
      ∙ sym (truth_add first.set rest.set)

  pub entry_image : (n d : ℕ) (es : List (List (List ℕ))) (r p : ℕ) →
      entry o n d (with_ones o es) r p ≡ image o (entry bit_ops n d (with_ones bit_ops es) r p)
  unfolding entry product
  entry_image n d es r p =
      let m = monomial_at n d (p % count n d) in
      let k = p / count n d in
      let e = monomial_at n (d + 3) r in
      ap (λ (q : List (Term F)). coefficient o (times m q) e) (with_ones_at o es k)
      ∙ coefficient_image m (get_or es k []) e
      ∙ ap (λ (q : List (Term Bit)). image o (coefficient bit_ops (times m q) e)) (sym (with_ones_at bit_ops es k))

  pub entries_are_images : EntriesAreImages o
  entries_are_images = record {
    zero = refl;
    one = refl;
    add = λ a b. truth_add a.set b.set;
    mul = λ a b. truth_mul a.set b.set;
    targets = λ r. truth_cond (eqb r 0);
    lengths = same_length;
    counts = same_products;
    entries = λ n d bits eqs h one-bits one-eqs r p.
        ap (λ (q : List (List (Term F))). entry o n d q r p) (sym (with_ones_back o eqs one-eqs))
        ∙ ap (λ (es : List (List (List ℕ))). entry o n d (with_ones o es) r p) (sym h)
        ∙ entry_image n d (exponents_of bits) r p
        ∙ ap (λ (q : List (List (Term Bit))). image o (entry bit_ops n d q r p)) (with_ones_back bit_ops bits one-bits);
  }
