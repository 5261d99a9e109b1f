-- Monomials and their ranks: what is a monomial in the first n variables is the one of its rank, and products of such are such again.
use Rattle.std.proofs.Common.{◌≡◌, ℕ, zero, suc, ◌+◌, ◌-◌, ◌*◌, ◌/◌, ◌%◌, ◌<◌, ◌≤◌, false, eqb, List, [], ◌∷◌, ◌++◌, length, get_or, take, drop, set, replicate, sym, refl, ap, ◌∙◌, subst, inl, inr, mod-lt, div-lt_iff_lt-mul, arith, length-append, length-drop}
use Rattle.std.proofs.lemmas.List.{length-replicate, length-take-le, get_or-drop, get_or-append_right, ext_get_or, take-append-drop, take_at, take-replicate, length-set, get_or-set_other}
use Rattle.std.proofs.lemmas.Grind.{common_steps}
use Rattle.std.proofs.lemmas.Bool.{cases_eq, eq-eqb, ne_eqb}
use Rattle.monomials.specs.Choose.{choose}
use Rattle.monomials.specs.Order.{degree, at_most, lower, rank_of}
use Rattle.monomials.proofs.Places.{placed, onto}
use Rattle.monomials.proofs.Turn.{degree_append}
use Rattle.polynomials.specs.declared.term.Term.{Term}
use Rattle.polynomials.specs.Polynomial.{zeros, alike, plus, times}
use Rattle.polynomials.specs.Monomial.{Monomial, Within, Formed, padded, monomial_at, count, Ranked}
use Rattle.polynomials.specs.Product.{product, products}
use Rattle.polynomials.proofs.Coefficients.{is_alike, cases_alike}

degree_zeros : (k : ℕ) → degree (replicate k 0) ≡ 0
degree_zeros zero = refl
degree_zeros (suc k) = omega (arith, degree_zeros k)

get_or_zeros : (k i : ℕ) → get_or {A = ℕ} (replicate k 0) i 0 ≡ 0
get_or_zeros k i = grind (arith, common_steps)

rank_zeros : (k : ℕ) → rank_of (replicate k 0) ≡ 0
unfolding rank_of lower
rank_zeros zero = refl
rank_zeros (suc k) =
    let none : 0 + degree (replicate k 0) ≡ 0 = omega (arith, degree_zeros k) in
    ap (λ (d : ℕ). lower (suc (length {A = ℕ} (replicate k 0))) d + rank_of (replicate k 0)) none ∙ omega (arith, rank_zeros k)

-- past the first n places there are zeros
module _ (n d : ℕ) (m : List ℕ) (few : n ≤ 24) (is : Monomial n d m) where
  cut_length : length (take n m) ≡ n
  cut_length = length-take-le n m (omega (arith, is.long))

  cut_rest : drop n m ≡ replicate (24 - n) 0
  cut_rest =
      ext_get_or 0 (drop n m) (replicate (24 - n) 0)
      (omega (arith, length-drop n m, is.long, length-replicate {A = ℕ} (24 - n) 0))
      (λ i h. get_or-drop n m i 0 ∙ is.rest (n + i) (omega arith) ∙ sym (get_or_zeros (24 - n) i))

  cut_padded : padded (take n m) ≡ m
  cut_padded =
      ap (λ (k : ℕ). take n m ++ replicate (24 - k) 0) cut_length
      ∙ ap (λ (l : List ℕ). take n m ++ l) (sym cut_rest)
      ∙ take-append-drop n m

  cut_degree : degree (take n m) ≤ d
  cut_degree = omega (arith, is.most, degree_append (take n m) (drop n m), ap degree (take-append-drop n m))

  pub ranked : Ranked n d m
  unfolding monomial_at
  ranked =
      let at = placed (take n m) d cut_degree in
      record {
        below = subst (λ (k : ℕ). rank_of (take n m) < choose (k + d) k) cut_length at.0;
        same = ap padded (subst (λ (k : ℕ). get_or (at_most k d) (rank_of (take n m)) [] ≡ take n m) cut_length at.1) ∙ cut_padded;
      }

-- the monomial of a rank
module _ (n d r : ℕ) (few : n ≤ 24) (below : r < count n d) where
  pub monomial_at_lem : Monomial n d (monomial_at n d r)
  unfolding monomial_at
  monomial_at_lem =
      let m = get_or (at_most n d) r [] in
      let at = onto n d r below in
      record {
        long = omega (arith, at.0, length-append m (replicate (24 - length m) 0), length-replicate {A = ℕ} (24 - length m) 0);
        rest = λ i h. get_or-append_right m (replicate (24 - length m) 0) n i 0 at.0 h ∙ get_or_zeros (24 - length m) (i - n);
        most = omega (arith, at.1, degree_append m (replicate (24 - length m) 0), degree_zeros (24 - length m));
      }

  pub rank_at : rank_of (take n (monomial_at n d r)) ≡ r
  unfolding monomial_at
  rank_at =
      let m = get_or (at_most n d) r [] in
      let at = onto n d r below in
      ap rank_of (take_at m (replicate (24 - length m) 0) n at.0) ∙ at.2

-- rank zero is the monomial one
pub zeros_monomial : (n d : ℕ) → Monomial n d zeros
zeros_monomial n d = record { long = refl; rest = λ i h. get_or_zeros 24 i; most = omega arith }

zeros_cut : (n : ℕ) → n ≤ 24 → rank_of (take n zeros) ≡ 0
zeros_cut n h = ap rank_of (take-replicate n 24 0 h) ∙ rank_zeros n

pub count_positive : (n d : ℕ) → n ≤ 24 → 0 < count n d
count_positive n d h = omega (arith, (ranked n d zeros h (zeros_monomial n d)).below)

pub rank_zero : (n d : ℕ) → n ≤ 24 → monomial_at n d 0 ≡ zeros
rank_zero n d h =
    ap (monomial_at n d) (sym (zeros_cut n h)) ∙ (ranked n d zeros h (zeros_monomial n d)).same

pub rank_other : (n d r : ℕ) → n ≤ 24 → r < count n d → monomial_at n d r ≡ zeros → r ≡ 0
rank_other n d r h l e = sym (rank_at n d r h l) ∙ ap (λ (m : List ℕ). rank_of (take n m)) e ∙ zeros_cut n h

-- the product of two monomials
pub plus_length : (m f : List ℕ) → length m ≡ length f → length (plus m f) ≡ length m
plus_length [] f e = sym e
plus_length (j ∷ m) [] e = refl
plus_length (j ∷ m) (k ∷ f) e = ap suc (plus_length m f (omega arith))

pub plus_at : (m f : List ℕ) (i : ℕ) → get_or (plus m f) i 0 ≡ get_or m i 0 + get_or f i 0
plus_at [] f i = omega arith
plus_at (j ∷ m) [] i = omega arith
plus_at (j ∷ m) (k ∷ f) zero = refl
plus_at (j ∷ m) (k ∷ f) (suc i) = plus_at m f i

pub plus_degree : (m f : List ℕ) → degree (plus m f) ≡ degree m + degree f
plus_degree [] f = omega arith
plus_degree (j ∷ m) [] = omega arith
plus_degree (j ∷ m) (k ∷ f) = omega (arith, plus_degree m f)

pub plus_monomial : (n a b : ℕ) (m f : List ℕ) → Monomial n a m → Monomial n b f → Monomial n (a + b) (plus m f)
plus_monomial n a b m f x y = record {
  long = plus_length m f (omega (arith, x.long, y.long)) ∙ x.long;
  rest = λ i h. plus_at m f i ∙ omega (arith, x.rest i h, y.rest i h);
  most = omega (arith, x.most, y.most, plus_degree m f);
}

pub monomial_wider : (n n' d : ℕ) (m : List ℕ) → n ≤ n' → Monomial n d m → Monomial n' d m
monomial_wider n n' d m h x = record { long = x.long; rest = λ i l. x.rest i (omega arith); most = x.most }

-- one more exponent, where there was none
degree_set : (m : List ℕ) (i e : ℕ) → get_or m i 0 ≡ 0 → degree (set m i e) ≤ degree m + e
degree_set [] i e z = omega arith
degree_set (j ∷ m) zero e z = omega arith
degree_set (j ∷ m) (suc i) e z = omega (arith, degree_set m i e z)

pub set_monomial : (n d i e : ℕ) (m : List ℕ) → i < n → get_or m i 0 ≡ 0 → Monomial n d m → Monomial n (d + e) (set m i e)
set_monomial n d i e m inside z x = record {
  long = length-set m i e ∙ x.long;
  rest = λ j h. get_or-set_other m i j e 0 (λ same. omega arith) ∙ x.rest j h;
  most = omega (arith, x.most, degree_set m i e z);
}

pub monomial_higher : (n d d' : ℕ) (m : List ℕ) → d ≤ d' → Monomial n d m → Monomial n d' m
monomial_higher n d d' m h x = record { long = x.long; rest = x.rest; most = omega (arith, x.most) }

-- a monomial is the one of rank r exactly when r is its rank
pub alike_rank : (n d r : ℕ) (m : List ℕ) → n ≤ 24 → r < count n d → Monomial n d m → alike m (monomial_at n d r) ≡ eqb (rank_of (take n m)) r
alike_rank n d r m few below is =
    let at = ranked n d m few is in
    elim (cases_eq (rank_of (take n m)) r) [
      | inl y ↦ is_alike m (monomial_at n d r) (sym at.same ∙ ap (monomial_at n d) y) ∙ sym (eq-eqb (rank_of (take n m)) r y)
      | inr x ↦ apart x ∙ sym (ne_eqb (rank_of (take n m)) r x)
    ]
  where
    apart : (rank_of (take n m) ≡ r → ⊥) → alike m (monomial_at n d r) ≡ false
    apart x =
        elim (cases_alike m (monomial_at n d r)) [
          | inl y ↦ absurd (x (ap (λ (f : List ℕ). rank_of (take n f)) y ∙ rank_at n d r few below))
          | inr b ↦ b
        ]

module _ {F : Type 0} where
  pub times_within : (n a b : ℕ) (m : List ℕ) (p : List (Term F)) → Monomial n a m → Within n b p → Within n (a + b) (times m p)
  times_within n a b m [] x y = tt
  times_within n a b m (t ∷ p) x y = (plus_monomial n a b m t.exponents x y.0, times_within n a b m p x y.1)

  -- a product number is an equation and a rank
  module _ (n d p : ℕ) (eqs : List (List (Term F))) (below : p < products n d eqs) where
    pub some_monomial : 0 < count n d
    some_monomial = positive (count n d) below
      where
        positive : (c : ℕ) → p < length eqs * c → 0 < c
        positive zero h = absurd (omega arith)
        positive (suc c) h = omega arith

    pub equation_below : p / count n d < length eqs
    equation_below = (div-lt_iff_lt-mul some_monomial).1 below

    pub rank_below : p % count n d < count n d
    rank_below = mod-lt p some_monomial

    pub product_within : Formed n eqs → Within n (d + 3) (product n d eqs p)
    unfolding product
    product_within formed =
        times_within n d 3 (monomial_at n d (p % count n d)) (get_or eqs (p / count n d) [])
        (monomial_at_lem n d (p % count n d) formed.few rank_below)
        (formed.terms (p / count n d) equation_below)
