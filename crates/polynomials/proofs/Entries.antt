-- Entries of the matrix, term by term: what a walk over the terms of each product adds to its column.
use Rattle.std.proofs.Common.{◌≡◌, ℕ, ◌+◌, ◌-◌, ◌*◌, ◌/◌, ◌<◌, ◌≤◌, cond, List, [], ◌∷◌, length, get_or, take, replicate, sym, ap, ◌∙◌, arith, length-append}
use lib.Arith.{digits_div, digits_mod}
use Rattle.std.proofs.lemmas.List.{length-replicate, length-map, length-take-le, get_or-map, get_or-take, get_or_append_left, ext_get_or, take_more, take_all}
use Rattle.std.proofs.lemmas.Bool.{eq-eqb, ne_eqb, cond-true, cond-false}
use Rattle.fields.specs.Field.{Ops, Laws}
use Rattle.monomials.specs.Order.{rank_of}
use Rattle.polynomials.specs.declared.term.Term.{Term}
use Rattle.polynomials.specs.Polynomial.{alike, plus, coefficient, scaled, times}
use Rattle.polynomials.specs.Monomial.{Monomial, padded, monomial_at, count}
use Rattle.polynomials.specs.Product.{product}
use Rattle.polynomials.proofs.Coefficients.{coefficient_append}
use Rattle.polynomials.proofs.Ranks.{plus_at, plus_length, alike_rank}

-- the first n exponents of a product, from those of its factors
pub plus_cut : (n : ℕ) (m f e : List ℕ) → n ≤ 24 → length m ≡ n → length f ≡ 24 → length e ≡ n →
    ((i : ℕ) → i < n → get_or e i 0 ≡ get_or m i 0 + get_or f i 0) → take n (plus (padded m) f) ≡ e
plus_cut n m f e few lm lf le h =
    ext_get_or 0 (take n (plus (padded m) f)) e (cut_length ∙ sym le)
    (λ i l.
    let l' : i < n = omega (arith, cut_length) in
    get_or-take n (plus (padded m) f) i 0 l'
    ∙ plus_at (padded m) f i
    ∙ ap (λ (k : ℕ). k + get_or f i 0) (get_or_append_left m (replicate (24 - length m) 0) 0 i (omega arith))
    ∙ sym (h i l'))
  where
    cut_length : length (take n (plus (padded m) f)) ≡ n
    cut_length =
        let pad : List ℕ = replicate (24 - length m) 0 in
        let long : length (padded m) ≡ 24 = omega (arith, length-append m pad, length-replicate {A = ℕ} (24 - length m) 0) in
        length-take-le n (plus (padded m) f) (omega (arith, plus_length (padded m) f (long ∙ sym lf)))

module _ {F : Type 0} (n d : ℕ) (eqs : List (List (Term F))) where
  -- the product of an equation and a rank
  pub product_at : (k j : ℕ) → j < count n d → product n d eqs (k * count n d + j) ≡ times (monomial_at n d j) (get_or eqs k [])
  unfolding product
  product_at k j below =
      ap (λ (r : ℕ). times (monomial_at n d r) (get_or eqs ((k * count n d + j) / count n d) [])) (digits_mod k below)
      ∙ ap (λ (q : ℕ). times (monomial_at n d j) (get_or eqs q [])) (digits_div k below)

pub times_length : {F : Type 0} (m : List ℕ) (p : List (Term F)) → length (times m p) ≡ length p
times_length m p = length-map p (λ t. record { coeff = t.coeff; exponents = plus m t.exponents })

pub times_at : {F : Type 0} (m : List ℕ) (p : List (Term F)) (k : ℕ) (t u : Term F) → k < length p →
    get_or (times m p) k u ≡ record { coeff = (get_or p k t).coeff; exponents = plus m (get_or p k t).exponents }
times_at m p k t u h = get_or-map (λ t. record { coeff = t.coeff; exponents = plus m t.exponents }) p k t u h

pub scaled_length : {F : Type 0} (o : Ops F) (c : F) (p : List (Term F)) → length (scaled o c p) ≡ length p
scaled_length o c p = length-map p (λ t. record { coeff = o.mul c t.coeff; exponents = t.exponents })

pub scaled_at : {F : Type 0} (o : Ops F) (c : F) (p : List (Term F)) (k : ℕ) (t u : Term F) → k < length p →
    get_or (scaled o c p) k u ≡ record { coeff = o.mul c (get_or p k t).coeff; exponents = (get_or p k t).exponents }
scaled_at o c p k t u h = get_or-map (λ t. record { coeff = o.mul c t.coeff; exponents = t.exponents }) p k t u h

module _ {F : Type 0} {o : Ops F} (laws : Laws o) where
  -- the coefficient with one more term
  pub coefficient_more : (p : List (Term F)) (k : ℕ) (t : Term F) (e : List ℕ) → k < length p →
      coefficient o (take (k + 1) p) e
      ≡ o.add (coefficient o (take k p) e) (cond (alike (get_or p k t).exponents e) (get_or p k t).coeff o.zero)
  coefficient_more p k t e h =
      ap (λ (q : List (Term F)). coefficient o q e) (take_more p k t h)
      ∙ coefficient_append laws (take k p) (get_or p k t ∷ []) e
      ∙ ap (o.add (coefficient o (take k p) e)) (laws.add-zero (cond (alike (get_or p k t).exponents e) (get_or p k t).coeff o.zero))

  pub coefficient_all : (p : List (Term F)) (k : ℕ) (e : List ℕ) → length p ≤ k → coefficient o (take k p) e ≡ coefficient o p e
  coefficient_all p k e h = ap (λ (q : List (Term F)). coefficient o q e) (take_all k p h)

  -- at the rank of the term its coefficient is added, and nothing elsewhere
  module _ (n d r : ℕ) (p : List (Term F)) (k : ℕ) (t : Term F)
      (few : n ≤ 24) (below : r < count n d) (inside : k < length p) (is : Monomial n d (get_or p k t).exponents) where
    pub column_here : rank_of (take n (get_or p k t).exponents) ≡ r →
        coefficient o (take (k + 1) p) (monomial_at n d r) ≡ o.add (coefficient o (take k p) (monomial_at n d r)) (get_or p k t).coeff
    column_here y =
        coefficient_more p k t (monomial_at n d r) inside
        ∙ ap (o.add (coefficient o (take k p) (monomial_at n d r)))
        (cond-true (alike (get_or p k t).exponents (monomial_at n d r)) (get_or p k t).coeff o.zero
        (alike_rank n d r (get_or p k t).exponents few below is ∙ eq-eqb (rank_of (take n (get_or p k t).exponents)) r y))

    pub column_other : (rank_of (take n (get_or p k t).exponents) ≡ r → ⊥) →
        coefficient o (take (k + 1) p) (monomial_at n d r) ≡ coefficient o (take k p) (monomial_at n d r)
    column_other x =
        coefficient_more p k t (monomial_at n d r) inside
        ∙ ap (o.add (coefficient o (take k p) (monomial_at n d r)))
        (cond-false (alike (get_or p k t).exponents (monomial_at n d r)) (get_or p k t).coeff o.zero
        (alike_rank n d r (get_or p k t).exponents few below is ∙ ne_eqb (rank_of (take n (get_or p k t).exponents)) r x))
        ∙ laws.add-zero (coefficient o (take k p) (monomial_at n d r))
