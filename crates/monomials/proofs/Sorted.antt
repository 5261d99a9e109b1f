-- The places follow the order.
-- Assumes nothing.
use Rattle.std.proofs.Common.{◌≡◌, ℕ, zero, suc, ◌+◌, ◌-◌, ◌<◌, ◌≤◌, ◌⊎◌, List, [], ◌∷◌, length, get_or, sym, refl, ap, ◌∙◌, inl, inr, arith}
use Rattle.std.proofs.lemmas.Bool.{cases_order}
use Rattle.monomials.specs.Order.{degree, lower, rank_of, at_most, Ahead, Before, Ordered, Apart}
use Rattle.monomials.proofs.Places.{placed}
use Rattle.monomials.proofs.Written.{lower_is_choose, lower_step}

lower_mono : (v d k : ℕ) → lower (suc v) d ≤ lower (suc v) (d + k)
lower_mono v d zero = omega (arith, ap (lower (suc v)) (let s : d + 0 ≡ d = omega arith in s))
lower_mono v d (suc k) =
    let s : d + suc k ≡ d + k + 1 = omega arith in
    omega (arith, lower_mono v d k, ap (lower (suc v)) s, lower_step v (d + k))

-- a lower degree comes first
by_degree : (x : ℕ) (xs : List ℕ) (y : ℕ) (ys : List ℕ) → length xs ≡ length ys → x + degree xs < y + degree ys → rank_of (x ∷ xs) < rank_of (y ∷ ys)
unfolding rank_of
by_degree x xs y ys l h =
    let d = x + degree xs in
    let p = (placed (x ∷ xs) d (omega arith)).0 in
    let q = lower_is_choose (suc (length xs)) d in
    let s : d + 1 + (y + degree ys - (d + 1)) ≡ y + degree ys = omega arith in
    omega (arith, p, q, lower_mono (length xs) (d + 1) (y + degree ys - (d + 1)), ap (lower (suc (length xs))) s, ap (λ (m : ℕ). lower (suc m) (y + degree ys)) l)

forth : (xs ys : List ℕ) → length xs ≡ length ys → Before xs ys → rank_of xs < rank_of ys
unfolding rank_of
forth [] [] l (inl h) = absurd (omega arith)
forth [] [] l (inr h) = absurd h.1
forth [] (y ∷ ys) l b = absurd (omega arith)
forth (x ∷ xs) [] l b = absurd (omega arith)
forth (x ∷ xs) (y ∷ ys) l (inl h) = by_degree x xs y ys (omega arith) h
forth (x ∷ xs) (y ∷ ys) l (inr h) =
    let t : length xs ≡ length ys = omega arith in
    let e = h.0 in
    let b : Before xs ys = elim h.1 [ inl g ↦ inl (omega arith) | inr g ↦ inr (omega (arith, g.0), g.1) ] in
    omega (arith, forth xs ys t b, ap (λ (m : ℕ). lower (suc m) (x + degree xs)) t, ap (lower (suc (length ys))) e)

-- two of one length are in the order, or the same
ahead_or : (xs ys : List ℕ) → length xs ≡ length ys → Ahead xs ys ⊎ ((xs ≡ ys) ⊎ Ahead ys xs)
ahead_or [] [] l = inr (inl refl)
ahead_or [] (y ∷ ys) l = absurd (omega arith)
ahead_or (x ∷ xs) [] l = absurd (omega arith)
ahead_or (x ∷ xs) (y ∷ ys) l =
    elim (cases_order x y) [
      | inl e ↦ elim (ahead_or xs ys (omega arith)) [
        | inl a ↦ inl (inr (e, a))
        | inr (inl s) ↦ inr (inl (ap (λ (z : ℕ). z ∷ xs) e ∙ ap (λ (zs : List ℕ). y ∷ zs) s))
        | inr (inr a) ↦ inr (inr (inr (sym e, a)))
      ]
      | inr (inl lt) ↦ inr (inr (inl lt))
      | inr (inr lt) ↦ inl (inl lt)
    ]

before_or : (xs ys : List ℕ) → length xs ≡ length ys → Before xs ys ⊎ ((xs ≡ ys) ⊎ Before ys xs)
before_or xs ys l =
    elim (cases_order (degree xs) (degree ys)) [
      | inl e ↦ elim (ahead_or xs ys l) [
        | inl a ↦ inl (inr (e, a))
        | inr (inl s) ↦ inr (inl s)
        | inr (inr a) ↦ inr (inr (inr (sym e, a)))
      ]
      | inr (inl lt) ↦ inl (inl lt)
      | inr (inr lt) ↦ inr (inr (inl lt))
    ]

back : (xs ys : List ℕ) → length xs ≡ length ys → rank_of xs < rank_of ys → Before xs ys
back xs ys l h =
    elim (before_or xs ys l) [
      | inl b ↦ b
      | inr (inl s) ↦ absurd (omega (arith, ap rank_of s))
      | inr (inr b) ↦ absurd (omega (arith, forth ys xs (sym l) b))
    ]

pub ordered : Ordered
ordered xs ys l = (forth xs ys l, back xs ys l)

pub apart : Apart
apart xs ys l e =
    let top = degree xs + degree ys in
    sym (placed xs top (omega arith)).1
    ∙ ap (λ (n : ℕ). get_or (at_most n top) (rank_of xs) []) l
    ∙ ap (λ (r : ℕ). get_or (at_most (length ys) top) r []) e
    ∙ (placed ys top (omega arith)).1
