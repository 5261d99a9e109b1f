-- The rows of Pascal's triangle, capped, one after the other: each is made from the one above it, and holds binomials.
-- Assumes nothing.
use Rattle.std.proofs.Common.{◌≡◌, ℕ, zero, suc, ◌+◌, ◌*◌, ◌<◌, min, Bool, true, false, ◌&&◌, eqb, List, [], ◌∷◌, ◌++◌, length, get_or, replicate, sym, refl, ap, ◌∙◌, le_of_suc-le-suc, not-suc-le-zero, add-zero, zero-add, arith}
use Rattle.std.proofs.lemmas.List.{get_or_append_left, get_or-append-add, get_or-replicate}
use Rattle.std.proofs.lemmas.Bool.{eqb-true, and_parts, false≢true}
use Rattle.monomials.specs.Choose.{choose}
use Rattle.monomials.proofs.Binomials.{choose_none}

-- each entry and the one on its left, which is p for the first
abbrev pub sums : ℕ → List ℕ → List ℕ
sums p [] = []
sums p (x ∷ xs) = min 1000001 (p + x) ∷ sums x xs

-- k rows from the row r on
abbrev pub rows : ℕ → List ℕ → List ℕ
rows zero r = []
rows (suc k) r = r ++ rows k (sums 0 r)

abbrev pub top : List ℕ
top = 1 ∷ replicate 24 0

abbrev pub same : List ℕ → List ℕ → Bool
same [] [] = true
same [] (y ∷ ys) = false
same (x ∷ xs) [] = false
same (x ∷ xs) (y ∷ ys) = eqb x y && same xs ys

same_is : (xs ys : List ℕ) → same xs ys ≡ true → xs ≡ ys
same_is [] [] t = refl
same_is [] (y ∷ ys) t = absurd (false≢true t)
same_is (x ∷ xs) [] t = absurd (false≢true t)
same_is (x ∷ xs) (y ∷ ys) t =
    let p = and_parts (eqb x y) (same xs ys) t in
    ap (λ (z : ℕ). z ∷ xs) (eqb-true x y p.0) ∙ ap (λ (zs : List ℕ). y ∷ zs) (same_is xs ys p.1)

length_sums : (p : ℕ) (xs : List ℕ) → length (sums p xs) ≡ length xs
length_sums p [] = refl
length_sums p (x ∷ xs) = ap suc (length_sums x xs)

sums_at : (p : ℕ) (xs : List ℕ) (b : ℕ) → b < length xs → get_or (sums p xs) b 0 ≡ min 1000001 (get_or (p ∷ xs) b 0 + get_or xs b 0)
sums_at p [] b h = absurd (not-suc-le-zero h)
sums_at p (x ∷ xs) zero h = refl
sums_at p (x ∷ xs) (suc b) h = sums_at x xs b (le_of_suc-le-suc h)

-- r is row a
record Row (a : ℕ) (r : List ℕ) : Type 0 where
  pub long : length r ≡ 25
  pub holds : (b : ℕ) → b < 25 → get_or r b 0 ≡ min 1000001 (choose a b)

cap_sum : (x y : ℕ) → min 1000001 (min 1000001 x + min 1000001 y) ≡ min 1000001 (x + y)
cap_sum x y = omega arith

row_top : Row 0 top
unfolding choose
row_top = record { long = refl; holds = entry }
  where
    entry : (b : ℕ) → b < 25 → get_or top b 0 ≡ min 1000001 (choose 0 b)
    entry zero h = refl
    entry (suc b) h = get_or-replicate 24 b 0 0 (le_of_suc-le-suc h)

row_next : (a : ℕ) (r : List ℕ) → Row a r → Row (suc a) (sums 0 r)
unfolding choose
row_next a r w = record { long = length_sums 0 r ∙ w.long; holds = entry }
  where
    within : (b : ℕ) → b < 25 → b < length r
    within b h = omega (arith, w.long)

    entry : (b : ℕ) → b < 25 → get_or (sums 0 r) b 0 ≡ min 1000001 (choose (suc a) b)
    entry zero h =
        sums_at 0 r 0 (within 0 h)
        ∙ ap (λ (x : ℕ). min 1000001 (0 + x)) (w.holds 0 h)
        ∙ ap (λ (x : ℕ). min 1000001 (0 + min 1000001 x)) (choose_none a)
    entry (suc b) h =
        sums_at 0 r (suc b) (within (suc b) h)
        ∙ ap (λ (x : ℕ). min 1000001 (x + get_or r (suc b) 0)) (w.holds b (omega arith))
        ∙ ap (λ (x : ℕ). min 1000001 (min 1000001 (choose a b) + x)) (w.holds (suc b) h)
        ∙ cap_sum (choose a b) (choose a (suc b))

row_in : (k a n b : ℕ) (r : List ℕ) → Row n r → a < k → b < 25 → get_or (rows k r) (a * 25 + b) 0 ≡ min 1000001 (choose (n + a) b)
row_in zero a n b r w ha hb = absurd (not-suc-le-zero ha)
row_in (suc k) zero n b r w ha hb =
    let here : b < length r = omega (arith, w.long) in
    let first : 0 * 25 + b ≡ b = omega arith in
    ap (λ (i : ℕ). get_or (r ++ rows k (sums 0 r)) i 0) first
    ∙ get_or_append_left r (rows k (sums 0 r)) 0 b here
    ∙ w.holds b hb
    ∙ ap (λ (m : ℕ). min 1000001 (choose m b)) (sym (add-zero n))
row_in (suc k) (suc a) n b r w ha hb =
    let past : suc a * 25 + b ≡ length r + (a * 25 + b) = omega (arith, w.long) in
    let on : suc n + a ≡ n + suc a = omega arith in
    ap (λ (i : ℕ). get_or (r ++ rows k (sums 0 r)) i 0) past
    ∙ get_or-append-add r (rows k (sums 0 r)) (a * 25 + b) 0
    ∙ row_in k a (suc n) b (sums 0 r) (row_next n r w) (le_of_suc-le-suc ha) hb
    ∙ ap (λ (m : ℕ). min 1000001 (choose m b)) on

pub right : (t : List ℕ) → same t (rows 76 top) ≡ true → (a b : ℕ) → a < 76 → b < 25 → get_or t (a * 25 + b) 0 ≡ min 1000001 (choose a b)
right t ok a b ha hb =
    ap (λ (l : List ℕ). get_or l (a * 25 + b) 0) (same_is t (rows 76 top) ok)
    ∙ row_in 76 a 0 b top row_top ha hb
    ∙ ap (λ (n : ℕ). min 1000001 (choose n b)) (zero-add a)
