-- The plain equations are short and few.
use Rattle.std.specs.Prelude.{◌≡◌, ℕ, zero, suc, ◌+◌, ◌-◌, ◌<◌, ◌≤◌, min, Bool, true, ◌&&◌, List, [], ◌∷◌, map, length, nat_lt, slice_index, slice_index_or, slice_set, refl}
use Rattle.std.proofs.Common.{ap, ⊎_elim, arith, lit≤, length-append}
use Rattle.std.proofs.ByRecursion.{All-append, All-get_or, All-map, All-weaker}
use Rattle.std.proofs.lemmas.Bool.{cases_eq, cond_both, and_parts, ltb-true}
use Rattle.std.specs.List.{AllByRecursion}
use Rattle.fields.specs.Field.{Ops, Laws}
use Rattle.coloring.specs.Pairs.{Pair}
use Rattle.polynomials.specs.declared.term.Term.{Term}
use Rattle.coloring.specs.Pairs.{upto, two, pair, row, pairs}
use Rattle.coloring.specs.Equations.{mono, cube, cubes, edge, plain}
use Rattle.polynomials.specs.Polynomial.{zeros}
use Rattle.coloring.specs.Absent.{absent}
use Rattle.coloring.specs.Encoding.{Sound, Short, Bounded}
use Rattle.coloring.specs.Exponents.{zero_at, degree_power, power_wide, power_here, power_other, degree_product, product_wide, product_low, product_other}
use Rattle.coloring.specs.Reading.{length_plain}
use Rattle.coloring.specs.Upto.{all_upto}

-- the sum of a function of the numbers below m
abbrev pub below : (ℕ → ℕ) → ℕ → ℕ
below b zero = 0
below b (suc m) = below b m + b m

pub below_mono : (b : ℕ → ℕ) (m k : ℕ) → m ≤ k → below b m ≤ below b k
below_mono b m zero h = let e = ap (below b) (none m h) in omega (arith, e)
  where
    none : (m : ℕ) → m ≤ 0 → m ≡ 0
    none m h = omega arith
below_mono b m (suc k) h =
    ⊎_elim
    (λ e. let q = ap (below b) e in omega (arith, q))
    (λ e. let r = below_mono b m k (omega arith) in omega (arith, r))
    (cases_eq m (suc k))

pub length_upto : {A : Type 0} (g : ℕ → List A) (b : ℕ → ℕ) (m : ℕ) → ((k : ℕ) → k < m → length (g k) ≤ b k) → length (upto g m) ≤ below b m
length_upto g b zero h = omega arith
length_upto g b (suc m) h =
    let r = length_upto g b m (λ k l. h k (omega arith)) in
    omega (arith, length-append (upto g m) (g m), h m (omega arith), r)

-- what is known of a joined pair of n vertices
pub record Within (f : ℕ → ℕ → Bool) (n : ℕ) (p : Pair) : Type 0 where
  pub ordered : p.low < p.high
  pub small : p.high < n
  pub there : f p.low p.high ≡ true

module _ (f : ℕ → ℕ → Bool) where
  pair_within : (n i j : ℕ) → j < n → AllByRecursion (Within f n) (pair f i j)
  pair_within n i j h =
      cond_both (nat_lt i j && f i j) (two i j ∷ []) [] (AllByRecursion (Within f n))
      (λ e. let w = and_parts (nat_lt i j) (f i j) e in (record { ordered = ltb-true i j w.0; small = h; there = w.1 }, tt))
      (λ e. tt)

  pub pairs_within : (n : ℕ) → AllByRecursion (Within f n) (pairs f n)
  pairs_within n = all_upto (Within f n) (row f n) n (λ i a. all_upto (Within f n) (pair f i) n (λ j b. pair_within n i j b))

  pair_few : (i j : ℕ) → length (pair f i j) + (j - (i + 1)) ≤ suc j - (i + 1)
  pair_few i j =
      cond_both (nat_lt i j && f i j) (two i j ∷ []) [] (λ z. length z + (j - (i + 1)) ≤ suc j - (i + 1))
      (λ e. let w = ltb-true i j (and_parts (nat_lt i j) (f i j) e).0 in omega (arith, w))
      (λ e. omega arith)

  pub row_few : (i m : ℕ) → length (upto (pair f i) m) ≤ m - (i + 1)
  row_few i zero = omega arith
  row_few i (suc m) = let r = row_few i m in omega (arith, length-append (upto (pair f i) m) (pair f i m), pair_few i m, r)

  pub pairs_few : (n : ℕ) → n ≤ 24 → length (pairs f n) ≤ 276
  pairs_few n h =
      let b : ℕ → ℕ = λ i. 24 - (i + 1) in
      let r = length_upto (row f n) b n (λ i l. let q = row_few i n in omega (arith, q)) in
      let m = below_mono b n 24 h in
      omega (arith, r, m)

module _ {C : Type 0} (o : Ops C) (laws : Laws o) where
  pub power_sound : (n i e : ℕ) → i < n → e ≤ 3 → Sound o n (mono o.one (slice_set zeros i e))
  power_sound n i e h l = record {
    wide = power_wide i e;
    low = let d = degree_power i e in omega (arith, d);
    within = λ k m. power_other i e k (λ q. omega (arith, q));
    present = laws.one_not_zero;
  }

  product_sound : (n i j : ℕ) → i < n → j < n → Sound o n (mono o.one (slice_set (slice_set zeros i 1) j 1))
  product_sound n i j h l = record {
    wide = product_wide i j;
    low = let d = degree_product i j in omega (arith, d);
    within = λ k m. product_other i j k (λ q. omega (arith, q)) (λ q. omega (arith, q));
    present = laws.one_not_zero;
  }

  unit_sound : (n : ℕ) → Sound o n (mono o.one zeros)
  unit_sound n = record { wide = refl; low = lit≤ tt; within = λ k m. zero_at k; present = laws.one_not_zero }

  -- terms that a number of their exponents tells apart, as it falls by one from each to the next
  pub apart_by : (e : List (Term C)) (key : List ℕ → ℕ) (s : ℕ) → ((k : ℕ) → k < length e → key (slice_index_or e k (absent o)).exponents + k ≡ s) → (j k : ℕ) → j < length e → k < length e → (slice_index_or e j (absent o)).exponents ≡ (slice_index_or e k (absent o)).exponents → j ≡ k
  apart_by e key s v j k a b q = let x = v j a in let y = v k b in let z = ap key q in omega (arith, x, y, z)

  cube_key : (i : ℕ) → i < 24 → (k : ℕ) → k < 2 → min 1 (slice_index (slice_index_or (cube o.one i) k (absent o)).exponents i) + k ≡ 1
  cube_key i l zero h = let e = power_here i 3 l in rw e
  cube_key i l (suc zero) h = let e = zero_at i in rw e
  cube_key i l (suc (suc k)) h = absurd (omega arith)

  cube_short : (n i : ℕ) → n ≤ 24 → i < n → Short o n (cube o.one i)
  cube_short n i h l = record {
    few = lit≤ tt;
    terms = λ k m. All-get_or (Sound o n) (cube o.one i) k (absent o) m (power_sound n i 3 l (lit≤ tt), (unit_sound n, tt));
    apart = apart_by (cube o.one i) (λ x. min 1 (slice_index x i)) 1 (cube_key i (omega arith));
  }

  edge_key : (p : Pair) → p.low < p.high → p.high < 24 → (k : ℕ) → k < 3 → slice_index (slice_index_or (edge o.one p) k (absent o)).exponents p.low + k ≡ 2
  edge_key p a b zero h = let e = power_here p.low 2 (omega arith) in rw e
  edge_key p a b (suc zero) h = let e = product_low p.low p.high (omega arith) (λ q. omega (arith, q)) in rw e
  edge_key p a b (suc (suc zero)) h = let e = power_other p.high 2 p.low (λ q. omega (arith, q)) in rw e
  edge_key p a b (suc (suc (suc k))) h = absurd (omega arith)

  edge_short : (n : ℕ) (p : Pair) → n ≤ 24 → p.low < p.high → p.high < n → Short o n (edge o.one p)
  edge_short n p h a b =
      let s = power_sound n p.low 2 (omega arith) (lit≤ tt) in
      let t = product_sound n p.low p.high (omega arith) b in
      let u = power_sound n p.high 2 b (lit≤ tt) in
      record {
        few = lit≤ tt;
        terms = λ k m. All-get_or (Sound o n) (edge o.one p) k (absent o) m (s, (t, (u, tt)));
        apart = apart_by (edge o.one p) (λ x. slice_index x p.low) 2 (edge_key p a (omega arith));
      }

  pub plain_short : (n : ℕ) (f : ℕ → ℕ → Bool) → n ≤ 24 → AllByRecursion (Short o n) (plain o.one n f)
  plain_short n f h =
      All-append (Short o n) (upto (cubes o.one) n) (map (edge o.one) (pairs f n))
      (all_upto (Short o n) (cubes o.one) n (λ k l. (cube_short n k h l, tt)))
      (All-map (Short o n) (edge o.one) (pairs f n)
      (All-weaker (Within f n) (λ p. Short o n (edge o.one p)) (λ p w. edge_short n p h w.ordered w.small) (pairs f n) (pairs_within f n)))

  pub plain_bounded : Bounded o (plain o.one) 300
  plain_bounded = record {
    small = lit≤ tt;
    count = λ n f h. let a = length_plain o.one n f in let b = pairs_few f n h in omega (arith, a, b);
    equations = λ n f h k l. All-get_or (Short o n) (plain o.one n f) k [] l (plain_short n f h);
  }
