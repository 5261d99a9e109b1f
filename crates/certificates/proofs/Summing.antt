-- Adding up the products of a certificate, one after the other. Assumes nothing.
use Rattle.std.proofs.Common.{◌≡◌, ℕ, zero, suc, ◌+◌, ◌*◌, ◌/◌, ◌%◌, ◌<◌, ◌≤◌, true, false, cond, eqb, ◌&&◌, Bool, List, [], ◌∷◌, length, drop, get_or, get_or-drop, drop-drop, Decides, Iter, Bor, Option, None, Some, sym, refl, ap, ◌∙◌, subst, inl, inr, add-one, arith}
use Rattle.std.specs.List.{list_all, enumerate_from}
use Rattle.std.proofs.lemmas.List.{nil_from_length, drop_all, take_rest}
use Rattle.std.specs.Slice.{IsGetRangeResult}
use Rattle.std.specs.Option.{unwrap_or, option_map}
use Rattle.std.specs.Slice.Iter.{iter_rest, iter_steps}
use Rattle.std.proofs.lemmas.Bool.{cases_Bool, cases_eq, eqb-true, false≢true, eq-eqb, ne_eqb, cond-true, cond-false}
use Rattle.fields.specs.Field.{Ops, Laws}
use Rattle.algebra.specs.Grid.{Kept}
use Rattle.algebra.specs.Held.{held, Held}
use Rattle.algebra.specs.declared.elimination.grid.Grid.{Grid}
use Rattle.algebra.proofs.Sums.{zero-mul}
use Rattle.polynomials.specs.declared.term.Term.{Term}
use Rattle.polynomials.specs.Polynomial.{coefficient, scaled, times}
use Rattle.polynomials.specs.Monomial.{count, monomial_at}
use Rattle.polynomials.specs.Product.{product, products, weighted, target}
use Rattle.polynomials.proofs.Coefficients.{coefficient_append, coefficient_scaled}
use Rattle.certificates.specs.declared.sizes.Sizes.{Sizes}
use Rattle.certificates.specs.Matrix.{Summed}
use Rattle.certificates.specs.Measures.{Measured}
use Rattle.layout.specs.Reading.{byte, stands, before, code_at}
use Rattle.layout.specs.Length.{map_bytes}
use Rattle.certificates.specs.Summing.{Totals}
use Rattle.certificates.proofs.Grids.{held_then, kept_then}
use Rattle.certificates.proofs.Standing.{before_more}

-- the bytes behind a place, none where the place is past the end
pub behind : (bytes : List ℕ) (at : ℕ) (r : Option (Bor (List ℕ))) (b : Bor (List ℕ)) → IsGetRangeResult bytes at (length bytes) r → b.now ≡ [] → (unwrap_or r b).now ≡ drop at bytes
behind bytes at None b h e = e ∙ sym (drop_all at bytes (elim h.0 [ inl l ↦ omega arith | inr l ↦ absurd (omega arith) ]))
behind bytes at (Some x) b h e = h.0.2 ∙ take_rest bytes at

-- the number that an iterator gives, or 0, and what is left
taken : (s t : Iter ℕ) (r : Option (Bor ℕ)) (q : Option ℕ) (code : ℕ) → iter_steps s r t → q ≡ option_map (λ y. y.now) r → code ≡ unwrap_or q 0 → (code ≡ get_or (iter_rest s) 0 0) × (iter_rest t ≡ drop 1 (iter_rest s))
taken s t None q code step copied e =
    let none : iter_rest s ≡ [] = nil_from_length (iter_rest s) step.0 in
    (e ∙ ap (λ o. unwrap_or o 0) copied ∙ sym (ap (λ (xs : List ℕ). get_or xs 0 0) none), ap iter_rest step.1 ∙ none ∙ sym (ap (drop 1) none))
taken s t (Some x) q code step copied e =
    (e ∙ ap (λ o. unwrap_or o 0) copied ∙ sym (ap (λ (xs : List ℕ). get_or xs 0 0) step), sym (ap (drop 1) step))

-- what the next of the bytes behind a place is, or 0 where there is none, and what is left
pub next_code : (bytes : List ℕ) (place : ℕ) (s t : Iter ℕ) (r : Option (Bor ℕ)) (q : Option ℕ) (code : ℕ) → iter_rest s ≡ drop place bytes → iter_steps s r t → q ≡ option_map (λ y. y.now) r → code ≡ unwrap_or q 0
    → (code ≡ byte bytes place) × (iter_rest t ≡ drop (place + 1) bytes)
next_code bytes place s t r q code is step copied e =
    let here : byte bytes place ≡ get_or (iter_rest s) 0 0 =
    let same : place ≡ place + 0 = omega arith in
    ap (λ (k : ℕ). byte bytes k) same ∙ sym (get_or-drop place bytes 0 0) ∙ ap (λ (xs : List ℕ). get_or xs 0 0) (sym is) in
    let left : drop (place + 1) bytes ≡ drop 1 (iter_rest s) = sym (drop-drop 1 place bytes) ∙ ap (drop 1) (sym is) in
    let took = taken s t r q code step copied e in
    (took.0 ∙ sym here, took.1 ∙ sym left)

-- a product by its equation and its multiplier
pub product_is : {F : Type 0} (n d : ℕ) (eqs : List (List (Term F))) (k c : ℕ) (m : List ℕ) → c ≡ count n d → m ≡ monomial_at n d (k % c) → times m (get_or eqs (k / c) []) ≡ product n d eqs k
unfolding product
product_is {F} n d eqs k c m e is =
    ap (λ (f : List ℕ). times f (get_or eqs (k / c) [])) is ∙ ap (λ (a : ℕ). times (monomial_at n d (k % a)) (get_or eqs (k / a) [])) e

module _ {F : Type 0} {o : Ops F} (laws : Laws o) where
  -- the code of an element that stands in a row of the polynomial one
  pub target_code : (r : ℕ) → o.code (target o r) ≡ cond (eqb r 0) 1 0
  target_code r = elim (cases_eq r 0) [
    | inl e ↦
        let yes = eq-eqb r 0 e in
        ap o.code (cond-true (eqb r 0) o.one o.zero yes) ∙ laws.code_one ∙ sym (cond-true (eqb r 0) 1 0 yes)
    | inr e ↦
        let no = ne_eqb r 0 e in
        ap o.code (cond-false (eqb r 0) o.one o.zero no) ∙ laws.code_zero ∙ sym (cond-false (eqb r 0) 1 0 no)
  ]

  -- whether an element has the code of the one that stands in its row of the polynomial one
  abbrev pub row_test : ℕ × F → Bool
  row_test p = eqb (o.code p.1) (cond (eqb p.0 0) 1 0)

  row_decides : (r : ℕ) (x : F) → Decides (row_test (r, x)) (x ≡ target o r)
  row_decides r x = (
    (λ t. laws.code_same x (target o r) (eqb-true (o.code x) (cond (eqb r 0) 1 0) t ∙ sym (target_code r))),
    λ e. eq-eqb (o.code x) (cond (eqb r 0) 1 0) (ap o.code e ∙ target_code r),
  )

  row_first : (n : ℕ) (x : F) (xs : List F) → x ≡ target o n → ((r : ℕ) → r < length xs → get_or xs r o.zero ≡ target o (n + 1 + r)) → (r : ℕ) → r < length (x ∷ xs) → get_or (x ∷ xs) r o.zero ≡ target o (n + r)
  row_first n x xs e rest zero h = let same : n ≡ n + 0 = omega arith in e ∙ ap (target o) same
  row_first n x xs e rest (suc r) h = let same : n + 1 + r ≡ n + suc r = omega arith in rest r (omega (arith, h)) ∙ ap (target o) same

  pub rows_decide : (n : ℕ) (xs : List F) → Decides (list_all row_test (enumerate_from n xs)) ((r : ℕ) → r < length xs → get_or xs r o.zero ≡ target o (n + r))
  rows_decide n [] = ((λ e r h. absurd (omega (arith, h))), λ h. refl)
  rows_decide n (x ∷ xs) =
      let here = row_decides n x in
      let rest = rows_decide (n + 1) xs in
      let more = list_all row_test (enumerate_from (n + 1) xs) in
      elim (cases_Bool (row_test (n, x))) [
        | inl t ↦ (
          (λ e. row_first n x xs (here.0 t) (rest.0 (sym (ap (λ (b : Bool). b && more) t) ∙ e))),
          λ h. ap (λ (b : Bool). b && more) t ∙ rest.1 (λ r l. let same : n + suc r ≡ n + 1 + r = omega arith in h (suc r) (omega (arith, l)) ∙ ap (target o) same),
        )
        | inr f ↦ (
          (λ e. absurd (false≢true (sym (ap (λ (b : Bool). b && more) f) ∙ e))),
          λ h. let same : n + 0 ≡ n = omega arith in absurd (false≢true (sym f ∙ here.1 (h 0 (omega arith) ∙ ap (target o) same))),
        )
      ]

  module _ (n d : ℕ) (eqs : List (List (Term F))) (bytes : List ℕ) where
    pub totals_none : (xs : List F) → ((k : ℕ) → k < count n (d + 3) → get_or xs k o.zero ≡ o.zero) → Totals o n d eqs bytes 0 xs
    totals_none xs blank x m r h = blank (r * 1 + 0) (omega arith)

    -- the coefficient with one product more
    weighted_more : (k : ℕ) (x : ℕ → F) (e : List ℕ)
        → coefficient o (weighted o (k + 1) x (product n d eqs)) e ≡ o.add (coefficient o (weighted o k x (product n d eqs)) e) (coefficient o (scaled o (x k) (product n d eqs k)) e)
    weighted_more k x e =
        ap (λ (j : ℕ). coefficient o (weighted o j x (product n d eqs)) e) (add-one k) ∙ coefficient_append laws (weighted o k x (product n d eqs)) (scaled o (x k) (product n d eqs k)) e

    module _ (k : ℕ) (inside : k < products n d eqs) where
      -- a product that does not stand adds nothing
      pub totals_skip : (xs : List F) → stands bytes k ≡ false → Totals o n d eqs bytes k xs → Totals o n d eqs bytes (k + 1) xs
      totals_skip xs s t x m r h =
          let e = monomial_at n (d + 3) r in
          let sum = coefficient o (weighted o k x (product n d eqs)) e in
          let none : coefficient o (scaled o (x k) (product n d eqs k)) e ≡ o.zero =
          coefficient_scaled laws (x k) (product n d eqs k) e ∙ ap (λ (z : F). o.mul z (coefficient o (product n d eqs k) e)) (m.zeros k inside s) ∙ zero-mul laws (coefficient o (product n d eqs k) e) in
          t x m r h ∙ sym (weighted_more k x e ∙ ap (o.add sum) none ∙ laws.add-zero sum)

      -- one that stands is added by its coefficient
      pub totals_more : (xs ys : List F) (y : F) → stands bytes k ≡ true → o.code y ≡ code_at bytes (products n d eqs) k → Summed o n d 1 0 (scaled o y (product n d eqs k)) xs ys
          → Totals o n d eqs bytes k xs → Totals o n d eqs bytes (k + 1) ys
      totals_more xs ys y s code added t x m r h =
          let e = monomial_at n (d + 3) r in
          let is : y ≡ x k = laws.code_same y (x k) (code ∙ sym (m.others k inside s)) in
          added.there r h
          ∙ ap (λ (z : F). o.add z (coefficient o (scaled o y (product n d eqs k)) e)) (t x m r h)
          ∙ ap (λ (z : F). o.add (coefficient o (weighted o k x (product n d eqs)) e) (coefficient o (scaled o z (product n d eqs k)) e)) is
          ∙ sym (weighted_more k x e)

      -- where its code is none, the bytes stand for no coefficients
      pub totals_never : (xs : List F) → stands bytes k ≡ true → o.size ≤ code_at bytes (products n d eqs) k → Totals o n d eqs bytes (k + 1) xs
      totals_never xs s high x m r h = absurd (omega (arith, laws.code_below (x k), m.others k inside s))

module _ {F : Type 0} {o : Ops F} (laws : Laws o) (n d : ℕ) (eqs : List (List (Term F))) (bytes : List ℕ) (z : Sizes) (first : Grid F) where
  -- The first k products are added into the grid that the loop began with, and the next code stands at the place.
  abbrev pub SoFar : Grid F → ℕ → ℕ → Type 0
  SoFar g place k =
      Held first g × Kept o z.rows (held first) (held g) × (place ≡ 6 + z.map + before bytes k) × Totals o n d eqs bytes k (held g)

  pub so_far_at : {g h : Grid F} {p q : ℕ} (k : ℕ) → h ≡ g → q ≡ p → SoFar g p k → SoFar h q k
  so_far_at {g} {h} {p} {q} k e f s = subst (λ (i : Grid F). SoFar i q k) (sym e) (subst (λ (j : ℕ). SoFar g j k) (sym f) s)

  module _ (is : Measured (length eqs) n d z) (column : first.cols ≡ 1) (k : ℕ) (listed : k < z.products) (g : Grid F) (place : ℕ) (s : SoFar g place k) where
    inside : k < products n d eqs
    inside = subst (λ (s : Sizes). k < s.products) is.is listed

    here : place ≡ 6 + map_bytes (products n d eqs) + before bytes k
    here = s.2 ∙ ap (λ (s : Sizes). 6 + s.map + before bytes k) is.is

    next : stands bytes k ≡ true → place + 1 ≡ 6 + z.map + before bytes (k + 1)
    next t = omega (arith, s.2, before_more bytes k true (sym t))

    pub turn_skip : stands bytes k ≡ false → SoFar g place (k + 1)
    turn_skip f = (s.0, s.1, omega (arith, s.2, before_more bytes k false (sym f)), totals_skip laws n d eqs bytes k inside (held g) f s.3)

    pub turn_never : stands bytes k ≡ true → o.size ≤ byte bytes place → SoFar g (place + 1) (k + 1)
    turn_never t high = (s.0, s.1, next t, totals_never laws n d eqs bytes k inside (held g) t (subst (λ (j : ℕ). o.size ≤ byte bytes j) here high))

    pub turn_more : (h : Grid F) (y : F) → stands bytes k ≡ true → o.code y ≡ byte bytes place → Held g h → Summed o n d g.cols 0 (scaled o y (product n d eqs k)) (held g) (held h) → SoFar h (place + 1) (k + 1)
    turn_more h y t code kept added =
        let one : g.cols ≡ 1 = s.0.cols ∙ column in
        let sum : Summed o n d 1 0 (scaled o y (product n d eqs k)) (held g) (held h) = subst (λ (a : ℕ). Summed o n d a 0 (scaled o y (product n d eqs k)) (held g) (held h)) one added in
        let rows : count n (d + 3) * 1 ≡ z.rows = omega (arith, ap (λ (s : Sizes). s.rows) is.is) in (
          held_then first g h s.0 kept,
          kept_then o z.rows (held first) (held g) (held h) s.1 (subst (λ (a : ℕ). Kept o a (held g) (held h)) rows sum.kept),
          next t,
          totals_more laws n d eqs bytes k inside (held g) (held h) y t (code ∙ ap (byte bytes) here) sum s.3,
        )
