-- A vector is a combination of given columns, or a witness shows that it is none; and a combination can do with independent columns.
use Rattle.std.proofs.Common.{◌≡◌, ℕ, zero, suc, ◌<◌, cond, eqb, ◌⊎◌, sym, refl, ap, ◌∙◌, subst, inl, inr, arith}
use Rattle.std.proofs.lemmas.Bool.{cases_eq, eq-eqb, ne_eqb, cond-true, cond-false}
use Rattle.fields.specs.Field.{Ops, Laws}
use Rattle.algebra.specs.Linear.{sum, dot, Represents, ColumnComb, Dependent, OnIndependent, Witness}
use Rattle.algebra.proofs.Sums.{sum_same, sum_zero, sum_add, sum_mul, sum_swap, sum_unit, unit, add-mul, zero-mul, mul-zero, add_back}
use Rattle.algebra.proofs.ColumnCombinations.{turn, zero_or_not}

module _ {F : Type 0} {o : Ops F} (laws : Laws o) (rows : ℕ) where
  -- some of the first n numbers is not sent to zero, or all are
  some_nonzero : (n : ℕ) (v : ℕ → F) → ((r : ℕ) × ((r < n) × (v r ≡ o.zero → ⊥))) ⊎ ((r : ℕ) → r < n → v r ≡ o.zero)
  some_nonzero zero v = inr (λ r h. absurd (omega arith))
  some_nonzero (suc n) v =
      elim (zero_or_not laws (v n)) [
        | inr w ↦ inl (n, (omega arith, w))
        | inl e ↦ elim (some_nonzero n v) [
          | inl p ↦ inl (p.0, (omega (arith, p.1.0), p.1.1))
          | inr z ↦ inr (λ r h. elim (cases_eq r n) [ inl s ↦ ap v s ∙ e | inr s ↦ z r (omega arith) ])
        ]
      ]

  dot_scaled : (a : F) (w v : ℕ → F) → dot o rows (λ r. o.mul a (w r)) v ≡ o.mul a (dot o rows w v)
  dot_scaled a w v =
      sum_same laws rows (λ r. o.mul (o.mul a (w r)) (v r)) (λ r. o.mul a (o.mul (w r) (v r))) (λ r h. laws.mul_assoc a (w r) (v r))
      ∙ sum_mul laws rows a (λ r. o.mul (w r) (v r))

  -- a multiple added on the left, and on the right
  dot_left : (a : F) (w u v : ℕ → F) → dot o rows (λ r. o.add (w r) (o.mul a (u r))) v ≡ o.add (dot o rows w v) (o.mul a (dot o rows u v))
  dot_left a w u v =
      sum_same laws rows (λ r. o.mul (o.add (w r) (o.mul a (u r))) (v r)) (λ r. o.add (o.mul (w r) (v r)) (o.mul (o.mul a (u r)) (v r))) (λ r h. add-mul laws (w r) (o.mul a (u r)) (v r))
      ∙ sum_add laws rows (λ r. o.mul (w r) (v r)) (λ r. o.mul (o.mul a (u r)) (v r))
      ∙ ap (o.add (dot o rows w v)) (dot_scaled a u v)

  dot_right : (a : F) (w v y : ℕ → F) → dot o rows w (λ r. o.add (v r) (o.mul a (y r))) ≡ o.add (dot o rows w v) (o.mul a (dot o rows w y))
  dot_right a w v y =
      sum_same laws rows (λ r. o.mul (w r) (o.add (v r) (o.mul a (y r)))) (λ r. o.add (o.mul (w r) (v r)) (o.mul a (o.mul (w r) (y r))))
      (λ r h. laws.mul-add (w r) (v r) (o.mul a (y r)) ∙ ap (o.add (o.mul (w r) (v r))) (turn laws (w r) a (y r)))
      ∙ sum_add laws rows (λ r. o.mul (w r) (v r)) (λ r. o.mul a (o.mul (w r) (y r)))
      ∙ ap (o.add (dot o rows w v)) (sum_mul laws rows a (λ r. o.mul (w r) (y r)))

  -- x, but a at k
  abbrev pub extended : (ℕ → F) → ℕ → F → ℕ → F
  extended x k a c = cond (eqb c k) a (x c)

  pub extended_here : (x : ℕ → F) (k : ℕ) (a : F) → extended x k a k ≡ a
  extended_here x k a = cond-true (eqb k k) a (x k) (eq-eqb k k refl)

  pub extended_other : (x : ℕ → F) (k : ℕ) (a : F) (c : ℕ) → (c ≡ k → ⊥) → extended x k a c ≡ x c
  extended_other x k a c n = cond-false (eqb c k) a (x c) (ne_eqb c k n)

  -- one more column, with its coefficient
  pub represents_more : (k : ℕ) (m : ℕ → ℕ → F) (x v : ℕ → F) (a : F) → Represents o rows k m x v
      → Represents o rows (suc k) m (extended x k a) (λ r. o.add (v r) (o.mul a (m r k)))
  represents_more k m x v a p r h =
      let y = extended x k a in
      ap (λ s. o.add s (o.mul a (m r k)))
      (p r h ∙ sum_same laws k (λ c. o.mul (x c) (m r c)) (λ c. o.mul (y c) (m r c)) (λ c l. ap (λ z. o.mul z (m r c)) (sym (extended_other x k a c (λ e. omega arith)))))
      ∙ ap (λ z. o.add (sum o k (λ c. o.mul (y c) (m r c))) (o.mul z (m r k))) (sym (extended_here x k a))

  represents_same : (k : ℕ) (m : ℕ → ℕ → F) (x v u : ℕ → F) → ((r : ℕ) → u r ≡ v r) → Represents o rows k m x v → Represents o rows k m x u
  represents_same k m x v u e p r h = e r ∙ p r h

  plus_nothing : (a b : F) → a ≡ o.add a (o.mul o.zero b)
  plus_nothing a b = sym (ap (o.add a) (zero-mul laws b) ∙ laws.add-zero a)

  -- a column that has no part in it
  pub represents_idle : (k : ℕ) (m : ℕ → ℕ → F) (x v : ℕ → F) → Represents o rows k m x v → Represents o rows (suc k) m (extended x k o.zero) v
  represents_idle k m x v p =
      represents_same (suc k) m (extended x k o.zero) (λ r. o.add (v r) (o.mul o.zero (m r k))) v (λ r. plus_nothing (v r) (m r k)) (represents_more k m x v o.zero p)

  below_suc : (k : ℕ) (P : ℕ → Type 0) → ((c : ℕ) → c < k → P c) → P k → (c : ℕ) → c < suc k → P c
  below_suc k P p q c h = elim (cases_eq c k) [ inl e ↦ subst P (sym e) q | inr n ↦ p c (omega arith) ]

  -- no column at all: a cell that is not zero is a witness
  alone : (v : ℕ → F) (r : ℕ) → r < rows → (v r ≡ o.zero → ⊥) → dot o rows (λ i. o.mul (o.inv (v r)) (unit laws r i)) v ≡ o.one
  alone v r h n =
      dot_scaled (o.inv (v r)) (unit laws r) v ∙ ap (o.mul (o.inv (v r))) (sum_unit laws rows r v h)
      ∙ laws.mul_comm (o.inv (v r)) (v r) ∙ laws.mul-inv (v r) n

  pub alternative : (k : ℕ) (m : ℕ → ℕ → F) (v : ℕ → F) → ColumnComb o rows k m v ⊎ ((w : ℕ → F) × Witness o rows k m v w)
  alternative zero m v =
      elim (some_nonzero rows v) [
        | inr z ↦ inl ((λ c. o.zero), z)
        | inl p ↦ inr ((λ i. o.mul (o.inv (v p.0)) (unit laws p.0 i)), record { orthogonal = λ c h. absurd (omega arith); one = alone v p.0 p.1.0 p.1.1 })
      ]
  alternative (suc k) m v =
      elim (alternative k m v) [
        | inl p ↦ inl (extended p.0 k o.zero, represents_idle k m p.0 v p.1)
        | inr p ↦
            let w = p.0 in
            let last : ℕ → F = λ r. m r k in
            let t = dot o rows w last in
            elim (zero_or_not laws t) [
              | inl e ↦ inr (w, record { orthogonal = below_suc k (λ c. dot o rows w (λ r. m r c) ≡ o.zero) p.1.orthogonal e; one = p.1.one })
              | inr n ↦
                  let u : ℕ → F = λ r. o.mul (o.inv t) (w r) in
                  let a = dot o rows u v in
                  let u-zero : (c : ℕ) → c < k → dot o rows u (λ r. m r c) ≡ o.zero = λ c h.
                  dot_scaled (o.inv t) w (λ r. m r c) ∙ ap (o.mul (o.inv t)) (p.1.orthogonal c h) ∙ mul-zero laws (o.inv t) in
                  let u-one : dot o rows u last ≡ o.one = dot_scaled (o.inv t) w last ∙ laws.mul_comm (o.inv t) t ∙ laws.mul-inv t n in
                  let rest : ℕ → F = λ r. o.add (v r) (o.mul a (m r k)) in
                  elim (alternative k m rest) [
                    | inl q ↦ inl (
                      extended q.0 k a,
                      represents_same (suc k) m (extended q.0 k a) (λ r. o.add (rest r) (o.mul a (m r k))) v (λ r. sym (add_back laws (v r) (o.mul a (m r k)))) (represents_more k m q.0 rest a q.1),
                    )
                    | inr q ↦
                        let b = dot o rows q.0 last in
                        inr (
                          (λ r. o.add (q.0 r) (o.mul b (u r))),
                          record {
                            orthogonal = below_suc k (λ c. dot o rows (λ r. o.add (q.0 r) (o.mul b (u r))) (λ r. m r c) ≡ o.zero)
                                (λ c h.
                                dot_left b q.0 u (λ r. m r c) ∙ ap (λ s. o.add s (o.mul b (dot o rows u (λ r. m r c)))) (q.1.orthogonal c h)
                                ∙ ap (λ s. o.add o.zero (o.mul b s)) (u-zero c h) ∙ ap (o.add o.zero) (mul-zero laws b) ∙ laws.add-zero o.zero)
                                (dot_left b q.0 u last ∙ ap (λ s. o.add b (o.mul b s)) u-one ∙ ap (o.add b) (laws.mul-one b) ∙ laws.add_self b);
                            one =
                                dot_left b q.0 u v ∙ ap (o.add (dot o rows q.0 v)) (laws.mul_comm b a)
                                ∙ sym (dot_right a q.0 v last) ∙ q.1.one;
                          },
                        )
                  ]
            ]
      ]

  pub never_both : (k : ℕ) (m : ℕ → ℕ → F) (v : ℕ → F) → ColumnComb o rows k m v → (w : ℕ → F) → Witness o rows k m v w → ⊥
  never_both k m v p w q =
      let x = p.0 in
      let nothing : dot o rows w v ≡ o.zero =
      sum_same laws rows (λ r. o.mul (w r) (v r)) (λ r. sum o k (λ c. o.mul (x c) (o.mul (w r) (m r c))))
      (λ r h.
      ap (o.mul (w r)) (p.1 r h) ∙ sym (sum_mul laws k (w r) (λ c. o.mul (x c) (m r c)))
      ∙ sum_same laws k (λ c. o.mul (w r) (o.mul (x c) (m r c))) (λ c. o.mul (x c) (o.mul (w r) (m r c))) (λ c l. turn laws (w r) (x c) (m r c)))
      ∙ sum_swap laws rows k (λ r c. o.mul (x c) (o.mul (w r) (m r c)))
      ∙ sum_same laws k (λ c. sum o rows (λ r. o.mul (x c) (o.mul (w r) (m r c)))) (λ c. o.zero)
      (λ c l. sum_mul laws rows (x c) (λ r. o.mul (w r) (m r c)) ∙ ap (o.mul (x c)) (q.orthogonal c l) ∙ mul-zero laws (x c))
      ∙ sum_zero laws k in
      laws.one_not_zero (sym q.one ∙ nothing)

  -- the column k in place of itself: its coefficient goes to the columns that give it
  replaced : (k : ℕ) (m : ℕ → ℕ → F) (v x d : ℕ → F) → Represents o rows (suc k) m x v → Represents o rows k m d (λ r. m r k)
      → Represents o rows k m (λ c. o.add (x c) (o.mul (x k) (d c))) v
  replaced k m v x d p q r h =
      p r h
      ∙ ap (λ s. o.add (sum o k (λ c. o.mul (x c) (m r c))) s)
      (ap (o.mul (x k)) (q r h) ∙ sym (sum_mul laws k (x k) (λ c. o.mul (d c) (m r c)))
      ∙ sum_same laws k (λ c. o.mul (x k) (o.mul (d c) (m r c))) (λ c. o.mul (o.mul (x k) (d c)) (m r c)) (λ c l. sym (laws.mul_assoc (x k) (d c) (m r c))))
      ∙ sym (sum_add laws k (λ c. o.mul (x c) (m r c)) (λ c. o.mul (o.mul (x k) (d c)) (m r c)))
      ∙ sum_same laws k (λ c. o.add (o.mul (x c) (m r c)) (o.mul (o.mul (x k) (d c)) (m r c))) (λ c. o.mul (o.add (x c) (o.mul (x k) (d c))) (m r c))
      (λ c l. sym (add-mul laws (x c) (o.mul (x k) (d c)) (m r c)))

  extended_independent : (k : ℕ) (m : ℕ → ℕ → F) (x : ℕ → F) (a : F) → OnIndependent o rows k m x → (Dependent o rows m k → a ≡ o.zero) → OnIndependent o rows (suc k) m (extended x k a)
  extended_independent k m x a p q =
      below_suc k (λ c. Dependent o rows m c → extended x k a c ≡ o.zero)
      (λ c h d. extended_other x k a c (λ e. omega arith) ∙ p c h d)
      (λ d. extended_here x k a ∙ q d)

  pub independent_suffice : (k : ℕ) (m : ℕ → ℕ → F) (v : ℕ → F) → ColumnComb o rows k m v → (x : ℕ → F) × (Represents o rows k m x v × OnIndependent o rows k m x)
  independent_suffice zero m v p = (p.0, (p.1, λ c h d. absurd (omega arith)))
  independent_suffice (suc k) m v p =
      let x = p.0 in
      elim (alternative k m (λ r. m r k)) [
        | inl d ↦
            let s = independent_suffice k m v ((λ c. o.add (x c) (o.mul (x k) (d.0 c))), replaced k m v x d.0 p.1 d.1) in
            (extended s.0 k o.zero, (represents_idle k m s.0 v s.1.0, extended_independent k m s.0 o.zero s.1.1 (λ e. refl)))
        | inr w ↦
            let front : ℕ → F = λ r. sum o k (λ c. o.mul (x c) (m r c)) in
            let s = independent_suffice k m front (x, λ r h. refl) in (
              extended s.0 k (x k),
              (
                (λ r h. p.1 r h ∙ represents_more k m s.0 front (x k) s.1.0 r h),
                extended_independent k m s.0 (x k) s.1.1 (λ e. absurd (never_both k m (λ r. m r k) e w.0 w.1)),
              ),
            )
      ]
