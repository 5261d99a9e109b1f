-- From coefficients in front of a table to a written certificate, and from a blanked grid to a cleared table.
-- Assumes nothing.
use Rattle.std.proofs.Common.{◌≡◌, ℕ, zero, suc, ◌+◌, ◌-◌, ◌<◌, ◌≤◌, ◌⊎◌, List, ◌++◌, length, get_or, take, drop, replicate, Some, None, Option, MatchOption, sym, refl, ap, ◌∙◌, subst, inl, inr, arith, length-append, length-drop, length-take, get_or-drop, get_or-take}
use Rattle.std.proofs.lemmas.Bool.{cases_lt}
use Rattle.std.proofs.lemmas.List.{get_or_append_left, get_or-append_right, length-replicate, get_or-replicate}
use Rattle.fields.specs.Field.{Ops}
use Rattle.algebra.specs.Grid.{Blank, Kept}
use Rattle.polynomials.specs.declared.term.Term.{Term}
use Rattle.polynomials.specs.Polynomial.{IsOne, scaled}
use Rattle.polynomials.specs.Product.{product, products, weighted, combination}
use Rattle.layout.specs.Certificate.{bytes_of, over}
use Rattle.certificates.specs.declared.verdict.Verdict.{Verdict}
use Rattle.certificates.specs.declared.verdict.Verdict.TheVariants.{Infeasible, Open}
use Rattle.certificates.specs.Outcome.{memory, Chosen, Sought, written, cleared, Worked, certified, uncertified}
use Rattle.layout.specs.Length.{certificate_bytes}
use Rattle.layout.specs.Written.{Stored}
use Rattle.certificates.proofs.Lists.{same_places}

module _ {F : Type 0} (o : Ops F) where
  weighted_same : (k : ℕ) (x y : ℕ → F) (f : ℕ → List (Term F)) → ((p : ℕ) → p < k → x p ≡ y p) → weighted o k x f ≡ weighted o k y f
  weighted_same zero x y f h = refl
  weighted_same (suc k) x y f h =
      ap (λ (q : List (Term F)). q ++ scaled o (x k) (f k)) (weighted_same k x y f (λ p l. h p (omega arith))) ∙ ap (λ (z : F). weighted o k y f ++ scaled o z (f k)) (h k (omega arith))

  -- coefficients that agree at the products are chosen alike
  chosen_same : (n d : ℕ) (eqs : List (List (Term F))) (x y : ℕ → F) → ((p : ℕ) → p < products n d eqs → x p ≡ y p) → Chosen o n d eqs x → Chosen o n d eqs y
  unfolding combination
  chosen_same n d eqs x y h c = record {
    sums = subst (IsOne o) (weighted_same (products n d eqs) x y (product n d eqs) h) c.sums;
    independent = λ p l w. sym (h p l) ∙ c.independent p l w;
    only = λ z one uses p l. c.only z one uses p l ∙ h p l;
  }

  -- the coefficients are written
  pub stored_sought : (n d : ℕ) (eqs : List (List (Term F))) (xs : List F) (p : ℕ) (before : List ℕ) (r : Option ℕ) (after : List ℕ) → p ≡ products n d eqs → p ≤ length xs → p ≤ 1000000
      → length eqs ≤ 65535 → certificate_bytes p ≤ length before → Chosen o n d eqs (λ k. get_or xs k o.zero)
      → Stored o (take p xs) n d (length eqs) before r after → Sought o n d eqs before r after
  stored_sought n d eqs xs p before None after e h small few room c s =
      let long : length (take p xs) ≡ p = length-take p xs ∙ omega arith in
      absurd (never s.0 long)
    where
      never : (1000000 < length (take p xs)) ⊎ (65535 < length eqs) ⊎ (length before < certificate_bytes (length (take p xs))) → length (take p xs) ≡ p → ⊥
      never (inl x) long = omega (arith, long)
      never (inr (inl x)) long = omega arith
      never (inr (inr x)) long = let y : length before < certificate_bytes p = subst (λ (k : ℕ). length before < certificate_bytes k) long x in omega arith
  stored_sought n d eqs xs p before (Some k) after e h small few room c s =
      let long : length (take p xs) ≡ products n d eqs = length-take p xs ∙ omega (arith, e) in
      let x : ℕ → F = λ q. get_or (take p xs) q o.zero in
      let same : bytes_of o (length (take p xs)) x n d (length eqs) ≡ written o n d eqs x = ap (λ (q : ℕ). bytes_of o q x n d (length eqs)) long in
      (x, chosen_same n d eqs (λ q. get_or xs q o.zero) x (λ q l. sym (get_or-take p xs q o.zero (omega (arith, e)))) c, s.1 ∙ ap length same, s.2 ∙ ap (λ (b : List ℕ). over b before) same)

  -- the table after its first part is blank
  pub blank_table : (k : ℕ) (xs ys : List F) → k ≤ length xs → Blank o k xs ys → ys ≡ replicate k o.zero ++ drop k xs
  blank_table k xs ys h b =
      let long : length (replicate k o.zero ++ drop k xs) ≡ length xs = omega (arith, length-append (replicate k o.zero) (drop k xs), length-replicate k o.zero, length-drop k xs) in
      same_places o.zero ys (replicate k o.zero ++ drop k xs) (b.kept.long ∙ sym long) places
    where
      places : (i : ℕ) → i < length ys → get_or ys i o.zero ≡ get_or (replicate k o.zero ++ drop k xs) i o.zero
      places i l = elim (cases_lt i k) [
        | inl a ↦ b.zeros i a ∙ sym (get_or_append_left (replicate k o.zero) (drop k xs) o.zero i (omega (arith, length-replicate k o.zero)) ∙ get_or-replicate k i o.zero o.zero a)
        | inr a ↦
            b.kept.beyond i a
            ∙ sym (get_or-append_right (replicate k o.zero) (drop k xs) k i o.zero (length-replicate k o.zero) a ∙ get_or-drop k xs (i - k) o.zero ∙ ap (λ (j : ℕ). get_or xs j o.zero) (omega arith))
      ]

  -- through what was kept before
  pub blank_after : (k : ℕ) (xs ys zs : List F) → k ≤ length xs → Kept o k xs ys → zs ≡ replicate k o.zero ++ drop k ys → zs ≡ replicate k o.zero ++ drop k xs
  blank_after k xs ys zs h p e =
      e ∙ ap (λ (r : List F). replicate k o.zero ++ r)
      (same_places o.zero (drop k ys) (drop k xs) (length-drop k ys ∙ ap (λ (n : ℕ). n - k) p.long ∙ sym (length-drop k xs))
      (λ i l. get_or-drop k ys i o.zero ∙ p.beyond (k + i) (omega arith) ∙ sym (get_or-drop k xs i o.zero)))

  -- a verdict from what was sought, with the table cleared
  worked_some : (n d : ℕ) (eqs : List (List (Term F))) (table after_table : List F) (before after : List ℕ) (k : ℕ) → after_table ≡ cleared o n d eqs table → Sought o n d eqs before (Some k) after
      → Worked o n d eqs (memory table before) (Infeasible d k) (memory after_table after)
  worked_some n d eqs table after_table before after k e (x, c, p, q) =
      subst (λ (t : List F). Worked o n d eqs (memory table before) (Infeasible d k) (memory t after)) (sym e)
      (subst (λ (b : List ℕ). Worked o n d eqs (memory table before) (Infeasible d k) (memory (cleared o n d eqs table) b)) (sym q)
      (subst (λ (j : ℕ). Worked o n d eqs (memory table before) (Infeasible d j) (memory (cleared o n d eqs table) (over (written o n d eqs x) before))) (sym p) (certified x c)))

  worked_none : (n d : ℕ) (eqs : List (List (Term F))) (table after_table : List F) (before after : List ℕ) → after_table ≡ cleared o n d eqs table → Sought o n d eqs before None after
      → Worked o n d eqs (memory table before) (Open d) (memory after_table after)
  worked_none n d eqs table after_table before after e (c, q) =
      subst (λ (t : List F). Worked o n d eqs (memory table before) (Open d) (memory t after)) (sym e)
      (subst (λ (b : List ℕ). Worked o n d eqs (memory table before) (Open d) (memory (cleared o n d eqs table) b)) (sym q) (uncertified c))

  -- a verdict from what was sought, whether it was found or not
  pub worked : (n d : ℕ) (eqs : List (List (Term F))) (table after_table : List F) (before after : List ℕ) (found : Option ℕ) (v : Verdict) → MatchOption found (v ≡ Open d) (λ k. v ≡ Infeasible d k)
      → after_table ≡ cleared o n d eqs table → Sought o n d eqs before found after → Worked o n d eqs (memory table before) v (memory after_table after)
  worked n d eqs table after_table before after None v is e s =
      subst (λ (w : Verdict). Worked o n d eqs (memory table before) w (memory after_table after)) (sym is) (worked_none n d eqs table after_table before after e s)
  worked n d eqs table after_table before after (Some k) v is e s =
      subst (λ (w : Verdict). Worked o n d eqs (memory table before) w (memory after_table after)) (sym is) (worked_some n d eqs table after_table before after k e s)
