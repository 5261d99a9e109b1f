-- The bytes of a certificate are well-formed, and stand for the coefficients that they were written for. Assumes nothing.
use Rattle.std.proofs.Common.{◌≡◌, ℕ, zero, suc, ◌+◌, ◌<◌, eqb, List, [], ◌∷◌, ◌++◌, get_or, sym, refl, ap, ◌∙◌, subst, inl, inr, arith}
use Rattle.std.proofs.lemmas.List.{take_at}
use Rattle.std.proofs.lemmas.Bool.{cases_Bool, eqb-true, eqb-false, not-false}
use Rattle.fields.specs.Field.{Ops, Laws}
use Rattle.layout.specs.Length.{map_bytes}
use Rattle.layout.specs.Certificate.{upto, bits, map_of, code_of, codes_of, head_of, bytes_of}
use Rattle.layout.specs.Reading.{Means, WellFormed}
use Rattle.layout.proofs.Bytes.{bits_below}
use Rattle.layout.proofs.Parts.{not_present, present_is, no_code, a_code, before_is, whole_long, stands_is, stands_below, code_is, has_code}

-- every number in a list is a byte
abbrev Small : List ℕ → Type 0
Small xs = (k : ℕ) → get_or xs k 0 < 256

small_none : Small []
small_none k = omega arith

small_one : (v : ℕ) → v < 256 → Small (v ∷ [])
small_one v h zero = h
small_one v h (suc k) = omega arith

small_append : (xs ys : List ℕ) → Small xs → Small ys → Small (xs ++ ys)
small_append [] ys p q k = q k
small_append (x ∷ xs) ys p q zero = p zero
small_append (x ∷ xs) ys p q (suc k) = small_append xs ys (λ j. p (suc j)) q k

small_upto : (g : ℕ → List ℕ) (n : ℕ) → ((k : ℕ) → Small (g k)) → Small (upto g n)
unfolding upto
small_upto g zero h = small_none
small_upto g (suc n) h = small_append (upto g n) (g n) (small_upto g n h) (h n)

module _ {F : Type 0} {o : Ops F} (laws : Laws o) where
  -- a code that is zero is that of zero
  zero_code : (y : F) → o.code y ≡ 0 → y ≡ o.zero
  zero_code y e = laws.code_same y o.zero (e ∙ sym laws.code_zero)

  pub means : (n d e p : ℕ) (x : ℕ → F) → Means o p (bytes_of o p x n d e) x
  means n d e p x = record {
    zeros = λ k h s. zero_code (x k) (eqb-true (o.code (x k)) 0 (not-false (eqb (o.code (x k)) 0) (sym (stands_below o p x n d e k h ∙ present_is o p x k h) ∙ s)));
    others = λ k h s. sym (code_is o p x n d e k h (has_code o p x n d e k h s));
  }

  small_code : (p : ℕ) (x : ℕ → F) (k : ℕ) → Small (code_of o p x k)
  small_code p x k = elim (cases_Bool (eqb (o.code (x k)) 0)) [
    | inl e ↦ subst Small (sym (no_code o p x k e)) small_none
    | inr e ↦ subst Small (sym (a_code o p x k e)) (small_one (o.code (x k)) (omega (arith, laws.code_below (x k), laws.size_small)))
  ]

  small_head : (n d e : ℕ) → n < 256 → d < 256 → e < 65536 → Small (head_of o.size n d e)
  small_head n d e hn hd he zero = omega arith
  small_head n d e hn hd he (suc zero) = omega (arith, laws.size_small)
  small_head n d e hn hd he (suc (suc zero)) = hn
  small_head n d e hn hd he (suc (suc (suc zero))) = hd
  small_head n d e hn hd he (suc (suc (suc (suc zero)))) = omega arith
  small_head n d e hn hd he (suc (suc (suc (suc (suc zero))))) = omega arith
  small_head n d e hn hd he (suc (suc (suc (suc (suc (suc k)))))) = omega arith

  small_bytes : (n d e p : ℕ) (x : ℕ → F) → n < 256 → d < 256 → e < 65536 → Small (bytes_of o p x n d e)
  small_bytes n d e p x hn hd he =
      small_append (head_of o.size n d e) (map_of o p x ++ codes_of o p x) (small_head n d e hn hd he)
      (small_append (map_of o p x) (codes_of o p x)
      (small_upto (λ b. bits o p x b 8 ∷ []) (map_bytes p) (λ b. small_one (bits o p x b 8) (bits_below o p x b 8)))
      (small_upto (code_of o p x) p (small_code p x)))

  pub written : (n d e p : ℕ) (x : ℕ → F) → n < 256 → d < 256 → e < 65536 → WellFormed o n d e p (bytes_of o p x n d e)
  written n d e p x hn hd he = record {
    small = λ k _. small_bytes n d e p x hn hd he k;
    head = take_at (head_of o.size n d e) (map_of o p x ++ codes_of o p x) 6 refl;
    long = whole_long o p x n d e ∙ ap (λ (m : ℕ). 6 + map_bytes p + m) (sym (before_is o p x (bytes_of o p x n d e) (stands_below o p x n d e) p (omega arith)));
    unused = λ k h l. stands_is o p x n d e k l ∙ not_present o p x k h;
    codes = λ k h s.
        let there = has_code o p x n d e k h s in
        let is = code_is o p x n d e k h there in
        let nonzero : o.code (x k) ≡ 0 → ⊥ = eqb-false (o.code (x k)) 0 there in
        (omega (arith, is, nonzero), omega (arith, is, laws.code_below (x k)));
  }
