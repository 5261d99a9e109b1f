-- The certificates for four vertices that are all joined: what they add up to, and what their checks answer.
use Rattle.std.proofs.Common.{◌≡◌, ℕ, ◌+◌, ◌<◌, ◌≤◌, Bool, true, false, not, T, eqb, ◌⊎◌, List, [], ◌∷◌, ◌++◌, length, replicate, sym, refl, ◌∙◌, subst, inl, inr, ⊎_elim, arith, lit<, lit≤, eqb→eq, Err}
use Rattle.std.proofs.lemmas.Bool.{both_ways}
use Rattle.fields.specs.Field.{Ops, Laws}
use Rattle.fields.specs.Bit.{bit_ops, bit_laws}
use Rattle.algebra.specs.ZeroOne.{digit}
use Rattle.monomials.specs.Choose.{choose}
use Rattle.monomials.specs.Order.{up_to, exactly}
use Rattle.polynomials.specs.declared.term.Term.{Term}
use Rattle.polynomials.specs.Polynomial.{zeros, Equal, unity}
use Rattle.polynomials.specs.Monomial.{monomial_at}
use Rattle.polynomials.specs.Product.{product, combination}
use Rattle.polynomials.proofs.Values.{one_equal, equal_one}
use Rattle.coloring.specs.Equations.{plain}
use Rattle.certificates.specs.declared.refusal.Refusal.TheVariants.{TableTooSmall, OutputTooSmall, MalformedBody, NotOne}
use Rattle.certificates.specs.Grounds.{First, Clear}
use Rattle.certificates.specs.Sizes.{products, rows}
use Rattle.layout.specs.Reading.{byte, stands, before, Means}
use Rattle.certificates.specs.Checking.{MalformedHeads, Others, BitPast, BadCode, Passes, faults}
use Rattle.nulla.specs.State.{state}
use Rattle.nulla.specs.Steps.{raising, passes, fails, refuses, answers}
use Rattle.worked.specs.Examples.{power, Complete, certificate, whole, last_two, cubed, factored, Checked, Rejected, FieldExamples}
use Rattle.worked.proofs.Settling.{odd, settle, exponents, ones, settled, equal_odd}
use Rattle.worked.proofs.Summing.{each, between, all, plain_all, standing, all_one, stand_for, summed}

-- no ground before that of the length holds
module _ (order first last : ℕ) (codes : List ℕ) where
  head : MalformedHeads (certificate order first last codes) → ⊥
  head (inl h) = omega arith
  head (inr (inl n)) = n refl
  head (inr (inr (inl h))) = omega arith
  head (inr (inr (inr h))) = omega arith

  others : Others order 4 10 (certificate order first last codes) → ⊥
  others (inl n) = n refl
  others (inr (inl n)) = n refl
  others (inr (inr n)) = n refl

small : (1000000 < rows 4 1) ⊎ (1000000 < products 10 4 1) → ⊥
unfolding choose
small = ⊎_elim (λ h. omega arith) (λ h. omega arith)

module _ {F : Type 0} {o : Ops F} (laws : Laws o) (first last : ℕ) (codes : List ℕ) where
  abbrev bytes : List ℕ
  bytes = certificate o.size first last codes

  -- the products that stand
  abbrev stood : List (Term F)
  stood = standing o bytes

  -- what computes of a certificate whose codes are all that of one: it is as long as its map says, no bit past the products stands, and the
  -- products that stand have coefficients one
  pub record Known : Type 0 where
    pub long : length bytes ≡ 13 + before bytes 50
    pub unused : T (each 6 (λ k. not (stands bytes (50 + k))))
    pub units : T (each (length codes) (λ i. eqb (byte bytes (13 + i)) 1))
    pub placed : T (all_one bytes)
    pub simple : stood ≡ ones o (exponents stood)

  module _ (known : Known) where
    -- one is a code, and not that of zero
    bad : (b : ℕ) → b ≡ 1 → (b ≡ 0) ⊎ (o.size ≤ b) → ⊥
    bad b is (inl z) = omega arith
    bad b is (inr z) = omega (arith, laws.code_below o.one, laws.code_one)

    body : BitPast 50 bytes ⊎ BadCode o.size 50 bytes → ⊥
    body (inl (k, h, l, s)) = subst (λ (b : Bool). T (not b)) s (between 50 6 (λ k. not (stands bytes k)) known.unused k h l)
    body (inr (i, h, l, b)) = bad (byte bytes i) (eqb→eq (byte bytes i) 1 (between 13 (length codes) (λ i. eqb (byte bytes i) 1) known.units i h (omega arith))) b

    pub clear : (table : List F) → 70 ≤ length table → Clear (faults o 4 (plain o.one 4 all) bytes table)
    unfolding choose
    clear table l = (head o.size first last codes, (others o.size first last codes, (small, ((λ n. n known.long), (body, ((λ h. omega arith), tt))))))

    -- the sum is q where the products that stand settle to it
    pub comes_to : (q : List (Term F)) → q ≡ ones o (exponents q) → settle (exponents stood) ≡ settle (exponents q) → (x : ℕ → F) → Means o 50 bytes x →
        Equal o (combination o 4 1 (plain o.one 4 all) x) q
    comes_to q b s x m e = summed laws bytes known.placed x m e ∙ settled laws stood q known.simple b s e

    pub is_one : settle (exponents stood) ≡ zeros ∷ [] → Passes o 4 (plain o.one 4 all) bytes
    unfolding choose
    is_one s =
        let x : ℕ → F = λ k. digit o (stands bytes k) in
        let m = stand_for laws bytes known.placed in
        (x, m, equal_one laws (combination o 4 1 (plain o.one 4 all) x) (comes_to (unity o) refl s x m))

    -- where a monomial other than one stands an odd number of times, the sum is not one
    pub is_other : (e : List ℕ) → odd (exponents stood) e ≡ true → odd (zeros ∷ []) e ≡ false → Passes o 4 (plain o.one 4 all) bytes → ⊥
    unfolding choose
    is_other e there absent (x, m, one) =
        both_ways (odd (zeros ∷ []) e) absent
        (sym (equal_odd laws stood (unity o) known.simple refl
        (λ e. sym (summed laws bytes known.placed x m e) ∙ one_equal laws (combination o 4 1 (plain o.one 4 all) x) one e) e) ∙ there)

module _ {F : Type 0} {o : Ops F} (laws : Laws o) where
  whole_known : Known laws 1 1 (replicate 16 1)
  unfolding choose up_to exactly monomial_at product stands before
  whole_known = record { long = refl; unused = tt; units = tt; placed = tt; simple = refl }

  no_last_known : Known laws 1 0 (replicate 15 1)
  unfolding choose up_to exactly monomial_at product stands before
  no_last_known = record { long = refl; unused = tt; units = tt; placed = tt; simple = refl }

  no_first_known : Known laws 0 1 (replicate 15 1)
  unfolding choose up_to exactly monomial_at product stands before
  no_first_known = record { long = refl; unused = tt; units = tt; placed = tt; simple = refl }

  -- what holds of the equations of all pairs holds of those of a graph on which all are joined
  on : (P : List (List (Term F)) → Type 0) (f : ℕ → ℕ → Bool) → Complete f → P (plain o.one 4 all) → P (plain o.one 4 f)
  on P f joined = subst P (plain_all o.one f joined)

  -- a check that comes to its sum, which is not one
  not_one : (first last : ℕ) (codes : List ℕ) → Known laws first last codes → (Passes o 4 (plain o.one 4 all) (certificate o.size first last codes) → ⊥) →
      Checked o (certificate o.size first last codes) (Err NotOne)
  not_one first last codes known other f d b m joined l =
      let bytes = certificate o.size first last codes in
      answers (on (λ eqs. Clear (faults o 4 eqs bytes m.table)) f joined (clear laws first last codes known m.table l))
      (fails (on (λ eqs. Passes o 4 eqs bytes → ⊥) f joined other))

  pub field_examples : FieldExamples o
  unfolding choose up_to exactly monomial_at product stands before
  field_examples = record {
    factors = settled laws (factored o) (cubed o 0 ∷ cubed o 1 ∷ []) refl refl refl;
    ten = λ f joined. on (λ eqs. length eqs ≡ 10) f joined refl;
    passes = λ f d b m joined l.
        answers (on (λ eqs. Clear (faults o 4 eqs (whole o.size) m.table)) f joined (clear laws 1 1 (replicate 16 1) whole_known m.table l))
        (passes (on (λ eqs. Passes o 4 eqs (whole o.size)) f joined (is_one laws 1 1 (replicate 16 1) whole_known refl)));
    no_last = not_one 1 0 (replicate 15 1) no_last_known (is_other laws 1 0 (replicate 15 1) no_last_known (power 2 3) refl refl);
    no_first = not_one 0 1 (replicate 15 1) no_first_known (is_other laws 0 1 (replicate 15 1) no_first_known (power 0 3) refl refl);
    cube = λ f x joined m.
        on (λ eqs. Equal o (combination o 4 1 eqs x) (cubed o 0 ∷ [])) f joined
        (comes_to laws 0 1 (replicate 15 1) no_first_known (cubed o 0 ∷ []) refl refl x m);
    small_table = λ f m joined l.
        refuses (on (λ eqs. First (raising (state 4 f 0 false) (length eqs) (length m.table) (length m.certificate)) TableTooSmall) f joined
        (inr (both_ways false refl, inr ((λ h. omega arith), inr (small, inl (omega arith, refl))))));
    small_output = λ f m joined l k.
        refuses (on (λ eqs. First (raising (state 4 f 0 false) (length eqs) (length m.table) (length m.certificate)) OutputTooSmall) f joined
        (inr (both_ways false refl, inr ((λ h. omega arith), inr (small, inr ((λ h. omega arith), inl (omega arith, refl)))))));
    no_vertex = λ f d b m. refuses (inr (⊎_elim (λ h. omega arith) (λ h. omega arith), inl (inl (lit≤ tt), refl)));
    same_vertex = λ f d b m. refuses (inr (⊎_elim (λ h. omega arith) (λ h. omega arith), inr (⊎_elim (λ h. omega arith) (λ h. omega arith), inl (refl, refl))));
  }

-- over bits, the last code is none
pub two_refused : Rejected bit_ops (last_two 2) MalformedBody
unfolding choose stands before
two_refused f d b m joined =
    let codes : List ℕ = replicate 15 1 ++ 2 ∷ [] in
    refuses (on bit_laws (λ eqs. First (faults bit_ops 4 eqs (last_two 2) m.table) MalformedBody) f joined
    (inr (head 2 1 1 codes, inr (others 2 1 1 codes, inr (small, inr ((λ n. n refl), inl (inr (28, lit≤ tt, lit< tt, inr (lit≤ tt)), refl)))))))
