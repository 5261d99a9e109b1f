-- The sum of the products of a certificate whose coefficients are zeros and ones, on four vertices that are all joined.
use Rattle.std.proofs.Common.{◌≡◌, ℕ, zero, suc, ◌+◌, ◌-◌, ◌<◌, ◌≤◌, Bool, true, false, cond, ◌&&◌, T, eqb, List, [], ◌++◌, map, sym, refl, ap, ◌∙◌, subst, inl, inr, arith, lit<, eqb→eq}
use Rattle.std.proofs.lemmas.Bool.{cases_Bool, cases_lt}
use Rattle.fields.specs.Field.{Ops, Laws}
use Rattle.fields.specs.Bools.{and_first, and_second}
use Rattle.algebra.specs.ZeroOne.{digit}
use Rattle.algebra.proofs.Sums.{zero-mul, one-mul}
use Rattle.monomials.specs.Choose.{choose}
use Rattle.polynomials.specs.declared.term.Term.{Term}
use Rattle.polynomials.specs.Polynomial.{coefficient, Equal, scaled}
use Rattle.polynomials.specs.Product.{product, weighted, combination}
use Rattle.polynomials.proofs.Coefficients.{coefficient_append, coefficient_scaled}
use Rattle.coloring.specs.Pairs.{pairs, upto}
use Rattle.coloring.specs.Equations.{cubes, edge, plain}
use Rattle.layout.specs.Reading.{stands, code_at, Means}
use Rattle.worked.specs.Examples.{Complete}

-- a test that passes at each number below n
abbrev pub each : ℕ → (ℕ → Bool) → Bool
each zero f = true
each (suc n) f = each n f && f n

each_at : (n : ℕ) (f : ℕ → Bool) → T (each n f) → (k : ℕ) → k < n → T (f k)
each_at zero f t k h = absurd (omega arith)
each_at (suc n) f t k h = elim (cases_lt k n) [
  | inl l ↦ each_at n f (and_first (each n f) (f n) t) k l
  | inr l ↦ subst (λ (j : ℕ). T (f j)) (omega arith) (and_second (each n f) (f n) t)
]

-- and at each of n numbers from m on
pub between : (m n : ℕ) (f : ℕ → Bool) → T (each n (λ k. f (m + k))) → (k : ℕ) → m ≤ k → k < m + n → T (f k)
between m n f t k h l = subst (λ (j : ℕ). T (f j)) (omega arith) (each_at n (λ k. f (m + k)) t (k - m) (omega arith))

-- every pair is joined
abbrev pub all : ℕ → ℕ → Bool
all i j = true

pairs_all : (f : ℕ → ℕ → Bool) → Complete f → pairs f 4 ≡ pairs all 4
pairs_all f h = rw (h 0 1 (lit< tt) (lit< tt), h 0 2 (lit< tt) (lit< tt), h 0 3 (lit< tt) (lit< tt), h 1 2 (lit< tt) (lit< tt), h 1 3 (lit< tt) (lit< tt), h 2 3 (lit< tt) (lit< tt))

pub plain_all : {C : Type 0} (one : C) (f : ℕ → ℕ → Bool) → Complete f → plain one 4 all ≡ plain one 4 f
plain_all one f h = ap (λ ps. upto (cubes one) 4 ++ map (edge one) ps) (sym (pairs_all f h))

-- those of the first k polynomials whose bit stands, added up
abbrev kept : {F : Type 0} → ℕ → (ℕ → Bool) → (ℕ → List (Term F)) → List (Term F)
kept zero b f = []
kept (suc k) b f = kept k b f ++ cond (b k) (f k) []

-- the products that stand, added up
abbrev pub standing : {F : Type 0} → Ops F → List ℕ → List (Term F)
standing o bytes = kept 50 (stands bytes) (product 4 1 (plain o.one 4 all))

-- each code of a product that stands is that of one
abbrev pub all_one : List ℕ → Bool
all_one bytes = each 50 (λ k. cond (stands bytes k) (eqb (code_at bytes 50 k) 1) true)

code_one : (bytes : List ℕ) → T (all_one bytes) → (k : ℕ) → k < 50 → stands bytes k ≡ true → code_at bytes 50 k ≡ 1
code_one bytes t k h s =
    eqb→eq (code_at bytes 50 k) 1
    (subst (λ (b : Bool). T (cond b (eqb (code_at bytes 50 k) 1) true)) s (each_at 50 (λ k. cond (stands bytes k) (eqb (code_at bytes 50 k) 1) true) t k h))

module _ {F : Type 0} {o : Ops F} (laws : Laws o) where
  coefficient_kept : (b : Bool) (p : List (Term F)) (e : List ℕ) → o.mul (digit o b) (coefficient o p e) ≡ coefficient o (cond b p []) e
  coefficient_kept true p e = one-mul laws (coefficient o p e)
  coefficient_kept false p e = zero-mul laws (coefficient o p e)

  -- a sum by zeros and ones has the polynomials that stand
  weighted_kept : (k : ℕ) (x : ℕ → F) (b : ℕ → Bool) (f : ℕ → List (Term F)) → ((p : ℕ) → p < k → x p ≡ digit o (b p)) →
      Equal o (weighted o k x f) (kept k b f)
  weighted_kept zero x b f h e = refl
  weighted_kept (suc k) x b f h e =
      coefficient_append laws (weighted o k x f) (scaled o (x k) (f k)) e
      ∙ ap (λ (s : F). o.add s (coefficient o (scaled o (x k) (f k)) e)) (weighted_kept k x b f (λ p l. h p (omega arith)) e)
      ∙ ap (o.add (coefficient o (kept k b f) e))
      (coefficient_scaled laws (x k) (f k) e ∙ ap (λ (s : F). o.mul s (coefficient o (f k) e)) (h k (omega arith)) ∙ coefficient_kept (b k) (f k) e)
      ∙ sym (coefficient_append laws (kept k b f) (cond (b k) (f k) []) e)

  module _ (bytes : List ℕ) (t : T (all_one bytes)) where
    -- the coefficients that the bytes stand for
    pub stand_for : Means o 50 bytes (λ k. digit o (stands bytes k))
    stand_for = record {
      zeros = λ k h s. ap (digit o) s;
      others = λ k h s. ap (λ (b : Bool). o.code (digit o b)) s ∙ laws.code_one ∙ sym (code_one bytes t k h s);
    }

    -- and no others
    digits_only : (x : ℕ → F) → Means o 50 bytes x → (k : ℕ) → k < 50 → x k ≡ digit o (stands bytes k)
    digits_only x m k h = elim (cases_Bool (stands bytes k)) [
      | inl s ↦ laws.code_same (x k) o.one (m.others k h s ∙ code_one bytes t k h s ∙ sym laws.code_one) ∙ ap (digit o) (sym s)
      | inr s ↦ m.zeros k h s ∙ ap (digit o) (sym s)
    ]

    -- the products by those coefficients are the products that stand
    pub summed : (x : ℕ → F) → Means o 50 bytes x → Equal o (combination o 4 1 (plain o.one 4 all) x) (standing o bytes)
    unfolding combination choose
    summed x m = weighted_kept 50 x (stands bytes) (product 4 1 (plain o.one 4 all)) (digits_only x m)
