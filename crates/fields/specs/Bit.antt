-- The field of two elements: the sum is exclusive or, the product is and. Assumes nothing.
use Rattle.std.specs.Prelude.{◌≡◌, ℕ, zero, suc, ◌<◌, Bool, true, false, cond, ◌&&◌, T, refl}
use Rattle.std.proofs.Common.{sym, ap, ◌∙◌, arith, lit<, lit≤}
use Rattle.fields.specs.Field.{Ops, Laws}
use Rattle.fields.specs.Bools.{xor, agree, agree_is, every, every_at}
use Rattle.fields.specs.declared.bit.Bit.{Bit}

abbrev pub bit_code : Bit → ℕ
bit_code x = cond x.set 1 0

abbrev pub bit_ops : Ops Bit
bit_ops = record {
  zero = record { set = false };
  one = record { set = true };
  add = λ x y. record { set = xor x.set y.set };
  mul = λ x y. record { set = x.set && y.set };
  inv = λ x. x;
  code = bit_code;
  size = 2;
}

same : (x y : Bit) → x.set ≡ y.set → x ≡ y
same x y e = ap (λ (b : Bool). record { set = b }) e

-- an equation of one, two and three bits, from its test at all of them
one_of : (f g : Bool → Bool) → T (every (λ a. agree (f a) (g a))) → (a : Bool) → f a ≡ g a
one_of f g t a = agree_is (f a) (g a) (every_at (λ a. agree (f a) (g a)) t a)

two_of : (f g : Bool → Bool → Bool) → T (every (λ a. every (λ b. agree (f a b) (g a b)))) → (a b : Bool) → f a b ≡ g a b
two_of f g t a b = one_of (f a) (g a) (every_at (λ a. every (λ b. agree (f a b) (g a b))) t a) b

three_of : (f g : Bool → Bool → Bool → Bool) → T (every (λ a. every (λ b. every (λ c. agree (f a b c) (g a b c))))) → (a b c : Bool) → f a b c ≡ g a b c
three_of f g t a b c = two_of (f a) (g a) (every_at (λ a. every (λ b. every (λ c. agree (f a b c) (g a b c)))) t a) b c

inverse : (a : Bool) → (◌≡◌ {A = Bit} (record { set = a }) (record { set = false }) → ⊥) → a && a ≡ true
inverse true n = refl
inverse false n = absurd (n refl)

set_of : ℕ → Bool
set_of zero = false
set_of (suc n) = true

set_of_code : (a : Bool) → set_of (cond a 1 0) ≡ a
unfolding set_of
set_of_code true = refl
set_of_code false = refl

below : (a : Bool) → cond a 1 0 < 2
below true = lit< tt
below false = lit< tt

onto : (c : ℕ) → c < 2 → (x : Bit) × (bit_code x ≡ c)
onto zero h = (record { set = false }, refl)
onto (suc zero) h = (record { set = true }, refl)
onto (suc (suc c)) h = absurd (omega arith)

pub bit_laws : Laws bit_ops
bit_laws = record {
  add_comm = λ x y. same _ _ (two_of xor (λ a b. xor b a) tt x.set y.set);
  add_assoc = λ x y z. same _ _ (three_of (λ a b c. xor (xor a b) c) (λ a b c. xor a (xor b c)) tt x.set y.set z.set);
  add-zero = λ x. same _ _ (one_of (λ a. xor a false) (λ a. a) tt x.set);
  add_self = λ x. same _ _ (one_of (λ a. xor a a) (λ a. false) tt x.set);
  mul_comm = λ x y. same _ _ (two_of (λ a b. a && b) (λ a b. b && a) tt x.set y.set);
  mul_assoc = λ x y z. same _ _ (three_of (λ a b c. (a && b) && c) (λ a b c. a && (b && c)) tt x.set y.set z.set);
  mul-one = λ x. same _ _ (one_of (λ a. a && true) (λ a. a) tt x.set);
  mul-add = λ x y z. same _ _ (three_of (λ a b c. a && xor b c) (λ a b c. xor (a && b) (a && c)) tt x.set y.set z.set);
  mul-inv = λ x n. same _ _ (inverse x.set n);
  inv-zero = refl;
  one_not_zero = λ e. let z : ◌≡◌ {A = ℕ} 1 0 = ap bit_code e in omega arith;
  code_same = λ x y e. same x y (sym (set_of_code x.set) ∙ ap set_of e ∙ set_of_code y.set);
  code_below = λ x. below x.set;
  code_onto = onto;
  code_zero = refl;
  code_one = refl;
  size_small = lit≤ tt;
}
