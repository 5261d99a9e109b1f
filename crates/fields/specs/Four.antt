-- The field of four elements u + aα over the bits, where α·α = α + 1. The code of α is 2, and a sum's code is the exclusive or of the codes. Assumes nothing.
use Rattle.std.specs.Prelude.{◌≡◌, ℕ, zero, suc, ◌<◌, Bool, true, false, cond, ◌&&◌, T, refl}
use Rattle.std.proofs.Common.{sym, ap, ◌∙◌, arith, lit<, lit≤}
use Rattle.fields.specs.Field.{Ops, Laws}
use Rattle.fields.specs.Bools.{xor, agree, agree_is, and_first, and_second, every, every_at}
use Rattle.fields.specs.declared.four.Four.{Four}

abbrev pub four_add : Four → Four → Four
four_add x y = record { unit = xor x.unit y.unit; alpha = xor x.alpha y.alpha }

-- (u + aα)(v + bα) = (uv + ab) + (ub + av + ab)α
abbrev pub four_mul : Four → Four → Four
four_mul x y = record {
  unit = xor (x.unit && y.unit) (x.alpha && y.alpha);
  alpha = xor (xor (x.unit && y.alpha) (x.alpha && y.unit)) (x.alpha && y.alpha);
}

-- α and α + 1 are each other's inverse
abbrev pub four_inv : Four → Four
four_inv x = record { unit = xor x.unit x.alpha; alpha = x.alpha }

abbrev pub four_code : Four → ℕ
four_code x = cond x.alpha (cond x.unit 3 2) (cond x.unit 1 0)

abbrev pub four_zero : Four
four_zero = record { unit = false; alpha = false }

abbrev pub four_one : Four
four_one = record { unit = true; alpha = false }

abbrev pub four_ops : Ops Four
four_ops = record { zero = four_zero; one = four_one; add = four_add; mul = four_mul; inv = four_inv; code = four_code; size = 4 }

-- a test that passes at each element, and an equation from its test
abbrev each : (Four → Bool) → Bool
each f = every (λ u. every (λ a. f (record { unit = u; alpha = a })))

each_at : (f : Four → Bool) → T (each f) → (x : Four) → T (f x)
each_at f t x =
    every_at (λ a. f (record { unit = x.unit; alpha = a }))
    (every_at (λ u. every (λ a. f (record { unit = u; alpha = a }))) t x.unit) x.alpha

abbrev alike : Four → Four → Bool
alike x y = agree x.unit y.unit && agree x.alpha y.alpha

alike_is : (x y : Four) → T (alike x y) → x ≡ y
alike_is x y t =
    let u = agree_is x.unit y.unit (and_first (agree x.unit y.unit) _ t) in
    let a = agree_is x.alpha y.alpha (and_second (agree x.unit y.unit) _ t) in
    ap (λ (b : Bool). record { unit = b; alpha = x.alpha }) u ∙ ap (λ (b : Bool). record { unit = y.unit; alpha = b }) a

one_of : (f g : Four → Four) → T (each (λ x. alike (f x) (g x))) → (x : Four) → f x ≡ g x
one_of f g t x = alike_is (f x) (g x) (each_at (λ x. alike (f x) (g x)) t x)

two_of : (f g : Four → Four → Four) → T (each (λ x. each (λ y. alike (f x y) (g x y)))) → (x y : Four) → f x y ≡ g x y
two_of f g t x y = one_of (f x) (g x) (each_at (λ x. each (λ y. alike (f x y) (g x y))) t x) y

three_of : (f g : Four → Four → Four → Four) → T (each (λ x. each (λ y. each (λ z. alike (f x y z) (g x y z))))) → (x y z : Four) → f x y z ≡ g x y z
three_of f g t x y z = two_of (f x) (g x) (each_at (λ x. each (λ y. each (λ z. alike (f x y z) (g x y z)))) t x) y z

inverse : (u a : Bool) → (◌≡◌ {A = Four} (record { unit = u; alpha = a }) four_zero → ⊥) → four_mul (record { unit = u; alpha = a }) (four_inv (record { unit = u; alpha = a })) ≡ four_one
inverse true true n = refl
inverse true false n = refl
inverse false true n = refl
inverse false false n = absurd (n refl)

of_code : ℕ → Four
of_code zero = four_zero
of_code (suc zero) = four_one
of_code (suc (suc zero)) = record { unit = false; alpha = true }
of_code (suc (suc (suc n))) = record { unit = true; alpha = true }

of_code_code : (u a : Bool) → of_code (four_code (record { unit = u; alpha = a })) ≡ record { unit = u; alpha = a }
unfolding of_code
of_code_code true true = refl
of_code_code true false = refl
of_code_code false true = refl
of_code_code false false = refl

below : (u a : Bool) → four_code (record { unit = u; alpha = a }) < 4
below true true = lit< tt
below true false = lit< tt
below false true = lit< tt
below false false = lit< tt

onto : (c : ℕ) → c < 4 → (x : Four) × (four_code x ≡ c)
onto zero h = (four_zero, refl)
onto (suc zero) h = (four_one, refl)
onto (suc (suc zero)) h = (record { unit = false; alpha = true }, refl)
onto (suc (suc (suc zero))) h = (record { unit = true; alpha = true }, refl)
onto (suc (suc (suc (suc c)))) h = absurd (omega arith)

pub four_laws : Laws four_ops
four_laws = record {
  add_comm = two_of four_add (λ x y. four_add y x) tt;
  add_assoc = three_of (λ x y z. four_add (four_add x y) z) (λ x y z. four_add x (four_add y z)) tt;
  add-zero = one_of (λ x. four_add x four_zero) (λ x. x) tt;
  add_self = one_of (λ x. four_add x x) (λ x. four_zero) tt;
  mul_comm = two_of four_mul (λ x y. four_mul y x) tt;
  mul_assoc = three_of (λ x y z. four_mul (four_mul x y) z) (λ x y z. four_mul x (four_mul y z)) tt;
  mul-one = one_of (λ x. four_mul x four_one) (λ x. x) tt;
  mul-add = three_of (λ x y z. four_mul x (four_add y z)) (λ x y z. four_add (four_mul x y) (four_mul x z)) tt;
  mul-inv = λ x n. inverse x.unit x.alpha n;
  inv-zero = refl;
  one_not_zero = λ e. let z : ◌≡◌ {A = ℕ} 1 0 = ap four_code e in omega arith;
  code_same = λ x y e. sym (of_code_code x.unit x.alpha) ∙ ap of_code e ∙ of_code_code y.unit y.alpha;
  code_below = λ x. below x.unit x.alpha;
  code_onto = onto;
  code_zero = refl;
  code_one = refl;
  size_small = lit≤ tt;
}
