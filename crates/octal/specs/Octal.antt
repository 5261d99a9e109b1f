-- The field of eight elements u + aα + sα² over the bits, where α³ = α + 1. The code of α is 2, that of α² is 4. Assumes nothing.
use Rattle.std.specs.Prelude.{◌≡◌, refl, Bool, true, false, ◌&&◌, cond, ℕ, zero, suc, ◌+◌, ◌<◌, T, ltb}
use Rattle.std.proofs.Common.{sym, ap, ◌∙◌, arith, ltb→lt, lit≤}
use Rattle.fields.specs.Field.{Ops, Laws}
use Rattle.fields.specs.Bools.{xor, agree, agree_is, and_first, and_second, every, every_at}
use Rattle.octal.specs.declared.Octal.{Octal}

abbrev pub octal_add : Octal → Octal → Octal
octal_add x y = record { unit = xor x.unit y.unit; alpha = xor x.alpha y.alpha; square = xor x.square y.square }

-- the coefficients of α³ and α⁴ in a product, before α³ = α + 1 is put to use
abbrev third : Octal → Octal → Bool
third x y = xor (x.alpha && y.square) (x.square && y.alpha)

abbrev fourth : Octal → Octal → Bool
fourth x y = x.square && y.square

abbrev pub octal_mul : Octal → Octal → Octal
octal_mul x y = record {
  unit = xor (x.unit && y.unit) (third x y);
  alpha = xor (xor (xor (x.unit && y.alpha) (x.alpha && y.unit)) (third x y)) (fourth x y);
  square = xor (xor (xor (x.unit && y.square) (x.alpha && y.alpha)) (x.square && y.unit)) (fourth x y);
}

-- the sixth power
abbrev pub octal_inv : Octal → Octal
octal_inv x = octal_mul (octal_mul x x) (octal_mul (octal_mul x x) (octal_mul x x))

abbrev pub octal_code : Octal → ℕ
octal_code x = cond x.square 4 0 + cond x.alpha 2 0 + cond x.unit 1 0

abbrev pub octal_zero : Octal
octal_zero = record { unit = false; alpha = false; square = false }

abbrev pub octal_one : Octal
octal_one = record { unit = true; alpha = false; square = false }

abbrev pub octal_ops : Ops Octal
octal_ops = record { zero = octal_zero; one = octal_one; add = octal_add; mul = octal_mul; inv = octal_inv; code = octal_code; size = 8 }

-- a test that passes at each element, and an equation from its test
abbrev each : (Octal → Bool) → Bool
each f = every (λ u. every (λ a. every (λ s. f (record { unit = u; alpha = a; square = s }))))

each_at : (f : Octal → Bool) → T (each f) → (x : Octal) → T (f x)
each_at f t x =
    every_at (λ s. f (record { unit = x.unit; alpha = x.alpha; square = s }))
    (every_at (λ a. every (λ s. f (record { unit = x.unit; alpha = a; square = s })))
    (every_at (λ u. every (λ a. every (λ s. f (record { unit = u; alpha = a; square = s })))) t x.unit) x.alpha) x.square

abbrev alike : Octal → Octal → Bool
alike x y = agree x.unit y.unit && (agree x.alpha y.alpha && agree x.square y.square)

alike_is : (x y : Octal) → T (alike x y) → x ≡ y
alike_is x y t =
    let rest = and_second (agree x.unit y.unit) _ t in
    let u = agree_is x.unit y.unit (and_first (agree x.unit y.unit) _ t) in
    let a = agree_is x.alpha y.alpha (and_first (agree x.alpha y.alpha) _ rest) in
    let s = agree_is x.square y.square (and_second (agree x.alpha y.alpha) _ rest) in
    ap (λ (b : Bool). record { unit = b; alpha = x.alpha; square = x.square }) u
    ∙ ap (λ (b : Bool). record { unit = y.unit; alpha = b; square = x.square }) a
    ∙ ap (λ (b : Bool). record { unit = y.unit; alpha = y.alpha; square = b }) s

one_of : (f g : Octal → Octal) → T (each (λ x. alike (f x) (g x))) → (x : Octal) → f x ≡ g x
one_of f g t x = alike_is (f x) (g x) (each_at (λ x. alike (f x) (g x)) t x)

two_of : (f g : Octal → Octal → Octal) → T (each (λ x. each (λ y. alike (f x y) (g x y)))) → (x y : Octal) → f x y ≡ g x y
two_of f g t x y = one_of (f x) (g x) (each_at (λ x. each (λ y. alike (f x y) (g x y))) t x) y

three_of : (f g : Octal → Octal → Octal → Octal) → T (each (λ x. each (λ y. each (λ z. alike (f x y z) (g x y z))))) → (x y z : Octal) → f x y z ≡ g x y z
three_of f g t x y z = two_of (f x) (g x) (each_at (λ x. each (λ y. each (λ z. alike (f x y z) (g x y z)))) t x) y z

inverse : (u a s : Bool) → (◌≡◌ {A = Octal} (record { unit = u; alpha = a; square = s }) octal_zero → ⊥)
    → octal_mul (record { unit = u; alpha = a; square = s }) (octal_inv (record { unit = u; alpha = a; square = s })) ≡ octal_one
inverse true true true n = refl
inverse true true false n = refl
inverse true false true n = refl
inverse true false false n = refl
inverse false true true n = refl
inverse false true false n = refl
inverse false false true n = refl
inverse false false false n = absurd (n refl)

of_code : ℕ → Octal
of_code zero = octal_zero
of_code (suc zero) = octal_one
of_code (suc (suc zero)) = record { unit = false; alpha = true; square = false }
of_code (suc (suc (suc zero))) = record { unit = true; alpha = true; square = false }
of_code (suc (suc (suc (suc zero)))) = record { unit = false; alpha = false; square = true }
of_code (suc (suc (suc (suc (suc zero))))) = record { unit = true; alpha = false; square = true }
of_code (suc (suc (suc (suc (suc (suc zero)))))) = record { unit = false; alpha = true; square = true }
of_code (suc (suc (suc (suc (suc (suc (suc n))))))) = record { unit = true; alpha = true; square = true }

of_code_code : (x : Octal) → of_code (octal_code x) ≡ x
unfolding of_code
of_code_code = one_of (λ x. of_code (octal_code x)) (λ x. x) tt

below : (x : Octal) → octal_code x < 8
below x = ltb→lt (octal_code x) 8 (each_at (λ x. ltb (octal_code x) 8) tt x)

onto : (c : ℕ) → c < 8 → (x : Octal) × (octal_code x ≡ c)
unfolding of_code
onto zero h = (of_code 0, refl)
onto (suc zero) h = (of_code 1, refl)
onto (suc (suc zero)) h = (of_code 2, refl)
onto (suc (suc (suc zero))) h = (of_code 3, refl)
onto (suc (suc (suc (suc zero)))) h = (of_code 4, refl)
onto (suc (suc (suc (suc (suc zero))))) h = (of_code 5, refl)
onto (suc (suc (suc (suc (suc (suc zero)))))) h = (of_code 6, refl)
onto (suc (suc (suc (suc (suc (suc (suc zero))))))) h = (of_code 7, refl)
onto (suc (suc (suc (suc (suc (suc (suc (suc c)))))))) h = absurd (omega arith)

pub octal_laws : Laws octal_ops
octal_laws = record {
  add_comm = two_of octal_add (λ x y. octal_add y x) tt;
  add_assoc = three_of (λ x y z. octal_add (octal_add x y) z) (λ x y z. octal_add x (octal_add y z)) tt;
  add-zero = one_of (λ x. octal_add x octal_zero) (λ x. x) tt;
  add_self = one_of (λ x. octal_add x x) (λ x. octal_zero) tt;
  mul_comm = two_of octal_mul (λ x y. octal_mul y x) tt;
  mul_assoc = three_of (λ x y z. octal_mul (octal_mul x y) z) (λ x y z. octal_mul x (octal_mul y z)) tt;
  mul-one = one_of (λ x. octal_mul x octal_one) (λ x. x) tt;
  mul-add = three_of (λ x y z. octal_mul x (octal_add y z)) (λ x y z. octal_add (octal_mul x y) (octal_mul x z)) tt;
  mul-inv = λ x n. inverse x.unit x.alpha x.square n;
  inv-zero = refl;
  one_not_zero = λ e. let z : ◌≡◌ {A = ℕ} 1 0 = ap octal_code e in omega arith;
  code_same = λ x y e. sym (of_code_code x) ∙ ap of_code e ∙ of_code_code y;
  code_below = below;
  code_onto = onto;
  code_zero = refl;
  code_one = refl;
  size_small = lit≤ tt;
}
