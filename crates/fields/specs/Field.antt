-- What a finite field is in which one plus one is zero, and the number that stands for each element. Assumes nothing.
use Rattle.std.specs.Prelude.{◌≡◌, ℕ, ◌<◌, ◌≤◌, ◌≢◌}

-- The operations of a field, the code of each element and the number of elements.
pub record Ops (F : Type 0) : Type 0 where
  pub zero : F
  pub one : F
  pub add : F → F → F
  pub mul : F → F → F
  pub inv : F → F
  pub code : F → ℕ
  pub size : ℕ

-- Sums and products as in any field; each element is its own negative; the codes are the numbers below the size, zero and one first.
pub record Laws {F : Type 0} (o : Ops F) : Type 0 where
  pub add_comm : (x y : F) → o.add x y ≡ o.add y x
  pub add_assoc : (x y z : F) → o.add (o.add x y) z ≡ o.add x (o.add y z)
  pub add-zero : (x : F) → o.add x o.zero ≡ x
  pub add_self : (x : F) → o.add x x ≡ o.zero
  pub mul_comm : (x y : F) → o.mul x y ≡ o.mul y x
  pub mul_assoc : (x y z : F) → o.mul (o.mul x y) z ≡ o.mul x (o.mul y z)
  pub mul-one : (x : F) → o.mul x o.one ≡ x
  pub mul-add : (x y z : F) → o.mul x (o.add y z) ≡ o.add (o.mul x y) (o.mul x z)
  pub mul-inv : (x : F) → (x ≢ o.zero) → o.mul x (o.inv x) ≡ o.one
  pub inv-zero : o.inv o.zero ≡ o.zero
  pub one_not_zero : o.one ≡ o.zero → ⊥
  pub code_same : (x y : F) → o.code x ≡ o.code y → x ≡ y
  pub code_below : (x : F) → o.code x < o.size
  pub code_onto : (c : ℕ) → c < o.size → (x : F) × (o.code x ≡ c)
  pub code_zero : o.code o.zero ≡ 0
  pub code_one : o.code o.one ≡ 1
  pub size_small : o.size ≤ 128
