-- Columns of zeros and ones, which every field has, and what two fields say of them. Assumes nothing.
use Rattle.std.specs.Prelude.{◌≡◌, ℕ, ◌<◌, Bool, cond}
use Rattle.fields.specs.Field.{Ops}
use Rattle.algebra.specs.Linear.{Represents, ColumnComb, Dependent, OnIndependent}

-- one or zero
abbrev pub digit : {F : Type 0} → Ops F → Bool → F
digit o t = cond t o.one o.zero

abbrev pub digits : {F : Type 0} → Ops F → (ℕ → ℕ → Bool) → ℕ → ℕ → F
digits o m r c = digit o (m r c)

-- for columns m and a right-hand side b of zeros and ones, the two fields agree: on which columns are combinations of earlier ones, on whether
-- the first k columns give b, and on the solution on independent columns, which has only zeros and ones, at the same places in both
pub record Agree {F G : Type 0} (o : Ops F) (p : Ops G) (rows k : ℕ) (m : ℕ → ℕ → Bool) (b : ℕ → Bool) : Type 0 where
  pub columns : (c : ℕ) → Dependent o rows (digits o m) c → Dependent p rows (digits p m) c
  pub columns_back : (c : ℕ) → Dependent p rows (digits p m) c → Dependent o rows (digits o m) c
  pub side : ColumnComb o rows k (digits o m) (λ r. digit o (b r)) → ColumnComb p rows k (digits p m) (λ r. digit p (b r))
  pub side_back : ColumnComb p rows k (digits p m) (λ r. digit p (b r)) → ColumnComb o rows k (digits o m) (λ r. digit o (b r))
  pub solutions : (x : ℕ → F) (y : ℕ → G)
      → Represents o rows k (digits o m) x (λ r. digit o (b r)) → OnIndependent o rows k (digits o m) x
      → Represents p rows k (digits p m) y (λ r. digit p (b r)) → OnIndependent p rows k (digits p m) y
      → (s : ℕ → Bool) × ((c : ℕ) → c < k → (x c ≡ digit o (s c)) × (y c ≡ digit p (s c)))
