-- What elimination decides, and what does not depend on the field: the statements that hold of each field with the laws. Assumes nothing.
use Rattle.std.specs.Prelude.{◌≡◌, ℕ, ◌-◌, ◌<◌, Bool, ◌⊎◌, List, ◌≢◌}
use Rattle.fields.specs.Field.{Ops}
use Rattle.algebra.specs.Grid.{cell}
use Rattle.algebra.specs.Linear.{Represents, ColumnComb, Dependent, OnIndependent, Witness}
use Rattle.algebra.specs.Reduced.{Eliminated}
use Rattle.algebra.specs.ZeroOne.{Agree}

-- the last column is a combination of the others exactly when it is no pivot's
abbrev pub LastColumn : {F : Type 0} → Ops F → Type 0
LastColumn {F} o =
    (rows cols rank : ℕ) (xs ys : List F) (e : Eliminated o rows cols rank xs ys) → 0 < cols
    → (ColumnComb o rows (cols - 1) (cell o xs cols) (λ r. cell o xs cols r (cols - 1)) → (q : ℕ) → q < rank → e.pivot q ≢ cols - 1)
    × (((q : ℕ) → q < rank → e.pivot q ≢ cols - 1) → ColumnComb o rows (cols - 1) (cell o xs cols) (λ r. cell o xs cols r (cols - 1)))

-- a column is a combination of earlier columns exactly when it is no pivot's
abbrev pub PivotColumns : {F : Type 0} → Ops F → Type 0
PivotColumns {F} o =
    (rows cols rank : ℕ) (xs ys : List F) (e : Eliminated o rows cols rank xs ys) (c : ℕ) → c < cols
    → (Dependent o rows (cell o xs cols) c → (q : ℕ) → q < rank → e.pivot q ≢ c)
    × (((q : ℕ) → q < rank → e.pivot q ≢ c) → Dependent o rows (cell o xs cols) c)

-- a vector has at most one representation by columns none of which is a combination of earlier ones
abbrev pub OneRepresentation : {F : Type 0} → Ops F → Type 0
OneRepresentation {F} o =
    (rows k : ℕ) (m : ℕ → ℕ → F) (v x y : ℕ → F)
    → Represents o rows k m x v → OnIndependent o rows k m x → Represents o rows k m y v → OnIndependent o rows k m y
    → (c : ℕ) → c < k → x c ≡ y c

-- a vector is a combination of the first columns, or some witness is orthogonal to them all and one on it; never both
abbrev pub Alternative : {F : Type 0} → Ops F → Type 0
Alternative {F} o =
    (rows k : ℕ) (m : ℕ → ℕ → F) (v : ℕ → F)
    → (ColumnComb o rows k m v ⊎ ((w : ℕ → F) × Witness o rows k m v w))
    × (ColumnComb o rows k m v → (w : ℕ → F) → Witness o rows k m v w → ⊥)

-- a combination can do without the columns that are combinations of earlier ones
abbrev pub IndependentSuffice : {F : Type 0} → Ops F → Type 0
IndependentSuffice {F} o =
    (rows k : ℕ) (m : ℕ → ℕ → F) (v : ℕ → F) → ColumnComb o rows k m v
    → (x : ℕ → F) × (Represents o rows k m x v × OnIndependent o rows k m x)

-- on columns of zeros and ones two fields agree; the bits are one of them
abbrev pub FieldsAgree : {F G : Type 0} → Ops F → Ops G → Type 0
FieldsAgree o p = (rows k : ℕ) (m : ℕ → ℕ → Bool) (b : ℕ → Bool) → Agree o p rows k m b
