-- Sums over a field, and combinations of the rows and of the columns of a matrix, which is a function of row and column. Assumes nothing.
use Rattle.std.specs.Prelude.{◌≡◌, ℕ, zero, suc, ◌<◌}
use Rattle.fields.specs.Field.{Ops}

-- f 0 + .. + f (n - 1)
abbrev pub sum : {F : Type 0} → Ops F → ℕ → (ℕ → F) → F
sum o zero f = o.zero
sum o (suc n) f = o.add (sum o n f) (f n)

-- v is a combination of the rows of m
abbrev pub RowComb : {F : Type 0} → Ops F → ℕ → ℕ → (ℕ → ℕ → F) → (ℕ → F) → Type 0
RowComb {F} o rows cols m v = (w : ℕ → F) × ((c : ℕ) → c < cols → v c ≡ sum o rows (λ i. o.mul (w i) (m i c)))

-- each row of m' is a combination of the rows of m
abbrev pub Within : {F : Type 0} → Ops F → ℕ → ℕ → (ℕ → ℕ → F) → (ℕ → ℕ → F) → Type 0
Within o rows cols m m' = (r : ℕ) → r < rows → RowComb o rows cols m (m' r)

-- the rows of each are combinations of the rows of the other
pub record Equivalent {F : Type 0} (o : Ops F) (rows cols : ℕ) (m m' : ℕ → ℕ → F) : Type 0 where
  pub forth : Within o rows cols m m'
  pub back : Within o rows cols m' m

-- the first k columns of m, each by its coefficient in x, sum up to v
abbrev pub Represents : {F : Type 0} → Ops F → ℕ → ℕ → (ℕ → ℕ → F) → (ℕ → F) → (ℕ → F) → Type 0
Represents o rows k m x v = (r : ℕ) → r < rows → v r ≡ sum o k (λ c. o.mul (x c) (m r c))

-- v is a combination of the first k columns of m
abbrev pub ColumnComb : {F : Type 0} → Ops F → ℕ → ℕ → (ℕ → ℕ → F) → (ℕ → F) → Type 0
ColumnComb {F} o rows k m v = (x : ℕ → F) × Represents o rows k m x v

-- the column c is a combination of the columns before it
abbrev pub Dependent : {F : Type 0} → Ops F → ℕ → (ℕ → ℕ → F) → ℕ → Type 0
Dependent o rows m c = ColumnComb o rows c m (λ r. m r c)

-- x is zero at each dependent column among the first k
abbrev pub OnIndependent : {F : Type 0} → Ops F → ℕ → ℕ → (ℕ → ℕ → F) → (ℕ → F) → Type 0
OnIndependent o rows k m x = (c : ℕ) → c < k → Dependent o rows m c → x c ≡ o.zero

-- w 0 · v 0 + .. + w (rows - 1) · v (rows - 1)
abbrev pub dot : {F : Type 0} → Ops F → ℕ → (ℕ → F) → (ℕ → F) → F
dot o rows w v = sum o rows (λ r. o.mul (w r) (v r))

-- w is orthogonal to the first k columns of m, and one on v
pub record Witness {F : Type 0} (o : Ops F) (rows k : ℕ) (m : ℕ → ℕ → F) (v w : ℕ → F) : Type 0 where
  pub orthogonal : (c : ℕ) → c < k → dot o rows w (λ r. m r c) ≡ o.zero
  pub one : dot o rows w v ≡ o.one
