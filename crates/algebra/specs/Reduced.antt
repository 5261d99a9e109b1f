-- What elimination leaves, column by column and at its end, and what is read from reduced rows. Assumes nothing.
use Rattle.std.specs.Prelude.{◌≡◌, ℕ, ◌-◌, ◌*◌, ◌<◌, ◌≤◌, Bool, true, false, List, ◌≢◌}
use Rattle.fields.specs.Field.{Ops}
use Rattle.algebra.specs.Grid.{cell, Kept}
use Rattle.algebra.specs.Linear.{Equivalent, Represents, ColumnComb, OnIndependent}

-- the column `col` is zero but in the row `row`; that row, the columns where it is zero and the rows past the grid are as they were
pub record Cleared {F : Type 0} (o : Ops F) (rows cols row col : ℕ) (xs ys : List F) : Type 0 where
  pub zeros : (r : ℕ) → r < rows → (r ≢ row) → cell o ys cols r col ≡ o.zero
  pub own : (c : ℕ) → c < cols → cell o ys cols row c ≡ cell o xs cols row c
  pub kept : (r c : ℕ) → c < cols → cell o xs cols row c ≡ o.zero → cell o ys cols r c ≡ cell o xs cols r c
  pub beyond : (r c : ℕ) → rows ≤ r → c < cols → cell o ys cols r c ≡ cell o xs cols r c
  pub same : Equivalent o rows cols (cell o xs cols) (cell o ys cols)

-- the column `col` has become the unit of the row `rank`; the columns before it and the rows past the grid are as they were
pub record Pivoted {F : Type 0} (o : Ops F) (rows cols rank col : ℕ) (xs ys : List F) : Type 0 where
  pub inside : rank < rows
  pub one : cell o ys cols rank col ≡ o.one
  pub zeros : (r : ℕ) → r < rows → (r ≢ rank) → cell o ys cols r col ≡ o.zero
  pub kept : (r c : ℕ) → r < rows → c < col → cell o ys cols r c ≡ cell o xs cols r c
  pub beyond : (r c : ℕ) → rows ≤ r → c < cols → cell o ys cols r c ≡ cell o xs cols r c
  pub same : Equivalent o rows cols (cell o xs cols) (cell o ys cols)

-- row q begins at the column pivot q, where it alone has one; the rows from `rank` on are zero
pub record Reduced {F : Type 0} (o : Ops F) (rows cols rank : ℕ) (pivot : ℕ → ℕ) (m : ℕ → ℕ → F) : Type 0 where
  pub small : rank ≤ rows
  pub rising : (q p : ℕ) → q < p → p < rank → pivot q < pivot p
  pub inside : (q : ℕ) → q < rank → pivot q < cols
  pub one : (q : ℕ) → q < rank → m q (pivot q) ≡ o.one
  pub zeros : (q r : ℕ) → q < rank → r < rows → (r ≢ q) → m r (pivot q) ≡ o.zero
  pub leading : (q c : ℕ) → q < rank → c < pivot q → m q c ≡ o.zero
  pub rest : (r c : ℕ) → rank ≤ r → r < rows → c < cols → m r c ≡ o.zero

-- ys has the rows of xs in reduced form, and past the grid's cells what xs has
pub record Eliminated {F : Type 0} (o : Ops F) (rows cols rank : ℕ) (xs ys : List F) : Type 0 where
  pub pivot : ℕ → ℕ
  pub reduced : Reduced o rows cols rank pivot (cell o ys cols)
  pub same : Equivalent o rows cols (cell o xs cols) (cell o ys cols)
  pub kept : Kept o (rows * cols) xs ys

-- ys is xs, reduced rows, with the last column written over the first row: at a pivot's column the cell of its row, elsewhere zero;
-- the answer says whether the last column is no pivot's
pub record Read {F : Type 0} (o : Ops F) (rows cols rank : ℕ) (pivot : ℕ → ℕ) (xs ys : List F) (answer : Bool) : Type 0 where
  pub solved : answer ≡ true → (q : ℕ) → q < rank → pivot q < cols - 1
  pub unsolved : answer ≡ false → (q : ℕ) × ((q < rank) × (pivot q ≡ cols - 1))
  pub there : (q : ℕ) → q < rank → pivot q < cols - 1 → cell o ys cols 0 (pivot q) ≡ cell o xs cols q (cols - 1)
  pub elsewhere : (c : ℕ) → c < cols - 1 → ((q : ℕ) → q < rank → pivot q ≢ c) → cell o ys cols 0 c ≡ o.zero
  pub others : Kept o (cols - 1) xs ys

-- the coefficients x give the last column of xs by the others
abbrev pub Gives : {F : Type 0} → Ops F → ℕ → ℕ → List F → (ℕ → F) → Type 0
Gives o rows cols xs x = Represents o rows (cols - 1) (cell o xs cols) x (λ r. cell o xs cols r (cols - 1))

-- the last column of xs is no combination of the others; or the first row of ys has the coefficients of one,
-- zero at each column that is a combination of earlier ones, and the only ones so
pub record Solved {F : Type 0} (o : Ops F) (rows cols : ℕ) (xs ys : List F) (answer : Bool) : Type 0 where
  pub unsolvable : answer ≡ false → ColumnComb o rows (cols - 1) (cell o xs cols) (λ r. cell o xs cols r (cols - 1)) → ⊥
  pub given : answer ≡ true → Gives o rows cols xs (cell o ys cols 0)
  pub independent : answer ≡ true → OnIndependent o rows (cols - 1) (cell o xs cols) (cell o ys cols 0)
  pub only : answer ≡ true → (x : ℕ → F) → Gives o rows cols xs x → OnIndependent o rows (cols - 1) (cell o xs cols) x → (c : ℕ) → c < cols - 1 → x c ≡ cell o ys cols 0 c
  pub kept : Kept o (rows * cols) xs ys
