-- A list of cells seen as rows of `cols` cells each, and what each step of elimination leaves in it. Assumes nothing.
use Rattle.std.specs.Prelude.{◌≡◌, ℕ, ◌+◌, ◌*◌, ◌<◌, ◌≤◌, List, length, ◌≢◌, slice_index_or}
use Rattle.fields.specs.Field.{Ops}

-- the cell of row r and column c
abbrev pub cell : {F : Type 0} → Ops F → List F → ℕ → ℕ → ℕ → F
cell o xs cols r c = slice_index_or xs (r * cols + c) o.zero

-- a list of n cells has room for so many rows and columns, at least one of each
pub record Fits (rows cols n : ℕ) : Type 0 where
  pub some_row : 0 < rows
  pub some_column : 0 < cols
  pub room : rows * cols ≤ n

-- ys is as long as xs, and from the place n on as xs
pub record Kept {F : Type 0} (o : Ops F) (n : ℕ) (xs ys : List F) : Type 0 where
  pub long : length ys ≡ length xs
  pub beyond : (k : ℕ) → n ≤ k → slice_index_or ys k o.zero ≡ slice_index_or xs k o.zero

-- ys is xs with its first n cells zero
pub record Blank {F : Type 0} (o : Ops F) (n : ℕ) (xs ys : List F) : Type 0 where
  pub zeros : (k : ℕ) → k < n → slice_index_or ys k o.zero ≡ o.zero
  pub kept : Kept o n xs ys

-- the row ys is xs with `factor` times the row zs added
abbrev pub Added : {F : Type 0} → Ops F → F → List F → List F → List F → Type 0
Added o factor zs xs ys = (c : ℕ) → c < length xs → slice_index_or ys c o.zero ≡ o.add (slice_index_or xs c o.zero) (o.mul factor (slice_index_or zs c o.zero))

-- the row zs is zero before the column `col`
abbrev pub BlankBefore : {F : Type 0} → Ops F → ℕ → List F → Type 0
BlankBefore o col zs = (c : ℕ) → c < col → slice_index_or zs c o.zero ≡ o.zero

-- to each whole row of xs is added the row zs by the row's cell in the column `col`
abbrev pub ClearedRows : {F : Type 0} → Ops F → ℕ → ℕ → List F → List F → List F → Type 0
ClearedRows o cols col zs xs ys =
    (r c : ℕ) → r * cols + cols ≤ length xs → c < cols → cell o ys cols r c ≡ o.add (cell o xs cols r c) (o.mul (cell o xs cols r col) (slice_index_or zs c o.zero))

-- ys is xs with the rows a and b exchanged
pub record Swapped {F : Type 0} (o : Ops F) (cols a b : ℕ) (xs ys : List F) : Type 0 where
  pub first : (c : ℕ) → c < cols → cell o ys cols a c ≡ cell o xs cols b c
  pub second : (c : ℕ) → c < cols → cell o ys cols b c ≡ cell o xs cols a c
  pub others : (r c : ℕ) → (r ≢ a) → (r ≢ b) → c < cols → cell o ys cols r c ≡ cell o xs cols r c

-- ys is xs with the row `row` times `factor`
pub record Scaled {F : Type 0} (o : Ops F) (cols row : ℕ) (factor : F) (xs ys : List F) : Type 0 where
  pub there : (c : ℕ) → c < cols → cell o ys cols row c ≡ o.mul factor (cell o xs cols row c)
  pub others : (r c : ℕ) → (r ≢ row) → c < cols → cell o ys cols r c ≡ cell o xs cols r c

-- the column `col` is zero in the rows from `from` to below `rows`
abbrev pub AllZero : {F : Type 0} → Ops F → List F → ℕ → ℕ → ℕ → ℕ → Type 0
AllZero o xs cols from rows col = (r : ℕ) → from ≤ r → r < rows → cell o xs cols r col ≡ o.zero

-- row is the first of those rows that is not zero there
pub record FirstNonzero {F : Type 0} (o : Ops F) (xs : List F) (cols from rows col row : ℕ) : Type 0 where
  pub low : from ≤ row
  pub high : row < rows
  pub nonzero : cell o xs cols row col ≡ o.zero → ⊥
  pub earlier : AllZero o xs cols from row col
