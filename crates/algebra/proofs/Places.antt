-- Where the cells of two rows lie, and what a write to one cell leaves.
use Rattle.std.proofs.Common.{◌≡◌, ℕ, ◌+◌, ◌-◌, ◌*◌, ◌/◌, ◌%◌, ◌<◌, ◌≤◌, List, ◌++◌, length, take, drop, get_or, set, ap, ◌∙◌, subst, inl, inr, mul-le-mul_right, mod-lt, add-mul, one-mul, div-add-mod', arith, length-drop, get_or-set_other, get_or-set_same}
use Rattle.std.proofs.lemmas.Bool.{cases_lt, cases_order}
use Rattle.std.proofs.lemmas.List.{length-append, length-take-le, get_or_append_left, get_or-append_right, get_or-take, get_or-drop}
use borrow.Rule.Slice.PartMut.{put_mid, post_of}
use Rattle.fields.specs.Field.{Ops}
use Rattle.algebra.specs.Grid.{cell}

-- a row that comes before another ends before the other begins
pub row_before : (r s cols : ℕ) → r < s → r * cols + cols ≤ s * cols
row_before r s cols h =
    let m : (r + 1) * cols ≤ s * cols = mul-le-mul_right cols (omega arith) in
    omega (arith, m, add-mul r 1 cols, one-mul cols)

-- cells of two rows lie apart
pub rows_apart : (r s cols c d : ℕ) → (r ≡ s → ⊥) → c < cols → d < cols → r * cols + c ≡ s * cols + d → ⊥
rows_apart r s cols c d n h k e =
    elim (cases_order r s) [ inl q ↦ n q | inr w ↦ elim w [ inl l ↦ omega (arith, row_before r s cols l) | inr l ↦ omega (arith, row_before s r cols l) ] ]

-- a place in a row is in no other
pub row_only : (r s cols c : ℕ) → (r ≡ s → ⊥) → c < cols → s * cols ≤ r * cols + c → r * cols + c < s * cols + cols → ⊥
row_only r s cols c n h low high =
    elim (cases_order r s) [ inl q ↦ n q | inr w ↦ elim w [ inl l ↦ omega (arith, row_before r s cols l) | inr l ↦ omega (arith, row_before s r cols l) ] ]

-- and of two columns
pub columns_apart : (r s cols c d : ℕ) → (c ≡ d → ⊥) → c < cols → d < cols → r * cols + c ≡ s * cols + d → ⊥
columns_apart r s cols c d n h k e =
    elim (cases_order r s) [ inl q ↦ n (omega (arith, ap (λ (m : ℕ). m * cols) q)) | inr w ↦ elim w [ inl l ↦ omega (arith, row_before r s cols l) | inr l ↦ omega (arith, row_before s r cols l) ] ]

-- each place past the rows of the grid is a cell of a row past them
past : (k rows cols : ℕ) → 0 < cols → rows * cols ≤ k → rows ≤ k / cols
past k rows cols h l = elim (cases_lt (k / cols) rows) [
  | inl s ↦ absurd (omega (arith, row_before (k / cols) rows cols s, div-add-mod' k cols, mod-lt k h))
  | inr s ↦ s
]

pub kept_past : {F : Type 0} (o : Ops F) (rows cols : ℕ) (xs ys : List F) → 0 < cols
    → ((r c : ℕ) → rows ≤ r → c < cols → cell o ys cols r c ≡ cell o xs cols r c)
    → (k : ℕ) → rows * cols ≤ k → get_or ys k o.zero ≡ get_or xs k o.zero
kept_past o rows cols xs ys h p k l =
    subst (λ (n : ℕ). get_or ys n o.zero ≡ get_or xs n o.zero) (div-add-mod' k cols) (p (k / cols) (k % cols) (past k rows cols h l) (mod-lt k h))

-- a cell of the grid lies in the list
pub cell_in : (r c rows cols n : ℕ) → r < rows → c < cols → rows * cols ≤ n → r * cols + c < n
cell_in r c rows cols n h l k = omega (arith, row_before r rows cols h)

-- the cells of a matrix, those of the rows above a row, its own, and those of the rows below it
pub rows_below : (rows cols row : ℕ) → row < rows → rows * cols ≡ row * cols + cols + (rows - row - 1) * cols
rows_below rows cols row h =
    let e : rows ≡ row + 1 + (rows - row - 1) = omega arith in
    let f : rows * cols ≡ (row + 1 + (rows - row - 1)) * cols = ap (λ (n : ℕ). n * cols) e in
    omega (arith, f, add-mul (row + 1) (rows - row - 1) cols, add-mul row 1 cols, one-mul cols)

-- a list has room for each of as many rows as it has whole ones
pub row_in : (r n cols : ℕ) → r < n / cols → r * cols + cols ≤ n
row_in r n cols h = omega (arith, row_before r (n / cols) cols h, div-add-mod' n cols)

-- what a write to the cell of row r and column c leaves
module _ {F : Type 0} (o : Ops F) (cols : ℕ) (xs : List F) (v : F) (r c : ℕ) (h : c < cols) where
  pub cell_set_same : r * cols + c < length xs → cell o (set xs (r * cols + c) v) cols r c ≡ v
  cell_set_same l = get_or-set_same xs (r * cols + c) v o.zero l

  pub cell_set_row : (s d : ℕ) → (s ≡ r → ⊥) → d < cols → cell o (set xs (r * cols + c) v) cols s d ≡ cell o xs cols s d
  cell_set_row s d n l = get_or-set_other xs (r * cols + c) (s * cols + d) v o.zero (rows_apart s r cols d c n l h)

  pub cell_set_column : (s d : ℕ) → (d ≡ c → ⊥) → d < cols → cell o (set xs (r * cols + c) v) cols s d ≡ cell o xs cols s d
  cell_set_column s d n l = get_or-set_other xs (r * cols + c) (s * cols + d) v o.zero (columns_apart s r cols d c n l h)

-- a part of a list, as it is read
pub part_read : {F : Type 0} (a n : ℕ) (xs : List F) (d : F) (k : ℕ) → k < n → get_or (take n (drop a xs)) k d ≡ get_or xs (a + k) d
part_read a n xs d k h = get_or-take n (drop a xs) k d h ∙ get_or-drop a xs k d

pub part_long : {F : Type 0} (a n : ℕ) (xs : List F) → a + n ≤ length xs → length (take n (drop a xs)) ≡ n
part_long a n xs h = length-take-le n (drop a xs) (omega (arith, length-drop a xs))

-- a list stays as long as it was where a part of it is written
pub put_mid_long : {F : Type 0} (a n : ℕ) (xs ys : List F) → a + n ≤ length xs → length ys ≡ n → length (put_mid a n xs ys) ≡ length xs
put_mid_long a n xs ys h e = omega (arith, length-append (take a xs) (ys ++ post_of a n xs), length-take-le a xs (omega arith), length-append ys (post_of a n xs), length-drop n (drop a xs), length-drop a xs)

-- a part of a list, written in another list's place
module _ {F : Type 0} (a n : ℕ) (xs ys : List F) (d : F) (h : a + n ≤ length xs) (e : length ys ≡ n) where
  front : length (take a xs) ≡ a
  front = length-take-le a xs (omega arith)

  pub part_inside : (k : ℕ) → k < n → get_or (put_mid a n xs ys) (a + k) d ≡ get_or ys k d
  part_inside k l =
      get_or-append_right (take a xs) (ys ++ post_of a n xs) a (a + k) d front (omega arith)
      ∙ ap (λ (j : ℕ). get_or (ys ++ post_of a n xs) j d) (omega arith)
      ∙ get_or_append_left ys (post_of a n xs) d k (omega arith)

  pub part_outside : (k : ℕ) → (a ≤ k → k < a + n → ⊥) → get_or (put_mid a n xs ys) k d ≡ get_or xs k d
  part_outside k out =
      elim (cases_lt k a) [
        | inl l ↦ get_or_append_left (take a xs) (ys ++ post_of a n xs) d k (omega (arith, front)) ∙ get_or-take a xs k d l
        | inr l ↦
            let m : a + n ≤ k = elim (cases_lt k (a + n)) [ inl w ↦ absurd (out l w) | inr w ↦ w ] in
            get_or-append_right (take a xs) (ys ++ post_of a n xs) a k d front l
            ∙ get_or-append_right ys (post_of a n xs) n (k - a) d e (omega arith)
            ∙ get_or-drop n (drop a xs) (k - a - n) d ∙ get_or-drop a xs (n + (k - a - n)) d
            ∙ ap (λ (j : ℕ). get_or xs j d) (omega arith)
      ]
