-- The column of a row is cleared, in the rows above it and in the rows below it, and the two together.
use Rattle.std.proofs.Common.{◌≡◌, ℕ, ◌+◌, ◌-◌, ◌*◌, ◌<◌, ◌≤◌, List, ◌++◌, length, take, drop, get_or, take-append-drop, mul-le-mul_right, add-mul, one-mul, sym, ap, ◌∙◌, subst, inl, inr, arith}
use Rattle.std.proofs.lemmas.Bool.{cases_eq, cases_lt}
use Rattle.std.proofs.lemmas.List.{get_or_append_left, get_or-append_right}
use borrow.Rule.Slice.PartMut.{put_mid}
use Rattle.fields.specs.Field.{Ops, Laws}
use Rattle.algebra.specs.Grid.{cell, ClearedRows}
use Rattle.algebra.specs.Reduced.{Cleared}
use Rattle.algebra.proofs.Sums.{mul-zero}
use Rattle.algebra.proofs.Places.{row_before, rows_below, row_only, part_inside, part_outside}
use Rattle.algebra.proofs.Steps.{AddedToOthers, added_equivalent}

-- the rows before n are done, and the others as they were
pub record RowsBefore {F : Type 0} (o : Ops F) (cols col n : ℕ) (zs xs ys : List F) : Type 0 where
  pub done : (r c : ℕ) → r < n → c < cols → cell o ys cols r c ≡ o.add (cell o xs cols r c) (o.mul (cell o xs cols r col) (get_or zs c o.zero))
  pub left : (r c : ℕ) → n ≤ r → c < cols → cell o ys cols r c ≡ cell o xs cols r c

pub rows_before_more : {F : Type 0} (o : Ops F) (cols col n : ℕ) (zs xs ys us : List F) (k : ℕ) → k ≡ cols → n * cols + cols ≤ length ys → length us ≡ k → col < cols
    → ((c : ℕ) → c < cols → get_or us c o.zero ≡ o.add (cell o ys cols n c) (o.mul (cell o ys cols n col) (get_or zs c o.zero)))
    → RowsBefore o cols col n zs xs ys → RowsBefore o cols col (n + 1) zs xs (put_mid (n * cols) k ys us)
rows_before_more o cols col n zs xs ys us k e h l hc new p =
    let other : (r c : ℕ) → (r ≡ n → ⊥) → c < cols → cell o (put_mid (n * cols) k ys us) cols r c ≡ cell o ys cols r c = λ r c q w.
    part_outside (n * cols) k ys us o.zero (omega arith) l (r * cols + c) (λ s t. row_only r n cols c q w s (omega arith)) in
    record {
      done = λ r c s t.
          elim (cases_eq r n) [
            | inl q ↦ subst (λ (i : ℕ). cell o (put_mid (n * cols) k ys us) cols i c ≡ o.add (cell o xs cols i c) (o.mul (cell o xs cols i col) (get_or zs c o.zero))) (sym q)
                (part_inside (n * cols) k ys us o.zero (omega arith) l c (omega arith) ∙ new c t
                ∙ ap (λ x. o.add x (o.mul (cell o ys cols n col) (get_or zs c o.zero))) (p.left n c (omega arith) t)
                ∙ ap (λ x. o.add (cell o xs cols n c) (o.mul x (get_or zs c o.zero))) (p.left n col (omega arith) hc))
            | inr q ↦ other r c q t ∙ p.done r c (omega arith) t
          ];
      left = λ r c s t. other r c (λ q. omega arith) t ∙ p.left r c (omega arith) t;
    }

-- a matrix in the rows above the row `row`, that row, and the rows below it
pub record Parts {F : Type 0} (o : Ops F) (rows cols row : ℕ) (xs above source below : List F) : Type 0 where
  pub above_row : (r c : ℕ) → r < row → c < cols → cell o xs cols r c ≡ cell o above cols r c
  pub own_row : (c : ℕ) → c < cols → cell o xs cols row c ≡ get_or source c o.zero
  pub below_row : (r c : ℕ) → row + 1 + r < rows → c < cols → cell o xs cols (row + 1 + r) c ≡ cell o below cols r c

module _ {F : Type 0} (o : Ops F) (rows cols row : ℕ) (above source below past : List F) (hr : row < rows)
    (a : length above ≡ row * cols) (s : length source ≡ cols) (b : length below ≡ (rows - row - 1) * cols) where
  pub parts : Parts o rows cols row (above ++ (source ++ (below ++ past))) above source below
  parts = record {
    above_row = λ r c h l. get_or_append_left above (source ++ (below ++ past)) o.zero (r * cols + c) (omega (arith, a, row_before r row cols h));
    own_row = λ c l.
        get_or-append_right above (source ++ (below ++ past)) (row * cols) (row * cols + c) o.zero a (omega arith)
        ∙ ap (λ (j : ℕ). get_or (source ++ (below ++ past)) j o.zero) (omega arith)
        ∙ get_or_append_left source (below ++ past) o.zero c (omega (arith, s));
    below_row = λ r c h l.
        let k = (row + 1 + r) * cols + c in
        let e : k ≡ row * cols + cols + (r * cols + c) = omega (arith, add-mul (row + 1) r cols, add-mul row 1 cols, one-mul cols) in
        let f : k - row * cols - cols ≡ r * cols + c = omega arith in
        let i : r < rows - row - 1 = omega arith in
        get_or-append_right above (source ++ (below ++ past)) (row * cols) k o.zero a (omega arith)
        ∙ get_or-append_right source (below ++ past) cols (k - row * cols) o.zero s (omega arith)
        ∙ ap (λ (j : ℕ). get_or (below ++ past) j o.zero) f
        ∙ get_or_append_left below past o.zero (r * cols + c) (omega (arith, b, row_before r (rows - row - 1) cols i));
  }

  pub parts_past : (k : ℕ) → rows * cols ≤ k → get_or (above ++ (source ++ (below ++ past))) k o.zero ≡ get_or past (k - rows * cols) o.zero
  parts_past k h =
      let n = (rows - row - 1) * cols in
      get_or-append_right above (source ++ (below ++ past)) (row * cols) k o.zero a (omega (arith, rows_below rows cols row hr))
      ∙ get_or-append_right source (below ++ past) cols (k - row * cols) o.zero s (omega (arith, rows_below rows cols row hr))
      ∙ get_or-append_right below past n (k - row * cols - cols) o.zero b (omega (arith, rows_below rows cols row hr))
      ∙ ap (λ (j : ℕ). get_or past j o.zero) (omega (arith, rows_below rows cols row hr))

module _ {F : Type 0} {o : Ops F} (laws : Laws o) (rows cols row col : ℕ) (xs ys above above' source below below' : List F)
    (p : Parts o rows cols row xs above source below) (q : Parts o rows cols row ys above' source below')
    (hr : row < rows) (hc : col < cols) (a : (r : ℕ) → r < row → r * cols + cols ≤ length above) (b : (r : ℕ) → row + 1 + r < rows → r * cols + cols ≤ length below)
    (s : ClearedRows o cols col source above above') (t : ClearedRows o cols col source below below') where
  added : AddedToOthers o rows cols row (λ r. cell o xs cols r col) (cell o xs cols) (cell o ys cols)
  added = record {
    own = λ c h. q.own_row c h ∙ sym (p.own_row c h);
    others = λ r c h n l.
        elim (cases_lt r row) [
          | inl w ↦
              q.above_row r c w l ∙ s r c (a r w) l
              ∙ ap (λ x. o.add x (o.mul (cell o above cols r col) (get_or source c o.zero))) (sym (p.above_row r c w l))
              ∙ ap (λ x. o.add (cell o xs cols r c) (o.mul x (get_or source c o.zero))) (sym (p.above_row r col w hc))
              ∙ ap (λ x. o.add (cell o xs cols r c) (o.mul (cell o xs cols r col) x)) (sym (p.own_row c l))
          | inr w ↦
              let i = r - (row + 1) in
              let e : row + 1 + i ≡ r = omega arith in
              let j : row + 1 + i < rows = omega arith in
              subst (λ (r : ℕ). cell o ys cols r c ≡ o.add (cell o xs cols r c) (o.mul (cell o xs cols r col) (cell o xs cols row c))) e
              (q.below_row i c j l ∙ t i c (b i j) l
              ∙ ap (λ x. o.add x (o.mul (cell o below cols i col) (get_or source c o.zero))) (sym (p.below_row i c j l))
              ∙ ap (λ x. o.add (cell o xs cols (row + 1 + i) c) (o.mul x (get_or source c o.zero))) (sym (p.below_row i col j hc))
              ∙ ap (λ x. o.add (cell o xs cols (row + 1 + i) c) (o.mul (cell o xs cols (row + 1 + i) col) x)) (sym (p.own_row c l)))
        ];
  }

  pub cleared : cell o xs cols row col ≡ o.one → ((r c : ℕ) → rows ≤ r → c < cols → cell o ys cols r c ≡ cell o xs cols r c) → Cleared o rows cols row col xs ys
  cleared one beyond = record {
    zeros = λ r h n.
        let k = cell o xs cols r col in
        added.others r col h n hc ∙ ap (λ z. o.add k (o.mul k z)) one ∙ ap (o.add k) (laws.mul-one k) ∙ laws.add_self k;
    own = added.own;
    kept = λ r c h z.
        let x = cell o xs cols r c in
        let k = cell o xs cols r col in
        elim (cases_eq r row) [
          | inl e ↦ subst (λ (i : ℕ). cell o ys cols i c ≡ cell o xs cols i c) (sym e) (added.own c h)
          | inr n ↦ elim (cases_lt r rows) [
            | inl l ↦ added.others r c l n h ∙ ap (λ u. o.add x (o.mul k u)) z ∙ ap (o.add x) (mul-zero laws k) ∙ laws.add-zero x
            | inr l ↦ beyond r c l h
          ]
        ];
    beyond = beyond;
    same = added_equivalent laws rows cols (cell o xs cols) (cell o ys cols) row (λ r. cell o xs cols r col) hr added;
  }

-- the rows above a row and the rows below it are cleared, in the parts of a list
pub cleared_parts : {F : Type 0} {o : Ops F} (laws : Laws o) (rows cols row col : ℕ) (xs above above' source rest below new : List F)
    → row < rows → col < cols → cell o xs cols row col ≡ o.one
    → length above ≡ row * cols → length above' ≡ row * cols → length source ≡ cols
    → length (take ((rows - row - 1) * cols) below) ≡ (rows - row - 1) * cols → length new ≡ (rows - row - 1) * cols
    → xs ≡ above ++ rest → rest ≡ source ++ below
    → ClearedRows o cols col source above above' → ClearedRows o cols col source (take ((rows - row - 1) * cols) below) new
    → Cleared o rows cols row col xs (above' ++ (source ++ (new ++ drop ((rows - row - 1) * cols) below)))
cleared_parts {F} {o} laws rows cols row col xs above above' source rest below new hr hc one a a' s b b' e f t u =
    let n = (rows - row - 1) * cols in
    let whole : above ++ (source ++ (take n below ++ drop n below)) ≡ xs = ap (λ (l : List F). above ++ (source ++ l)) (take-append-drop n below) ∙ ap (λ (l : List F). above ++ l) (sym f) ∙ sym e in
    let old : Parts o rows cols row xs above source (take n below) =
    subst (λ (l : List F). Parts o rows cols row l above source (take n below)) whole (parts o rows cols row above source (take n below) (drop n below) hr a s b) in
    let past : (k : ℕ) → rows * cols ≤ k → get_or xs k o.zero ≡ get_or (drop n below) (k - rows * cols) o.zero = λ k h.
    subst (λ (l : List F). get_or l k o.zero ≡ get_or (drop n below) (k - rows * cols) o.zero) whole (parts_past o rows cols row above source (take n below) (drop n below) hr a s b k h) in
    cleared laws rows cols row col xs (above' ++ (source ++ (new ++ drop n below))) above above' source (take n below) new
    old (parts o rows cols row above' source new (drop n below) hr a' s b') hr hc
    (λ r h. omega (arith, a, row_before r row cols h))
    (λ r h. let i : r < rows - row - 1 = omega arith in omega (arith, b, row_before r (rows - row - 1) cols i))
    t u one
    (λ r c h l.
    let i : rows * cols ≤ r * cols + c = omega (arith, mul-le-mul_right cols h) in
    parts_past o rows cols row above' source new (drop n below) hr a' s b' (r * cols + c) i ∙ sym (past (r * cols + c) i))
