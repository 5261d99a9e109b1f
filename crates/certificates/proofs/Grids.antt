-- A grid's slice from call to call: it stays the same slice, with room for the same rows and columns. Assumes nothing.
use Rattle.std.proofs.Common.{◌≡◌, ℕ, ◌+◌, ◌*◌, ◌<◌, ◌≤◌, List, length, get_or, take, set, sym, refl, ap, ◌∙◌, subst, arith, length-set, get_or-set_other}
use Rattle.fields.specs.Field.{Ops, Laws}
use Rattle.algebra.specs.Grid.{Kept, cell}
use Rattle.algebra.specs.Held.{held, Roomy, Held, Inside, Got, Put}
use Rattle.algebra.specs.declared.elimination.grid.Grid.{Grid}
use Rattle.monomials.specs.Order.{rank_of}
use Rattle.polynomials.specs.declared.term.Term.{Term}
use Rattle.polynomials.specs.Monomial.{Monomial, count}
use Rattle.certificates.specs.Matrix.{Summed}
use Rattle.coloring.specs.Absent.{absent}
use Rattle.coloring.specs.Encoding.{Sound}
use Rattle.polynomials.specs.Polynomial.{plus, scaled, times}
use Rattle.polynomials.proofs.Entries.{times_at, times_length, scaled_at, scaled_length}
use Rattle.polynomials.proofs.Ranks.{ranked, plus_monomial}
use Rattle.certificates.proofs.Columns.{summed_more}
use Rattle.certificates.proofs.Terms.{sound_monomial}

module _ {F : Type 0} where
  pub held_self : (g : Grid F) → Held g g
  held_self g = record { lent = refl; rows = refl; cols = refl }

  pub held_then : (g h k : Grid F) → Held g h → Held h k → Held g k
  held_then g h k p q = record { lent = q.lent ∙ p.lent; rows = q.rows ∙ p.rows; cols = q.cols ∙ p.cols }

  -- as long a slice has as much room
  pub roomy_then : (g h : Grid F) → Held g h → length (held h) ≡ length (held g) → Roomy g → Roomy h
  roomy_then g h p e r = record {
    some_row = subst (λ (k : ℕ). 0 < k) (sym p.rows) r.some_row;
    some_column = subst (λ (k : ℕ). 0 < k) (sym p.cols) r.some_column;
    room = subst (λ (k : ℕ). h.rows * h.cols ≤ k) (sym e) (subst (λ (a : ℕ). a * h.cols ≤ length (held g)) (sym p.rows) (subst (λ (b : ℕ). g.rows * b ≤ length (held g)) (sym p.cols) r.room));
  }

module _ {F : Type 0} {o : Ops F} (laws : Laws o) (n d column : ℕ) (few : n ≤ 24) (p : List (Term F)) (g : Grid F) (room : Roomy g) (rows : g.rows ≡ count n (d + 3)) (inside : column < g.cols) where
  -- one term more is added into the column
  pub term_added : (k row : ℕ) (t : Term F) (h j : Grid F) (x v : F) → k < length p → Monomial n (d + 3) (get_or p k t).exponents → row < count n (d + 3)
      → row ≡ rank_of (take n (get_or p k t).exponents) → Got o h row column x → v ≡ o.add x (get_or p k t).coeff → Held h j → Put h j row column v
      → Held g h → Summed o n d g.cols column (take k p) (held g) (held h)
      → Held g j × Summed o n d g.cols column (take (k + 1) p) (held g) (held j)
  term_added k row t h j x v l mono below is got sum kept put before s =
      let roomy = roomy_then g h before s.kept.long room in
      let within : Inside h row column = record {
        room = roomy;
        below = subst (λ (a : ℕ). row < a) (sym (before.rows ∙ rows)) below;
        left = subst (λ (a : ℕ). column < a) (sym before.cols) inside;
      } in
      let read : x ≡ cell o (held h) g.cols row column = got.inside within ∙ ap (λ (c : ℕ). cell o (held h) c row column) before.cols in
      let written : held j ≡ set (held h) (row * g.cols + column) v = put.inside within ∙ ap (λ (c : ℕ). set (held h) (row * c + column) v) before.cols in
      let fits : count n (d + 3) * g.cols ≤ length (held h) =
      subst (λ (a : ℕ). a * g.cols ≤ length (held h)) rows (subst (λ (a : ℕ). g.rows * g.cols ≤ a) (sym s.kept.long) room.room) in (
        held_then g h j before kept,
        subst (λ (zs : List F). Summed o n d g.cols column (take (k + 1) p) (held g) zs) (sym written)
            (summed_more laws n d g.cols column few inside p (held g) k row t (held h) v l fits mono below is (sum ∙ ap (λ (z : F). o.add z (get_or p k t).coeff) read) s),
      )

module _ {F : Type 0} {o : Ops F} (laws : Laws o) (n d column : ℕ) (few : n ≤ 24) (m : List ℕ) (mono : Monomial n d m) (f : F) (e : List (Term F)) (g : Grid F) (room : Roomy g) (rows : g.rows ≡ count n (d + 3)) (inside : column < g.cols) where
  -- the same for the term r of the equation e, times the monomial m and the factor f
  pub term_turn : (k row : ℕ) (r : Term F) (exponents : List ℕ) (h j : Grid F) (x y v : F) → k < length e → r ≡ get_or e k (absent o) → Sound o n (get_or e k (absent o))
      → exponents ≡ plus m r.exponents → row ≡ rank_of (take n exponents) → Got o h row column x → y ≡ o.mul f r.coeff → v ≡ o.add x y → Held h j → Put h j row column v
      → Held g h → Summed o n d g.cols column (take k (scaled o f (times m e))) (held g) (held h)
      → Held g j × Summed o n d g.cols column (take (k + 1) (scaled o f (times m e))) (held g) (held j)
  term_turn k row r exponents h j x y v l is sound sums rank got product sum kept put before s =
      let t = get_or e k (absent o) in
      let p = scaled o f (times m e) in
      let inner : k < length (times m e) = subst (λ (a : ℕ). k < a) (sym (times_length m e)) l in
      let long : k < length p = subst (λ (a : ℕ). k < a) (sym (scaled_length o f (times m e))) inner in
      let at : get_or p k (absent o) ≡ record { coeff = o.mul f t.coeff; exponents = plus m t.exponents } =
      scaled_at o f (times m e) k (absent o) (absent o) inner
      ∙ ap (λ (u : Term F). record { coeff = o.mul f u.coeff; exponents = u.exponents }) (times_at m e k (absent o) (absent o) l) in
      let same : (get_or p k (absent o)).exponents ≡ exponents = ap (λ (u : Term F). u.exponents) at ∙ ap (λ (u : Term F). plus m u.exponents) (sym is) ∙ sym sums in
      let value : y ≡ (get_or p k (absent o)).coeff = product ∙ ap (λ (u : Term F). o.mul f u.coeff) is ∙ sym (ap (λ (u : Term F). u.coeff) at) in
      let high : Monomial n (d + 3) (get_or p k (absent o)).exponents =
      subst (λ (z : List ℕ). Monomial n (d + 3) z) (sym (ap (λ (u : Term F). u.exponents) at)) (plus_monomial n d 3 m t.exponents mono (sound_monomial n t sound)) in
      let row_is : row ≡ rank_of (take n (get_or p k (absent o)).exponents) = rank ∙ ap (λ (z : List ℕ). rank_of (take n z)) (sym same) in
      let below : row < count n (d + 3) = subst (λ (a : ℕ). a < count n (d + 3)) (sym row_is) (ranked n (d + 3) (get_or p k (absent o)).exponents few high).below in
      term_added laws n d column few p g room rows inside k row (absent o) h j x v long high below row_is got (sum ∙ ap (o.add x) value) kept put before s

-- what lies behind the grid stays
pub kept_self : {F : Type 0} (o : Ops F) (n : ℕ) (xs : List F) → Kept o n xs xs
kept_self o n xs = record { long = refl; beyond = λ k h. refl }

pub kept_then : {F : Type 0} (o : Ops F) (n : ℕ) (xs ys zs : List F) → Kept o n xs ys → Kept o n ys zs → Kept o n xs zs
kept_then o n xs ys zs p q = record { long = q.long ∙ p.long; beyond = λ k h. q.beyond k h ∙ p.beyond k h }

pub kept_set : {F : Type 0} (o : Ops F) (n : ℕ) (xs : List F) (i : ℕ) (x : F) → i < n → Kept o n xs (set xs i x)
kept_set o n xs i x h = record { long = length-set xs i x; beyond = λ k l. get_or-set_other xs i k x o.zero (λ e. omega arith) }
