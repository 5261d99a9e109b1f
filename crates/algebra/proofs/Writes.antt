-- What a row becomes that is written as a part of the list, and two rows that are exchanged as parts of it.
use Rattle.std.proofs.Common.{◌≡◌, ℕ, ◌+◌, ◌-◌, ◌*◌, ◌<◌, ◌≤◌, List, ◌++◌, length, take, drop, get_or, sym, ap, ◌∙◌, subst, inl, inr, arith, length-drop}
use Rattle.std.proofs.lemmas.Bool.{cases_lt}
use Rattle.std.proofs.lemmas.List.{length-take-le, get_or_append_left, get_or-append_right, get_or-take, get_or-drop}
use borrow.Rule.Slice.PartMut.{put_mid}
use Rattle.fields.specs.Field.{Ops, Laws}
use Rattle.algebra.specs.Grid.{cell, Added, BlankBefore, Swapped, Scaled}
use Rattle.algebra.proofs.Sums.{mul-zero, zero-mul}
use Rattle.algebra.proofs.Places.{row_before, row_only, part_read, part_long, part_inside, part_outside, put_mid_long}

-- a row and one below it are exchanged, as parts of the slices before the lower row and from it on
pub swapped_parts : {F : Type 0} (o : Ops F) (cols a b n : ℕ) (xs above below upper lower : List F) → a < b → b * cols + cols ≤ length xs → n ≡ cols
    → above ≡ take (b * cols) xs → below ≡ drop (b * cols) xs → upper ≡ take cols below → lower ≡ take n (drop (a * cols) above)
    → Swapped o cols a b xs (put_mid (a * cols) n above upper ++ (lower ++ drop cols below))
swapped_parts {F} o cols a b n xs above below upper lower order within e f g u l =
    let before : a * cols + cols ≤ b * cols = row_before a b cols order in
    let long : length above ≡ b * cols = ap length f ∙ length-take-le (b * cols) xs (omega arith) in
    let rest : length below ≡ length xs - b * cols = ap length g ∙ length-drop (b * cols) xs in
    let upper_long : length upper ≡ n = ap length u ∙ length-take-le cols below (omega arith) ∙ sym e in
    let lower_long : length lower ≡ cols = ap length l ∙ part_long (a * cols) n above (omega arith) ∙ e in
    let front = put_mid (a * cols) n above upper in
    let front_long : length front ≡ b * cols = put_mid_long (a * cols) n above upper (omega arith) upper_long ∙ long in
    let back = lower ++ drop cols below in
    let in_front : (k : ℕ) → k < b * cols → get_or (front ++ back) k o.zero ≡ get_or front k o.zero = λ k h. get_or_append_left front back o.zero k (omega (arith, front_long)) in
    let in_back : (k : ℕ) → b * cols ≤ k → get_or (front ++ back) k o.zero ≡ get_or back (k - b * cols) o.zero = λ k h. get_or-append_right front back (b * cols) k o.zero front_long h in
    let old_above : (k : ℕ) → k < b * cols → get_or above k o.zero ≡ get_or xs k o.zero = λ k h. ap (λ (zs : List F). get_or zs k o.zero) f ∙ get_or-take (b * cols) xs k o.zero h in
    let old_below : (k : ℕ) → get_or below k o.zero ≡ get_or xs (b * cols + k) o.zero = λ k. ap (λ (zs : List F). get_or zs k o.zero) g ∙ get_or-drop (b * cols) xs k o.zero in
    record {
      first = λ c h.
          in_front (a * cols + c) (omega arith) ∙ part_inside (a * cols) n above upper o.zero (omega arith) upper_long c (omega arith)
          ∙ ap (λ (zs : List F). get_or zs c o.zero) u ∙ get_or-take cols below c o.zero h ∙ old_below c;
      second = λ c h.
          in_back (b * cols + c) (omega arith) ∙ ap (λ (k : ℕ). get_or back k o.zero) (omega arith) ∙ get_or_append_left lower (drop cols below) o.zero c (omega arith)
          ∙ ap (λ (zs : List F). get_or zs c o.zero) l ∙ part_read (a * cols) n above o.zero c (omega arith) ∙ old_above (a * cols + c) (omega arith);
      others = λ r c p q h.
          let k = r * cols + c in
          elim (cases_lt k (b * cols)) [
            | inl s ↦ in_front k s ∙ part_outside (a * cols) n above upper o.zero (omega arith) upper_long k (λ v w. row_only r a cols c p h v (omega arith)) ∙ old_above k s
            | inr s ↦
                let m : b * cols + cols ≤ k = elim (cases_lt k (b * cols + cols)) [ inl w ↦ absurd (row_only r b cols c q h s w) | inr w ↦ w ] in
                in_back k s ∙ get_or-append_right lower (drop cols below) cols (k - b * cols) o.zero lower_long (omega arith)
                ∙ get_or-drop cols below (k - b * cols - cols) o.zero ∙ old_below (cols + (k - b * cols - cols)) ∙ ap (λ (j : ℕ). get_or xs j o.zero) (omega arith)
          ];
    }

-- zero times a row changes nothing
pub added_none : {F : Type 0} {o : Ops F} (laws : Laws o) (factor : F) (zs xs : List F) → factor ≡ o.zero → Added o factor zs xs xs
added_none {o = o} laws factor zs xs e c h =
    let x = get_or xs c o.zero in
    let z = get_or zs c o.zero in
    sym (ap (λ f. o.add x (o.mul f z)) e ∙ ap (o.add x) (zero-mul laws z) ∙ laws.add-zero x)

-- a row that is zero before the column `col` is added from there on
pub added_part : {F : Type 0} {o : Ops F} (laws : Laws o) (col n : ℕ) (factor : F) (zs xs us : List F) → col + n ≡ length xs → length us ≡ n → BlankBefore o col zs
    → ((i : ℕ) → i < n → get_or us i o.zero ≡ o.add (get_or xs (col + i) o.zero) (o.mul factor (get_or zs (col + i) o.zero)))
    → Added o factor zs xs (put_mid col n xs us)
added_part {o = o} laws col n factor zs xs us e l blank p c h =
    let x = get_or xs c o.zero in
    elim (cases_lt c col) [
      | inl w ↦
          part_outside col n xs us o.zero (omega arith) l c (λ s t. omega arith)
          ∙ sym (ap (λ z. o.add x (o.mul factor z)) (blank c w) ∙ ap (o.add x) (mul-zero laws factor) ∙ laws.add-zero x)
      | inr w ↦
          let i = c - col in
          let q : col + i ≡ c = omega arith in
          subst (λ (j : ℕ). get_or (put_mid col n xs us) j o.zero ≡ o.add (get_or xs j o.zero) (o.mul factor (get_or zs j o.zero))) q
          (part_inside col n xs us o.zero (omega arith) l i (omega arith) ∙ p i (omega arith))
    ]

-- a row is scaled where its part of the list is
pub scaled_part : {F : Type 0} (o : Ops F) (cols row n : ℕ) (factor : F) (xs ys : List F) → n ≡ cols → row * cols + cols ≤ length xs → length ys ≡ n
    → ((k : ℕ) → k < n → get_or ys k o.zero ≡ o.mul factor (cell o xs cols row k))
    → Scaled o cols row factor xs (put_mid (row * cols) n xs ys)
scaled_part o cols row n factor xs ys e h l p = record {
  there = λ c k. part_inside (row * cols) n xs ys o.zero (omega arith) l c (omega arith) ∙ p c (omega arith);
  others = λ r c q k. part_outside (row * cols) n xs ys o.zero (omega arith) l (r * cols + c) (λ w v. row_only r row cols c q k w (omega arith));
}
