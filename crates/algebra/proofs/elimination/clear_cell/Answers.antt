use Rattle.std.proofs.Common.{◌≡◌, ◌-◌, length, get_or, sym, ◌∙◌, arith, rules}
use Rattle.std.proofs.lemmas.List.{get_or_read}
use Rattle.algebra.proofs.Places.{part_read, part_long}
use Rattle.algebra.proofs.Writes.{added_none, added_part}
use Rattle.algebra.proofs.elimination.clear_cell.Goals as goal

pub returns-then-not-is_zero : goal.returns-then-not-is_zero
returns-then-not-is_zero g c =
    let o = g.F.Field.ops in
    let a = c.args in
    let xs = a.target.now in
    let zs = a.source.now in
    let n = length xs - a.col in
    let k = get_or_read xs a.col c.index-target-col.result (omega arith) c.index-target-col.is o.zero in
    added_part g.F.Field.laws a.col n (get_or xs a.col o.zero) zs xs c.add_multiple.new.target (omega arith) (search rules) c.requires.blank
    (λ i l.
    let x = part_read a.col n xs o.zero i l in
    let z = part_read a.col (length zs - a.col) zs o.zero i (omega arith) in
    let e = c.add_multiple.ensures i (omega (arith, part_long a.col n xs (omega arith))) in cc)

pub returns-else-not-is_zero : goal.returns-else-not-is_zero
returns-else-not-is_zero g c =
    let o = g.F.Field.ops in
    let a = c.args in
    let k = get_or_read a.target.now a.col c.index-target-col.result (omega arith) c.index-target-col.is o.zero in
    let z : c.index-target-col.result ≡ o.zero = search rules in
    added_none g.F.Field.laws (get_or a.target.now a.col o.zero) a.source.now a.target.now (sym k ∙ z)
