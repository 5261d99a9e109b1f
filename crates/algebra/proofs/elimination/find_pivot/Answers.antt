use Rattle.std.proofs.Common.{◌≡◌, rules, tests}
use Rattle.std.proofs.lemmas.Iterator.{first_from_Range}
use Rattle.algebra.specs.Grid.{cell}
use Rattle.algebra.proofs.Turns.{first_nonzero}
use Rattle.algebra.proofs.elimination.find_pivot.Goals as goal

pub returns : goal.returns
returns g c =
    let o = g.F.Field.ops in
    let a = c.args in
    let xs = a.cells.now in
    first_nonzero o xs a.cols a.from a.rows a.col c.find.result
    (first_from_Range _ _ _ _ (λ i. cell o xs a.cols i a.col ≡ o.zero → ⊥) (λ i. cell o xs a.cols i a.col ≡ o.zero) c.find.ensures.ran
    (λ x q k. search (rules, tests))
    (λ x q k. (search rules, search (rules, tests))))
