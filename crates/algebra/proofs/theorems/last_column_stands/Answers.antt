use Rattle.std.proofs.Common.{ℕ, ◌-◌, sym, subst, arith}
use Rattle.algebra.specs.Grid.{cell}
use Rattle.algebra.specs.Linear.{Dependent}
use Rattle.algebra.proofs.Solving.{pivot_was_independent, other_was_dependent}
use Rattle.algebra.proofs.theorems.last_column_stands.Goals as goal

pub returns : goal.returns
returns g c rows cols rank xs ys e h =
    let o = g.F.Field.ops in
    let laws = g.F.Field.laws in (
      (λ d q l w. pivot_was_independent laws rows cols rank xs ys e q l (subst (λ (i : ℕ). Dependent o rows (cell o xs cols) i) (sym w) d)),
      other_was_dependent laws rows cols rank xs ys e (cols - 1) (omega arith),
    )
