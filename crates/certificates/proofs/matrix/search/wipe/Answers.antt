use Rattle.std.proofs.Common.{◌≡◌, ℕ, ◌*◌, ◌++◌, length, drop, replicate, ap, ◌∙◌, subst, arith, rules}
use Rattle.algebra.specs.Grid.{Blank}
use Rattle.algebra.specs.Held.{held, Roomy}
use Rattle.certificates.proofs.Seeking.{blank_table}
use Rattle.certificates.proofs.matrix.search.wipe.Goals as goal

pub returns : goal.returns
returns g c =
    let o = g.F.Field.ops in
    let g0 = c.new-grid.result in
    let g1 = c.clear.new.self in
    let k = c.args.rows * c.args.cols in
    let area : g0.rows * g0.cols ≡ k = ap (λ (a : ℕ). a * g0.cols) c.new-grid.ensures.rows ∙ ap (λ (a : ℕ). c.args.rows * a) c.new-grid.ensures.cols in
    let room : Roomy g0 = record {
      some_row = omega (arith, c.new-grid.ensures.rows, c.requires.rows);
      some_column = omega (arith, c.new-grid.ensures.cols, c.requires.cols);
      room = omega (arith, area, c.requires.room, ap length c.new-grid.ensures.cells);
    } in
    let blank : Blank o k c.args.table.now (held g1) =
    subst (λ xs. Blank o k xs (held g1)) c.new-grid.ensures.cells (subst (λ (a : ℕ). Blank o a (held g0) (held g1)) area (c.clear.ensures.done room)) in
    let whole : held g1 ≡ replicate k o.zero ++ drop k c.args.table.now = blank_table o k c.args.table.now (held g1) c.requires.room blank in
    let lent = c.clear.ensures.held.lent ∙ c.new-grid.ensures.lent in
    search rules
