use Rattle.std.proofs.Common.{◌≡◌, ℕ, ◌+◌, ◌*◌, ◌<◌, length, ap, ◌∙◌, subst, arith, rules}
use Rattle.algebra.specs.Grid.{Kept}
use Rattle.algebra.specs.Held.{held, Roomy}
use Rattle.polynomials.proofs.Ranks.{count_positive}
use Rattle.certificates.specs.declared.sizes.Sizes.{Sizes}
use Rattle.certificates.proofs.Grids.{held_then, roomy_then, kept_then}
use Rattle.certificates.proofs.system.System.sum.Goals as goal

pub add_products-requires : goal.add_products-requires
add_products-requires g c =
    let gr = c.args.self.now.graph.now in
    let z = c.args.self.now.measured.is in
    let g0 = c.new-grid.result in
    let g1 = c.clear.new.self in
    let rows : g0.rows ≡ c.args.self.now.sizes.rows = c.new-grid.ensures.rows in
    let cols : g0.cols ≡ 1 = c.new-grid.ensures.cols in
    let area : g0.rows * g0.cols ≡ c.args.self.now.sizes.rows = omega (arith, rows, ap (λ (a : ℕ). g0.rows * a) cols) in
    let room : Roomy g0 = record {
      some_row = omega (arith, rows, ap (λ (s : Sizes). s.rows) z, count_positive gr.vertices (c.args.self.now.sizes.degree + 3) gr.few);
      some_column = omega (arith, cols);
      room = omega (arith, area, c.requires, ap length c.new-grid.ensures.cells);
    } in
    let blank = c.clear.ensures.done room in
    record {
      rows = record { room = roomy_then g0 g1 c.clear.ensures.held blank.kept.long room; rows = c.clear.ensures.held.rows ∙ rows };
      column = c.clear.ensures.held.cols ∙ cols;
      blank = λ k h. blank.zeros k (subst (λ (a : ℕ). k < a) (ap (λ (a : ℕ). a * g1.cols) c.clear.ensures.held.rows ∙ ap (λ (a : ℕ). g0.rows * a) c.clear.ensures.held.cols) h);
    }

pub returns : goal.returns
returns g c =
    let o = g.E.Coeff.Field.ops in
    let gr = c.args.self.now.graph.now in
    let z = c.args.self.now.measured.is in
    let g0 = c.new-grid.result in
    let g1 = c.clear.new.self in
    let g2 = c.add_products.new.grid in
    let rows : g0.rows ≡ c.args.self.now.sizes.rows = c.new-grid.ensures.rows in
    let cols : g0.cols ≡ 1 = c.new-grid.ensures.cols in
    let area : g0.rows * g0.cols ≡ c.args.self.now.sizes.rows = omega (arith, rows, ap (λ (a : ℕ). g0.rows * a) cols) in
    let room : Roomy g0 = record {
      some_row = omega (arith, rows, ap (λ (s : Sizes). s.rows) z, count_positive gr.vertices (c.args.self.now.sizes.degree + 3) gr.few);
      some_column = omega (arith, cols);
      room = omega (arith, area, c.requires, ap length c.new-grid.ensures.cells);
    } in
    let cleared : Kept o c.args.self.now.sizes.rows (held g0) (held g1) = subst (λ (a : ℕ). Kept o a (held g0) (held g1)) area (c.clear.ensures.done room).kept in
    let all : Kept o c.args.self.now.sizes.rows c.args.table.now (held g2) =
    subst (λ xs. Kept o c.args.self.now.sizes.rows xs (held g2)) c.new-grid.ensures.cells (kept_then o c.args.self.now.sizes.rows (held g0) (held g1) (held g2) cleared c.add_products.ensures.kept) in
    let totals = c.add_products.ensures.totals in
    let lent = (held_then g0 g1 g2 c.clear.ensures.held c.add_products.ensures.held).lent ∙ c.new-grid.ensures.lent in
    record { totals = search rules; kept = search rules }
