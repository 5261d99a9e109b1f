use Rattle.std.proofs.Common.{◌≡◌, ℕ, ◌+◌, ◌*◌, ◌<◌, length, sym, ap, ◌∙◌, subst, arith, rules}
use Rattle.algebra.specs.Grid.{Kept}
use Rattle.algebra.specs.Held.{held, Roomy}
use Rattle.algebra.specs.Reduced.{Solved}
use Rattle.coloring.specs.Encoding.{over}
use Rattle.graphs.specs.Graph.{joined}
use Rattle.polynomials.specs.Monomial.{count}
use Rattle.polynomials.specs.Product.{products}
use Rattle.polynomials.proofs.Ranks.{count_positive}
use Rattle.certificates.specs.declared.sizes.Sizes.{Sizes}
use Rattle.certificates.specs.Outcome.{Decided}
use Rattle.certificates.proofs.Deciding.{formed, decided}
use Rattle.certificates.proofs.Grids.{held_then, roomy_then, kept_then}
use Rattle.certificates.proofs.system.System.solve.Goals as goal

pub fill-requires : goal.fill-requires
fill-requires g c =
    let gr = c.args.self.now.graph.now in
    let z = c.args.self.now.measured.is in
    let g0 = c.new-grid.result in
    let g1 = c.clear.new.self in
    let rows : g0.rows ≡ c.args.self.now.sizes.rows = c.new-grid.ensures.rows in
    let cols : g0.cols ≡ c.args.self.now.sizes.products + 1 = c.new-grid.ensures.cols in
    let area : g0.rows * g0.cols ≡ c.args.self.now.sizes.cells =
    ap (λ (a : ℕ). a * g0.cols) rows ∙ ap (λ (a : ℕ). c.args.self.now.sizes.rows * a) cols ∙ ap (λ (s : Sizes). s.rows * (s.products + 1)) z ∙ sym (ap (λ (s : Sizes). s.cells) z) in
    let room : Roomy g0 = record {
      some_row = omega (arith, rows, ap (λ (s : Sizes). s.rows) z, count_positive gr.vertices (c.args.self.now.sizes.degree + 3) gr.few);
      some_column = omega (arith, cols);
      room = omega (arith, area, c.requires, ap length c.new-grid.ensures.cells);
    } in
    let blank = c.clear.ensures.done room in
    record {
      rows = record { room = roomy_then g0 g1 c.clear.ensures.held blank.kept.long room; rows = c.clear.ensures.held.rows ∙ rows };
      columns = c.clear.ensures.held.cols ∙ cols;
      blank = λ k h. blank.zeros k (subst (λ (a : ℕ). k < a) (ap (λ (a : ℕ). a * g1.cols) c.clear.ensures.held.rows ∙ ap (λ (a : ℕ). g0.rows * a) c.clear.ensures.held.cols) h);
    }

pub returns : goal.returns
returns g c =
    let o = g.E.Coeff.Field.ops in
    let gr = c.args.self.now.graph.now in
    let n = gr.vertices in
    let d = c.args.self.now.sizes.degree in
    let eqs = over (g.E.Encoding.lists c.args.self.now.encoding.now) gr in
    let z = c.args.self.now.measured.is in
    let g0 = c.new-grid.result in
    let g1 = c.clear.new.self in
    let g2 = c.fill.new.grid in
    let g3 = c.solve.new.self in
    let rows : g0.rows ≡ count n (d + 3) = c.new-grid.ensures.rows ∙ ap (λ (s : Sizes). s.rows) z in
    let cols : g0.cols ≡ products n d eqs + 1 = c.new-grid.ensures.cols ∙ ap (λ (s : Sizes). s.products + 1) z in
    let area : g0.rows * g0.cols ≡ c.args.self.now.sizes.cells = ap (λ (a : ℕ). a * g0.cols) rows ∙ ap (λ (a : ℕ). count n (d + 3) * a) cols ∙ sym (ap (λ (s : Sizes). s.cells) z) in
    let room : Roomy g0 = record {
      some_row = omega (arith, rows, count_positive n (d + 3) gr.few);
      some_column = omega (arith, cols);
      room = omega (arith, area, c.requires, ap length c.new-grid.ensures.cells);
    } in
    let blank = c.clear.ensures.done room in
    let held12 = held_then g0 g1 g2 c.clear.ensures.held c.fill.ensures.held in
    let area1 : g1.rows * g1.cols ≡ c.args.self.now.sizes.cells = ap (λ (a : ℕ). a * g1.cols) c.clear.ensures.held.rows ∙ ap (λ (a : ℕ). g0.rows * a) c.clear.ensures.held.cols ∙ area in
    let area2 : g2.rows * g2.cols ≡ c.args.self.now.sizes.cells = ap (λ (a : ℕ). a * g2.cols) held12.rows ∙ ap (λ (a : ℕ). g0.rows * a) held12.cols ∙ area in
    let kept1 : Kept o c.args.self.now.sizes.cells (held g0) (held g1) = subst (λ (a : ℕ). Kept o a (held g0) (held g1)) area blank.kept in
    let kept2 : Kept o c.args.self.now.sizes.cells (held g1) (held g2) = subst (λ (a : ℕ). Kept o a (held g1) (held g2)) area1 c.fill.ensures.kept in
    let kept12 = kept_then o c.args.self.now.sizes.cells (held g0) (held g1) (held g2) kept1 kept2 in
    let room2 : Roomy g2 = roomy_then g0 g2 held12 kept12.long room in
    let done = c.solve.ensures.done room2 in
    let solved : Solved o (count n (d + 3)) (products n d eqs + 1) (held g2) (held g3) c.solve.result =
    subst (λ (a : ℕ). Solved o a (products n d eqs + 1) (held g2) (held g3) c.solve.result) (held12.rows ∙ rows) (subst (λ (a : ℕ). Solved o g2.rows a (held g2) (held g3) c.solve.result) (held12.cols ∙ cols) done) in
    let kept3 : Kept o c.args.self.now.sizes.cells (held g2) (held g3) = subst (λ (a : ℕ). Kept o a (held g2) (held g3)) area2 done.kept in
    let kept03 = kept_then o c.args.self.now.sizes.cells (held g0) (held g2) (held g3) kept12 kept3 in
    let all : Kept o c.args.self.now.sizes.cells c.args.table.now (held g3) = subst (λ xs. Kept o c.args.self.now.sizes.cells xs (held g3)) c.new-grid.ensures.cells kept03 in
    let told : Decided o n d eqs (held g3) c.solve.result =
    decided g.E.Coeff.Field.laws n d eqs (formed o (g.E.Encoding.lists c.args.self.now.encoding.now) _ n (joined gr) (g.met.E.Encoding.bounded c.args.self.now.encoding.now) gr.few) (held g2) (held g3) c.solve.result c.fill.ensures.filled solved in
    let lent = (held_then g0 g2 g3 held12 c.solve.ensures.held).lent ∙ c.new-grid.ensures.lent in
    record { decided = search rules; kept = search rules }
