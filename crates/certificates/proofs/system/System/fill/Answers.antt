use Rattle.std.proofs.Common.{◌≡◌, ℕ, ◌+◌, ◌*◌, ◌<◌, ◌≤◌, length, set, sym, ap, ◌∙◌, subst, arith}
use Rattle.algebra.specs.Grid.{Kept}
use Rattle.algebra.specs.Held.{held, Inside}
use Rattle.algebra.proofs.Places.{cell_in}
use Rattle.coloring.specs.Encoding.{over}
use Rattle.polynomials.specs.Monomial.{count}
use Rattle.polynomials.specs.Product.{products}
use Rattle.polynomials.proofs.Ranks.{count_positive}
use Rattle.certificates.specs.declared.sizes.Sizes.{Sizes}
use Rattle.certificates.specs.Matrix.{Begun, Filled}
use Rattle.certificates.proofs.Filling.{begun_filled}
use Rattle.certificates.proofs.Grids.{held_then, roomy_then, kept_then, kept_set}
use Rattle.certificates.proofs.system.System.fill.Goals as goal

pub returns : goal.returns
returns g c =
    let o = g.E.Coeff.Field.ops in
    let gr = c.args.self.now.graph.now in
    let n = gr.vertices in
    let d = c.args.self.now.sizes.degree in
    let eqs = over (g.E.Encoding.lists c.args.self.now.encoding.now) gr in
    let z = c.args.self.now.measured.is in
    let P = products n d eqs in
    let g0 = c.args.grid.now in
    let g1 = c.loop-equation.grid in
    let end : c.loop-equation.equation * c.args.self.now.sizes.multipliers ≡ P =
    ap (λ (a : ℕ). a * c.args.self.now.sizes.multipliers) (omega arith ∙ ap (λ (s : Sizes). s.equations) z) ∙ ap (λ (s : Sizes). length eqs * s.multipliers) z in
    let begun : Begun o n d eqs P (held g1) = subst (λ (k : ℕ). Begun o n d eqs k (held g1)) end c.loop-equation.invariant.2 in
    let rows : g1.rows ≡ count n (d + 3) = c.loop-equation.invariant.0.rows ∙ c.requires.rows.rows ∙ ap (λ (s : Sizes). s.rows) z in
    let cols : g1.cols ≡ P + 1 = c.loop-equation.invariant.0.cols ∙ c.requires.columns ∙ ap (λ (s : Sizes). s.products + 1) z in
    let room = roomy_then g0 g1 c.loop-equation.invariant.0 c.loop-equation.invariant.1.long c.requires.rows.room in
    let last : c.args.self.now.sizes.products ≡ P = ap (λ (s : Sizes). s.products) z in
    let inside : Inside g1 0 c.args.self.now.sizes.products = record { room = room; below = room.some_row; left = omega (arith, cols, last) } in
    let g2 = c.set.new.self in
    let written : held g2 ≡ set (held g1) (0 * (P + 1) + P) o.one =
    c.set.ensures.cell.inside inside
    ∙ ap (λ (a : ℕ). set (held g1) (0 * a + c.args.self.now.sizes.products) c.one.result) cols
    ∙ ap (λ (a : ℕ). set (held g1) (0 * (P + 1) + a) c.one.result) last
    ∙ ap (set (held g1) (0 * (P + 1) + P)) c.one.ensures in
    let area : g0.rows * g0.cols ≡ count n (d + 3) * (P + 1) =
    ap (λ (a : ℕ). a * g0.cols) (c.requires.rows.rows ∙ ap (λ (s : Sizes). s.rows) z) ∙ ap (λ (a : ℕ). count n (d + 3) * a) (c.requires.columns ∙ ap (λ (s : Sizes). s.products + 1) z) in
    let some = count_positive n (d + 3) gr.few in
    let place : 0 * (P + 1) + P < g0.rows * g0.cols = subst (λ (a : ℕ). 0 * (P + 1) + P < a) (sym area) (cell_in 0 P (count n (d + 3)) (P + 1) (count n (d + 3) * (P + 1)) some (omega arith) (omega arith)) in
    let fits : count n (d + 3) * (P + 1) ≤ length (held g1) = subst (λ (a : ℕ). a ≤ length (held g1)) (ap (λ (a : ℕ). a * g1.cols) rows ∙ ap (λ (a : ℕ). count n (d + 3) * a) cols) room.room in
    record {
      held = held_then g0 g1 g2 c.loop-equation.invariant.0 c.set.ensures.held;
      kept = kept_then o (g0.rows * g0.cols) (held g0) (held g1) (held g2) c.loop-equation.invariant.1 (subst (λ zs. Kept o (g0.rows * g0.cols) (held g1) zs) (sym written) (kept_set o (g0.rows * g0.cols) (held g1) (0 * (P + 1) + P) o.one place));
      filled = subst (λ zs. Filled o n d eqs zs) (sym written) (begun_filled g.E.Coeff.Field.laws n d eqs (held g1) gr.few some fits begun);
    }
