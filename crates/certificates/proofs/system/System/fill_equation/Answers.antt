use Rattle.std.proofs.Common.{◌≡◌, ℕ, ◌+◌, ◌*◌, ◌<◌, length, sym, ap, ◌∙◌, subst, add-mul, one-mul, arith}
use Rattle.algebra.specs.Grid.{Kept}
use Rattle.algebra.specs.Held.{held}
use Rattle.coloring.specs.Encoding.{over}
use Rattle.polynomials.specs.Monomial.{count, monomial_at, Monomial}
use Rattle.polynomials.specs.Product.{products}
use Rattle.polynomials.proofs.Ranks.{monomial_at_lem}
use Rattle.certificates.specs.declared.sizes.Sizes.{Sizes}
use Rattle.certificates.specs.Matrix.{Begun}
use Rattle.certificates.proofs.Filling.{column_turn, column_below}
use Rattle.certificates.proofs.Grids.{held_then, roomy_then, kept_then}
use Rattle.certificates.proofs.system.System.fill_equation.Goals as goal

pub add_product-requires : goal.add_product-requires
add_product-requires g c =
    let gr = c.args.self.now.graph.now in
    let n = gr.vertices in
    let d = c.args.self.now.sizes.degree in
    let eqs = over (g.E.Encoding.lists c.args.self.now.encoding.now) gr in
    let below : c.loop-rank.rank < count n d = omega (arith, c.loop-rank-test.true, (ap (λ (s : Sizes). s.multipliers) c.args.self.now.measured.is)) in
    let here : c.multiplier-monomial.result ≡ monomial_at n d c.loop-rank.rank = c.multiplier-monomial.ensures in
    let column : c.args.equation * c.args.self.now.sizes.multipliers + c.loop-rank.rank < products n d eqs =
    subst (λ (m : ℕ). c.args.equation * m + c.loop-rank.rank < products n d eqs) (sym (ap (λ (s : Sizes). s.multipliers) c.args.self.now.measured.is)) (column_below c.args.equation c.loop-rank.rank (count n d) (length eqs) c.requires.listed below) in
    record {
      listed = c.requires.listed;
      monomial = subst (Monomial n d) (sym here) (monomial_at_lem n d c.loop-rank.rank gr.few below);
      rows = record { room = roomy_then c.args.grid.now c.loop-rank.grid c.loop-rank.invariant.0 c.loop-rank.invariant.1.long c.requires.rows.room; rows = c.loop-rank.invariant.0.rows ∙ c.requires.rows.rows };
      column = omega (arith, column, c.loop-rank.invariant.0.cols, (c.requires.columns ∙ ap (λ (s : Sizes). s.products + 1) c.args.self.now.measured.is));
    }

pub loop-rank-preserved : goal.loop-rank-preserved
loop-rank-preserved g c =
    let o = g.E.Coeff.Field.ops in
    let gr = c.args.self.now.graph.now in
    let n = gr.vertices in
    let d = c.args.self.now.sizes.degree in
    let before = c.loop-rank.grid in
    let after = c.add_product.new.grid in
    let turn = column_turn g.E.Coeff.Field.laws n d (over (g.E.Encoding.lists c.args.self.now.encoding.now) gr) c.args.equation c.loop-rank.rank c.args.self.now.sizes.multipliers before.cols c.multiplier-monomial.result c.one.result (held before) (held after) c.requires.listed
    (omega (arith, c.loop-rank-test.true, (ap (λ (s : Sizes). s.multipliers) c.args.self.now.measured.is))) (ap (λ (s : Sizes). s.multipliers) c.args.self.now.measured.is) (c.multiplier-monomial.ensures) c.one.ensures (c.loop-rank.invariant.0.cols ∙ (c.requires.columns ∙ ap (λ (s : Sizes). s.products + 1) c.args.self.now.measured.is)) c.add_product.ensures.summed c.loop-rank.invariant.2 in
    let area : count n (d + 3) * before.cols ≡ c.args.grid.now.rows * c.args.grid.now.cols = ap (λ (a : ℕ). a * before.cols) (sym (c.requires.rows.rows ∙ ap (λ (s : Sizes). s.rows) c.args.self.now.measured.is)) ∙ ap (λ (a : ℕ). c.args.grid.now.rows * a) c.loop-rank.invariant.0.cols in (
      held_then c.args.grid.now before after c.loop-rank.invariant.0 c.add_product.ensures.held,
      kept_then o (c.args.grid.now.rows * c.args.grid.now.cols) (held c.args.grid.now) (held before) (held after) c.loop-rank.invariant.1 (subst (λ (a : ℕ). Kept o a (held before) (held after)) area turn.0),
      turn.1,
    )

pub returns : goal.returns
returns g c =
    let o = g.E.Coeff.Field.ops in
    let gr = c.args.self.now.graph.now in
    let eqs = over (g.E.Encoding.lists c.args.self.now.encoding.now) gr in
    let m = c.args.self.now.sizes.multipliers in
    let end : c.loop-rank.rank ≡ m = omega arith in
    let next : c.args.equation * m + m ≡ (c.args.equation + 1) * m = omega (arith, add-mul c.args.equation 1 m, one-mul m) in
    record {
      held = c.loop-rank.invariant.0;
      kept = c.loop-rank.invariant.1;
      begun = subst (λ (k : ℕ). Begun o gr.vertices c.args.self.now.sizes.degree eqs k (held c.loop-rank.grid)) (ap (λ (k : ℕ). c.args.equation * m + k) end ∙ next) c.loop-rank.invariant.2;
    }
