use Rattle.std.proofs.Common.{◌≡◌, ℕ, ◌/◌, ◌%◌, ◌<◌, length, sym, ap, ◌∙◌, subst}
use Rattle.algebra.specs.Held.{held}
use Rattle.coloring.specs.Encoding.{over}
use Rattle.polynomials.specs.Monomial.{count, monomial_at, Monomial}
use Rattle.polynomials.specs.Polynomial.{scaled}
use Rattle.polynomials.specs.Product.{products}
use Rattle.polynomials.proofs.Ranks.{monomial_at_lem, equation_below, rank_below}
use Rattle.certificates.specs.declared.sizes.Sizes.{Sizes}
use Rattle.certificates.specs.Matrix.{Summed}
use Rattle.certificates.proofs.Summing.{product_is}
use Rattle.certificates.proofs.system.System.add_multiple.Goals as goal

pub add_product-requires : goal.add_product-requires
add_product-requires g c =
    let gr = c.args.self.now.graph.now in
    let n = gr.vertices in
    let d = c.args.self.now.sizes.degree in
    let k = c.args.number in
    let eqs = over (g.E.Encoding.lists c.args.self.now.encoding.now) gr in
    let z = c.args.self.now.measured.is in
    let m : c.args.self.now.sizes.multipliers ≡ count n d = ap (λ (s : Sizes). s.multipliers) z in
    let inside : k < products n d eqs = subst (λ (s : Sizes). k < s.products) z c.requires.listed in
    let here : c.multiplier-monomial.result ≡ monomial_at n d (k % count n d) =
    c.multiplier-monomial.ensures ∙ ap (λ (a : ℕ). monomial_at n d (k % a)) m in
    record {
      listed = subst (λ (a : ℕ). k / a < length eqs) (sym m) (equation_below n d k eqs inside);
      monomial = subst (Monomial n d) (sym here) (monomial_at_lem n d (k % count n d) gr.few (rank_below n d k eqs inside));
      rows = c.requires.rows;
      column = c.requires.rows.room.some_column;
    }

pub returns : goal.returns
returns g c =
    let o = g.E.Coeff.Field.ops in
    let gr = c.args.self.now.graph.now in
    let n = gr.vertices in
    let d = c.args.self.now.sizes.degree in
    let k = c.args.number in
    let eqs = over (g.E.Encoding.lists c.args.self.now.encoding.now) gr in
    let m = c.args.self.now.sizes.multipliers in
    let here : c.multiplier-monomial.result ≡ monomial_at n d (k % m) = c.multiplier-monomial.ensures in
    record {
      held = c.add_product.ensures.held;
      summed = subst (λ p. Summed o n d c.args.grid.now.cols 0 (scaled o c.args.factor p) (held c.args.grid.now) (held c.add_product.new.grid))
          (product_is n d eqs k m c.multiplier-monomial.result (ap (λ (s : Sizes). s.multipliers) c.args.self.now.measured.is) here) c.add_product.ensures.summed;
    }
