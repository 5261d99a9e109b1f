use Rattle.std.proofs.Common.{◌≡◌, ◌+◌, ◌<◌, ◌≤◌, [], length, get_or, take, Some, sym, ap, ◌∙◌, subst, arith, take_all}
use Rattle.algebra.specs.Held.{held, Held}
use Rattle.coloring.specs.Encoding.{over, Sound}
use Rattle.graphs.specs.Graph.{joined}
use Rattle.monomials.specs.Order.{rank_of}
use Rattle.polynomials.specs.Monomial.{Monomial}
use Rattle.polynomials.specs.Polynomial.{scaled, times}
use Rattle.polynomials.proofs.Entries.{times_length, scaled_length}
use Rattle.polynomials.proofs.Ranks.{plus_monomial}
use Rattle.certificates.specs.declared.sizes.Sizes.{Sizes}
use Rattle.certificates.specs.Matrix.{Summed}
use Rattle.certificates.proofs.Grids.{term_turn}
use Rattle.certificates.proofs.Terms.{sound_monomial, byte_sums, row_of}
use Rattle.certificates.proofs.system.System.add_product.Goals as goal
use Rattle.certificates.proofs.system.System.add_product.Goals.{in-Some, in_default}

pub plus-exponents-requires : goal.plus-exponents-requires
plus-exponents-requires g c =
    let gr = c.args.self.now.graph.now in
    let o = g.E.Coeff.Field.ops in
    let e = get_or (over (g.E.Encoding.lists c.args.self.now.encoding.now) gr) c.args.equation [] in
    let inside : c.loop-index.index < length e = omega (arith, c.loop-index-test.true, c.terms-index-end.ensures) in
    let sound : Sound o gr.vertices c.term-term.result = subst (Sound o gr.vertices) (sym c.term-term.ensures) (((g.met.E.Encoding.bounded c.args.self.now.encoding.now).equations gr.vertices (joined gr) gr.few c.args.equation c.requires.listed).terms c.loop-index.index inside) in
    byte_sums gr.vertices c.args.self.now.sizes.degree c.args.monomial c.term-term.result.exponents c.args.self.now.narrow c.requires.monomial (sound_monomial gr.vertices c.term-term.result sound)

pub loop-index-preserved : goal.loop-index-preserved
loop-index-preserved g c =
    let gr = c.args.self.now.graph.now in
    let n = gr.vertices in
    let o = g.E.Coeff.Field.ops in
    let e = get_or (over (g.E.Encoding.lists c.args.self.now.encoding.now) gr) c.args.equation [] in
    let inside : c.loop-index.index < length e = omega (arith, c.loop-index-test.true, c.terms-index-end.ensures) in
    let told = ((g.met.E.Encoding.bounded c.args.self.now.encoding.now).equations n (joined gr) gr.few c.args.equation c.requires.listed).terms c.loop-index.index inside in
    let sound : Sound o n c.term-term.result = subst (Sound o n) (sym c.term-term.ensures) told in
    let mono : Monomial n (c.args.self.now.sizes.degree + 3) c.plus-exponents.result =
    subst (Monomial n (c.args.self.now.sizes.degree + 3)) (sym c.plus-exponents.ensures) (plus_monomial n c.args.self.now.sizes.degree 3 c.args.monomial c.term-term.result.exponents c.requires.monomial (sound_monomial n c.term-term.result sound)) in
    let row = row_of n c.args.self.now.sizes.degree c.vertices-vertices.result c.plus-exponents.result c.vertices-vertices.ensures.value gr.few c.args.self.now.narrow c.args.self.now.measured.few_rows mono in
    elim c.match-rank.branch [
      | in-Some w ↦
          let some : Some w.in-Some.row ≡ Some (rank_of (take n c.plus-exponents.result)) = w.in-Some.ensures ∙ row.0 in
          let is : w.in-Some.row ≡ rank_of (take n c.plus-exponents.result) = cc in
          subst (λ x. Held c.args.grid.now x × Summed o n c.args.self.now.sizes.degree c.args.grid.now.cols c.args.column (take (c.loop-index.index + 1) (scaled o c.args.factor (times c.args.monomial e))) (held c.args.grid.now) (held x)) (sym w.grid-is)
          (term_turn g.E.Coeff.Field.laws n c.args.self.now.sizes.degree c.args.column gr.few c.args.monomial c.requires.monomial c.args.factor e c.args.grid.now c.requires.rows.room (c.requires.rows.rows ∙ ap (λ (s : Sizes). s.rows) c.args.self.now.measured.is) c.requires.column
          c.loop-index.index w.in-Some.row c.term-term.result c.plus-exponents.result c.loop-index.grid w.set.new.self w.get.result w.mul.result w.add-sum.result inside c.term-term.ensures told c.plus-exponents.ensures is
          w.get.ensures w.mul.ensures w.add-sum.ensures w.set.ensures.held w.set.ensures.cell c.loop-index.invariant.0 c.loop-index.invariant.1)
      | in_default w ↦ absurd (w.in_default.not-Some _ (c.rank.ensures ∙ row.0))
    ]

pub returns : goal.returns
returns g c =
    let gr = c.args.self.now.graph.now in
    let o = g.E.Coeff.Field.ops in
    let e = get_or (over (g.E.Encoding.lists c.args.self.now.encoding.now) gr) c.args.equation [] in
    let p = scaled o c.args.factor (times c.args.monomial e) in
    let all : length p ≤ c.loop-index.index = omega (arith, scaled_length o c.args.factor (times c.args.monomial e), times_length c.args.monomial e, c.loop-index-test.false, c.terms-index-end.ensures) in
    record {
      held = c.loop-index.invariant.0;
      summed = subst (λ q. Summed o gr.vertices c.args.self.now.sizes.degree c.args.grid.now.cols c.args.column q (held c.args.grid.now) (held c.loop-index.grid)) (take_all c.loop-index.index p all) c.loop-index.invariant.1;
    }
