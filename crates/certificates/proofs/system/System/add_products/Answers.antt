use Rattle.std.proofs.Common.{◌≡◌, ℕ, ◌+◌, ◌*◌, drop, refl, sym, ap, ◌∙◌, subst, arith}
use Rattle.algebra.specs.Held.{held}
use Rattle.coloring.specs.Encoding.{over}
use Rattle.polynomials.specs.Monomial.{count}
use Rattle.certificates.specs.declared.sizes.Sizes.{Sizes}
use Rattle.certificates.specs.Summing.{Totals}
use Rattle.certificates.proofs.Grids.{held_self, kept_self}
use Rattle.certificates.proofs.Standing.{before_none}
use Rattle.certificates.proofs.Summing.{behind, next_code, totals_none, so_far_at, turn_skip, turn_more, turn_never}
use Rattle.certificates.proofs.system.System.add_products.Goals as goal
use Rattle.certificates.proofs.system.System.add_products.Goals.{then-marked+in-Some, then-marked+in_default, else-marked}

pub loop-number-init : goal.loop-number-init
loop-number-init g c =
    let o = g.E.Coeff.Field.ops in
    let gr = c.args.self.now.graph.now in
    let n = gr.vertices in
    let d = c.args.self.now.sizes.degree in
    let g0 = c.args.grid.now in
    let bytes = c.args.certificate.now in
    let rest : c.iter-codes.result.rest.now ≡ drop (6 + c.args.self.now.sizes.map) bytes = c.iter-codes.ensures.rest ∙ ap (λ b. b.now) c.unwrap_or.ensures ∙ behind bytes (6 + c.args.self.now.sizes.map) c.get.result _ c.get.ensures.lookup refl in
    let area : count n (d + 3) ≡ g0.rows * g0.cols = omega (arith, c.requires.rows.rows, ap (λ (s : Sizes). s.rows) c.args.self.now.measured.is, ap (λ (a : ℕ). g0.rows * a) c.requires.column) in (
      6 + c.args.self.now.sizes.map,
      rest,
      (
        held_self g0,
        kept_self o c.args.self.now.sizes.rows (held g0),
        omega (arith, before_none bytes),
        totals_none g.E.Coeff.Field.laws n d (over (g.E.Encoding.lists c.args.self.now.encoding.now) gr) bytes (held g0) (λ k h. c.requires.blank k (omega (arith, area))),
      ),
    )

pub loop-number-preserved : goal.loop-number-preserved
loop-number-preserved g c =
    let laws = g.E.Coeff.Field.laws in
    let gr = c.args.self.now.graph.now in
    let n = gr.vertices in
    let d = c.args.self.now.sizes.degree in
    let eqs = over (g.E.Encoding.lists c.args.self.now.encoding.now) gr in
    let bytes = c.args.certificate.now in
    let z = c.args.self.now.sizes in
    let g0 = c.args.grid.now in
    let g1 = c.loop-number.grid in
    let k = c.loop-number.number in
    let place = c.loop-number.invariant.0 in
    let so_far = c.loop-number.invariant.2 in
    let listed = c.loop-number-test.true in
    elim c.if-marked.branch [
      | then-marked+in-Some w ↦
          let stands_here = sym c.marked.ensures ∙ w.if-marked.true in
          let next = next_code bytes place c.loop-number.codes w.next.new.self w.next.result w.copied.result w.unwrap_or-code.result c.loop-number.invariant.1 w.next.ensures.steps w.copied.ensures w.unwrap_or-code.ensures in (
            place + 1,
            ap (λ i. i.rest.now) w.codes-is ∙ next.1,
            so_far_at laws n d eqs bytes z g0 (k + 1) w.grid-is refl
                (turn_more laws n d eqs bytes z g0 c.args.self.now.measured c.requires.column k listed g1 place so_far w.add_multiple.new.grid w.in-Some.factor stands_here (w.in-Some.ensures ∙ next.0)
                w.add_multiple.ensures.held w.add_multiple.ensures.summed),
          )
      | then-marked+in_default w ↦
          let stands_here = sym c.marked.ensures ∙ w.if-marked.true in
          let next = next_code bytes place c.loop-number.codes w.next.new.self w.next.result w.copied.result w.unwrap_or-code.result c.loop-number.invariant.1 w.next.ensures.steps w.copied.ensures w.unwrap_or-code.ensures in (
            place + 1,
            ap (λ i. i.rest.now) w.codes-is ∙ next.1,
            so_far_at laws n d eqs bytes z g0 (k + 1) w.grid-is refl
                (turn_never laws n d eqs bytes z g0 c.args.self.now.measured c.requires.column k listed g1 place so_far stands_here (omega (arith, w.in_default.ensures, next.0))),
          )
      | else-marked w ↦ (
        place,
        ap (λ i. i.rest.now) w.codes-is ∙ c.loop-number.invariant.1,
        so_far_at laws n d eqs bytes z g0 (k + 1) w.grid-is refl
            (turn_skip laws n d eqs bytes z g0 c.args.self.now.measured c.requires.column k listed g1 place so_far (sym c.marked.ensures ∙ w.if-marked.false)),
      )
    ]

pub returns-clause-held : goal.returns-clause-held
returns-clause-held g c = c.loop-number.invariant.2.0

pub returns-clause-kept : goal.returns-clause-kept
returns-clause-kept g c = c.loop-number.invariant.2.1

pub returns-clause-totals : goal.returns-clause-totals
returns-clause-totals g c =
    let o = g.E.Coeff.Field.ops in
    let gr = c.args.self.now.graph.now in
    let end : c.loop-number.number ≡ c.args.self.now.sizes.products = omega arith in
    subst (λ (k : ℕ). Totals o gr.vertices c.args.self.now.sizes.degree (over (g.E.Encoding.lists c.args.self.now.encoding.now) gr) c.args.certificate.now k (held c.loop-number.grid)) end c.loop-number.invariant.2.3
