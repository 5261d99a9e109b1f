use Rattle.std.proofs.Common.{◌+◌, refl, ap, inr, arith}
use Rattle.std.proofs.lemmas.Bool.Decides.{not_from_Decides}
use Rattle.coloring.specs.Encoding.{over}
use Rattle.graphs.specs.Graph.{joined}
use Rattle.polynomials.proofs.Ranks.{count_positive}
use Rattle.certificates.specs.declared.sizes.Sizes.{Sizes}
use Rattle.certificates.specs.Checking.{degree_of}
use Rattle.certificates.proofs.Deciding.{formed}
use Rattle.certificates.proofs.Passing.{passes, passed, wiped}
use Rattle.certificates.proofs.checking.check.Goals as goal

pub wipe-requires-clause-rows : goal.wipe-requires-clause-rows
wipe-requires-clause-rows g c =
    omega (arith, ap (λ (s : Sizes). s.rows) c.in_ok-sizes.ensures.measured.is, count_positive c.args.graph.now.vertices (degree_of c.args.certificate.now + 3) c.args.graph.now.few)

pub returns-then-one : goal.returns-then-one
returns-then-one g c =
    let gr = c.args.graph.now in
    let laws = g.E.Coeff.Field.laws in
    let n = gr.vertices in
    let eqs = over (g.E.Encoding.lists c.args.encoding.now) gr in
    let bytes = c.args.certificate.now in
    let table = c.args.table.now in
    let xs = c.sum.new.table in
    let z = c.in_ok-sizes.sizes in
    let a = c.in_ok-sizes.ensures in
    let ok = formed g.E.Coeff.Field.ops (g.E.Encoding.lists c.args.encoding.now) _ n (joined gr) (g.met.E.Encoding.bounded c.args.encoding.now) gr.few in (
      a.clear,
      passes laws n eqs ok bytes table xs z a c.sum.ensures.kept c.sum.ensures.totals (c.is_one-one.ensures.0 c.if-one.true),
      wiped laws n eqs ok bytes table xs z a c.sum.ensures.kept c.sum.ensures.totals c.wipe.new.table c.wipe.ensures,
    )

pub returns-else-one : goal.returns-else-one
returns-else-one g c =
    let gr = c.args.graph.now in
    let laws = g.E.Coeff.Field.laws in
    let n = gr.vertices in
    let eqs = over (g.E.Encoding.lists c.args.encoding.now) gr in
    let bytes = c.args.certificate.now in
    let table = c.args.table.now in
    let xs = c.sum.new.table in
    let z = c.in_ok-sizes.sizes in
    let a = c.in_ok-sizes.ensures in
    let ok = formed g.E.Coeff.Field.ops (g.E.Encoding.lists c.args.encoding.now) _ n (joined gr) (g.met.E.Encoding.bounded c.args.encoding.now) gr.few in
    inr (
      a.clear,
      (λ p. not_from_Decides c.is_one-one.result c.is_one-one.ensures c.if-one.false (passed laws n eqs ok bytes table xs z a c.sum.ensures.kept c.sum.ensures.totals p)),
      refl,
      wiped laws n eqs ok bytes table xs z a c.sum.ensures.kept c.sum.ensures.totals c.wipe.new.table c.wipe.ensures,
    )
