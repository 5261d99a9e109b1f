use Rattle.std.proofs.Common.{◌≡◌, ℕ, ◌+◌, length, Option, MatchOption, ap, ◌∙◌, subst, inl, inr, arith}
use Rattle.coloring.specs.Encoding.{over}
use Rattle.certificates.specs.declared.sizes.Sizes.{Sizes}
use Rattle.certificates.specs.Checking.{degree_of, BadCode, heads}
use Rattle.certificates.specs.Grounds.{Clear}
use Rattle.certificates.specs.Measures.{Excess, Measured}
use Rattle.layout.specs.Reading.{before}
use Rattle.certificates.proofs.Admitting.{heads_at, malformed}
use Rattle.certificates.proofs.Standing.{before_most}
use Rattle.certificates.proofs.checking.admit.Goals as goal
use Rattle.certificates.proofs.checking.admit.Goals.{then-marked_past-via-then-marked_past, then-marked_past-via-else-marked_past+then-bad_code}

pub overflow_add-sizes-2 : goal.overflow_add-sizes-2
overflow_add-sizes-2 g c =
    let n = c.args.graph.now.vertices in
    let e = length (over (g.E.Encoding.lists c.args.encoding.now) c.args.graph.now) in
    let z : Measured e n c.in_ok-degree.degree c.in_ok-sizes.sizes = subst (λ (r : Option Sizes). MatchOption r (Excess e n c.in_ok-degree.degree) (Measured e n c.in_ok-degree.degree)) c.in_ok-sizes.ensures.ok_part c.measure.ensures in
    omega (arith, c.marks.ensures, before_most c.args.certificate.now c.in_ok-sizes.sizes.products, ap (λ (s : Sizes). s.map) z.is, ap (λ (s : Sizes). s.products) z.is, z.few_products)

pub returns-then-marked_past : goal.returns-then-marked_past
returns-then-marked_past g c =
    let bytes = c.args.certificate.now in
    let n = c.args.graph.now.vertices in
    let e = length (over (g.E.Encoding.lists c.args.encoding.now) c.args.graph.now) in
    let size = g.E.Coeff.Field.ops.size in
    let z = c.in_ok-sizes.sizes in
    let told = c.in_ok-degree.ensures in
    let head : Clear (heads size n e bytes) = heads_at bytes c.order-order.ensures c.vertices.ensures.value c.count.ensures told.1 in
    let measured : Measured e n c.in_ok-degree.degree z = subst (λ (r : Option Sizes). MatchOption r (Excess e n c.in_ok-degree.degree) (Measured e n c.in_ok-degree.degree)) c.in_ok-sizes.ensures.ok_part c.measure.ensures in
    let is : Measured e n (degree_of bytes) z = subst (λ (d : ℕ). Measured e n d z) told.0 measured in
    let long : length bytes ≡ 6 + z.map + before bytes z.products = c.if-certificate-sizes.false ∙ ap (λ (k : ℕ). 6 + z.map + k) c.marks.ensures in
    elim c.then-marked_past.branch [
      | then-marked_past-via-then-marked_past w ↦ malformed size n e bytes c.args.elements z head is long (inl (c.marked_past.ensures.0 w.if-marked_past.true))
      | then-marked_past-via-else-marked_past+then-bad_code w ↦
          malformed size n e bytes c.args.elements z head is long (inr (subst (λ (k : ℕ). BadCode k z.products bytes) c.order-order.ensures (w.bad_code.ensures.0 w.if-bad_code.true)))
    ]
