use Rattle.std.proofs.Common.{ℕ, ◌≤◌, length, take, sym, ap, subst, arith, length-take}
use Rattle.coloring.specs.Encoding.{over}
use Rattle.graphs.specs.Graph.{joined}
use Rattle.certificates.specs.declared.sizes.Sizes.{Sizes}
use Rattle.layout.specs.Length.{certificate_bytes}
use Rattle.layout.specs.Written.{Stored}
use Rattle.certificates.proofs.Fitting.{products_inside}
use Rattle.certificates.proofs.Seeking.{stored_sought}
use Rattle.certificates.proofs.system.System.seek.Goals as goal

pub slice_bounds-write-end : goal.slice_bounds-write-end
slice_bounds-write-end g c = omega (arith, products_inside _ _ _ c.args.self.now.sizes c.args.self.now.graph.now.few c.args.self.now.measured, c.requires.table, c.solve.ensures.kept.long)

pub slice_bounds-write-end-2 : goal.slice_bounds-write-end-2
slice_bounds-write-end-2 g c = omega (arith, length-take c.args.self.now.sizes.products c.solve.new.table, products_inside _ _ _ c.args.self.now.sizes c.args.self.now.graph.now.few c.args.self.now.measured, c.requires.table, c.solve.ensures.kept.long)

pub returns : goal.returns
returns g c =
    let o = g.E.Coeff.Field.ops in
    let gr = c.args.self.now.graph.now in
    let n = gr.vertices in
    let d = c.args.self.now.sizes.degree in
    let eqs = over (g.E.Encoding.lists c.args.self.now.encoding.now) gr in
    let z = c.args.self.now.measured.is in
    let t = c.solve.new.table in
    let p = c.args.self.now.sizes.products in
    let b = g.met.E.Encoding.bounded c.args.self.now.encoding.now in
    let few : length eqs ≤ 65535 = omega (arith, b.count n (joined gr) gr.few, b.small) in
    let inside : p ≤ length t = omega (arith, products_inside _ _ _ c.args.self.now.sizes gr.few c.args.self.now.measured, c.requires.table, c.solve.ensures.kept.long) in
    let small : p ≤ 1000000 = omega (arith, ap (λ (s : Sizes). s.products) z, c.args.self.now.measured.few_products) in
    let room : certificate_bytes p ≤ length c.args.certificate.now = subst (λ (k : ℕ). certificate_bytes k ≤ length c.args.certificate.now) (sym (ap (λ (s : Sizes). s.products) z)) (subst (λ (s : Sizes). s.bytes ≤ length c.args.certificate.now) z c.requires.bytes) in
    let stored : Stored o (take p t) n d (length eqs) c.args.certificate.now c.write.result c.write.new.certificate =
    subst (λ (k : ℕ). Stored o (take p t) n d k c.args.certificate.now c.write.result c.write.new.certificate) (ap (λ (s : Sizes). s.equations) z)
    (subst (λ (k : ℕ). Stored o (take p t) k d c.args.self.now.sizes.equations c.args.certificate.now c.write.result c.write.new.certificate) (ap (λ (s : Sizes). s.vertices) z) c.write.ensures) in
    record {
      sought = stored_sought o n d eqs t p c.args.certificate.now c.write.result c.write.new.certificate (ap (λ (s : Sizes). s.products) z) inside small few room (c.solve.ensures.decided.found c.if-not-solve.false) stored;
      kept = c.solve.ensures.kept;
    }
