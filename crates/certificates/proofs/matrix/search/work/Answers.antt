use Rattle.std.proofs.Common.{◌≡◌, ℕ, ◌+◌, ◌*◌, ◌≤◌, ◌++◌, length, drop, replicate, MatchOption, ap, ◌∙◌, subst, rules, tests, arith}
use Rattle.certificates.specs.declared.verdict.Verdict.TheVariants.{Infeasible, Open}
use Rattle.coloring.specs.Encoding.{over}
use Rattle.polynomials.proofs.Ranks.{count_positive}
use Rattle.certificates.specs.declared.sizes.Sizes.{Sizes}
use Rattle.certificates.specs.Outcome.{Sought, cleared}
use Rattle.certificates.specs.Sizes.{cells}
use Rattle.certificates.proofs.Seeking.{blank_after, worked}
use Rattle.algebra.specs.Grid.{Kept}
use Rattle.certificates.proofs.matrix.search.work.Goals as goal

pub wipe-requires-clause-rows : goal.wipe-requires-clause-rows
wipe-requires-clause-rows g c =
    omega (arith, ap (λ (s : Sizes). s.rows) c.in_ok-sizes.ensures.measured.is, count_positive c.args.graph.now.vertices (c.args.degree + 3) c.args.graph.now.few)

pub returns : goal.returns
returns g c =
    let o = g.E.Coeff.Field.ops in
    let gr = c.args.graph.now in
    let eqs = over (g.E.Encoding.lists c.args.encoding.now) gr in
    let z = c.in_ok-sizes.ensures in
    let size = c.in_ok-sizes.sizes in
    let same : size.degree ≡ c.args.degree = ap (λ (s : Sizes). s.degree) z.measured.is in
    let area : size.rows * (size.products + 1) ≡ cells (length eqs) gr.vertices c.args.degree = ap (λ (s : Sizes). s.rows * (s.products + 1)) z.measured.is in
    let sought = subst (λ (d : ℕ). Sought o gr.vertices d eqs c.args.certificate.now c.seek-found.result c.seek-found.new.certificate) same c.seek-found.ensures.sought in
    let table : c.wipe.new.table ≡ cleared o gr.vertices c.args.degree eqs c.args.table.now =
    blank_after o (cells (length eqs) gr.vertices c.args.degree) c.args.table.now c.seek-found.new.table c.wipe.new.table
    (subst (λ (s : Sizes). s.cells ≤ length c.args.table.now) z.measured.is z.table)
    (subst (λ (s : Sizes). Kept o s.cells c.args.table.now c.seek-found.new.table) z.measured.is c.seek-found.ensures.kept)
    (c.wipe.ensures ∙ ap (λ (k : ℕ). replicate k o.zero ++ drop k c.seek-found.new.table) area) in
    let told : MatchOption c.seek-found.result (c.map_or.result ≡ Open c.args.degree) (λ k. c.map_or.result ≡ Infeasible c.args.degree k) = search (rules, tests) in
    (z.clear, worked o gr.vertices c.args.degree eqs c.args.table.now c.wipe.new.table c.args.certificate.now c.seek-found.new.certificate c.seek-found.result c.map_or.result told table sought)
