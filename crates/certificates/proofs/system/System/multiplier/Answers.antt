use Rattle.std.proofs.Common.{◌≡◌, ℕ, ◌+◌, ◌<◌, ◌≤◌, sym, ap, ◌∙◌, subst, arith}
use Rattle.monomials.proofs.Binomials.{choose_mono}
use Rattle.polynomials.specs.Monomial.{count, monomial_at}
use Rattle.certificates.specs.declared.sizes.Sizes.{Sizes}
use Rattle.certificates.proofs.Multipliers.{multiplier_is}
use Rattle.certificates.proofs.system.System.multiplier.Goals as goal

pub returns : goal.returns
returns g c =
    let system = c.args.self.now in
    let n = system.graph.now.vertices in
    let d = system.sizes.degree in
    let r = c.args.rank in
    let v = c.vertices-vertices.result in
    let same : v ≡ n = c.vertices-vertices.ensures.value in
    let small : count n d ≤ 1000000 = omega (arith, choose_mono n d (d + 3) (omega arith), system.measured.few_rows) in
    let below : r < count n d = omega (arith, c.requires, ap (λ (s : Sizes). s.multipliers) system.measured.is) in
    multiplier_is v d r c.unrank.new.exponents c.unrank.result c.vertices-vertices.ensures.few (omega (arith, c.vertices-vertices.ensures.few, system.narrow))
    (subst (λ (a : ℕ). count a d ≤ 1000000) (sym same) small) (subst (λ (a : ℕ). r < count a d) (sym same) below)
    c.unrank.ensures.reached c.unrank.ensures.written
    ∙ ap (λ (a : ℕ). monomial_at a d r) same
