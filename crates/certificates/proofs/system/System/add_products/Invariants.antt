use Rattle.std.proofs.Common.{◌≡◌, ℕ, drop}
use Rattle.coloring.specs.Encoding.{over}
use Rattle.certificates.proofs.Summing.{SoFar}
use Rattle.certificates.proofs.system.System.add_products.Given as goal

abbrev pub invariant-loop-number : goal.invariant-loop-number
invariant-loop-number g l =
    (place : ℕ) × (l.codes.rest.now ≡ drop place l.certificate)
    × SoFar g.E.Coeff.Field.laws l.self.graph.now.vertices l.self.sizes.degree (over (g.E.Encoding.lists l.self.encoding.now) l.self.graph.now) l.certificate l.self.sizes l.initial.grid l.grid place l.number
