use Rattle.std.proofs.Common.{◌≡◌, ◌+◌, drop}
use Rattle.monomials.specs.Order.{degree, rank_of}
use Rattle.monomials.proofs.pascal.order.Monomials.place_of.Given as goal

abbrev pub invariant-loop-i : goal.invariant-loop-i
invariant-loop-i l = (l.left ≡ degree (drop l.i l.exponents)) × (l.place + rank_of (drop l.i l.exponents) ≡ rank_of l.exponents)
