use Rattle.monomials.proofs.Written.{Underway}
use Rattle.monomials.proofs.pascal.order.Monomials.write.Given as goal

abbrev pub invariant-loop-i : goal.invariant-loop-i
invariant-loop-i l = Underway l.self.degree l.fn.place l.self.variables l.i l.top l.left l.exponents
