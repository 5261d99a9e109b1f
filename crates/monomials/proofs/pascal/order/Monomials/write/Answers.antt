use Rattle.std.proofs.Common.{arith}
use Rattle.monomials.proofs.Written.{lower_is_choose, left_within, goes_on, done}
use Rattle.monomials.proofs.pascal.order.Monomials.write.Goals as goal

pub degree_at-top-requires-clause-within : goal.degree_at-top-requires-clause-within
degree_at-top-requires-clause-within c = omega (arith, lower_is_choose c.args.self.variables c.args.self.degree)

pub degree_at-rest-requires-clause-within : goal.degree_at-rest-requires-clause-within
degree_at-rest-requires-clause-within c =
    left_within c.args.self.degree c.args.place c.args.self.variables c.loop-i.i c.loop-i.top c.loop-i.left
    c.loop-i.exponents c.loop-i.invariant (omega arith)

pub loop-i-preserved : goal.loop-i-preserved
loop-i-preserved c =
    goes_on c.args.self.degree c.args.place c.args.self.variables c.loop-i.i c.loop-i.top c.loop-i.left
    c.loop-i.exponents c.loop-i.invariant (omega arith) (omega arith)
    c.degree_at-rest.result c.fewer-left.result
    c.degree_at-rest.ensures.most c.degree_at-rest.ensures.from c.degree_at-rest.ensures.below c.fewer-left.ensures

pub returns : goal.returns
returns c =
    done c.args.self.degree c.args.place c.args.self.variables c.loop-i.i c.loop-i.top c.loop-i.left
    c.loop-i.exponents c.loop-i.invariant (omega arith) (omega arith)
