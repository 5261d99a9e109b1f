use Rattle.std.proofs.Common.{◌+◌, ◌-◌, ◌≤◌, length, ap, ◌∙◌, arith, rules}
use Rattle.monomials.specs.Order.{lower, rank_of}
use Rattle.monomials.proofs.Turn.{degree_drop, degree_step, rank_step, rank_past, rank_below}
use Rattle.monomials.proofs.pascal.order.Monomials.place_of.Goals as goal

pub fewer-place-requires-clause-degree : goal.fewer-place-requires-clause-degree
fewer-place-requires-clause-degree c = omega (arith, degree_drop c.loop-i.i c.args.exponents.now)

pub overflow_add-place : goal.overflow_add-place
overflow_add-place c =
    let xs = c.args.exponents.now in
    let lowers = c.fewer-place.ensures ∙ ap (lower (length xs - c.loop-i.i)) c.loop-i.invariant.0 in
    let most : c.loop-i.place + c.fewer-place.result ≤ rank_of xs = omega (arith, lowers, rank_step xs c.loop-i.i (omega arith), c.loop-i.invariant.1) in
    let below = rank_below xs c.args.self.variables c.args.self.degree c.requires.variables c.requires.degree in
    search rules

pub loop-i-preserved : goal.loop-i-preserved
loop-i-preserved c =
    let xs = c.args.exponents.now in
    let lowers = c.fewer-place.ensures ∙ ap (lower (length xs - c.loop-i.i)) c.loop-i.invariant.0 in
    (omega (arith, degree_step xs c.loop-i.i (omega arith), c.loop-i.invariant.0, c.from-left.ensures), omega (arith, lowers, rank_step xs c.loop-i.i (omega arith), c.loop-i.invariant.1))

pub returns : goal.returns
returns c = omega (arith, rank_past c.args.exponents.now c.loop-i.i (omega arith), c.loop-i.invariant.1)
