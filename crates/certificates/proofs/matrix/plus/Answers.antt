use Rattle.std.proofs.Common.{◌≡◌, length, sym, ◌∙◌, arith, rules}
use Rattle.polynomials.proofs.Ranks.{plus_length, plus_at}
use Rattle.certificates.proofs.Lists.{same_places}
use Rattle.certificates.proofs.matrix.plus.Goals as goal

pub returns : goal.returns
returns c =
    let m = c.args.multiplier in
    let f = c.args.exponents in
    let wide : length m ≡ 24 = search rules in
    let long : length f ≡ 24 = search rules in
    same_places 0 c.loop-i.sum _ (c.loop-i.invariant.0 ∙ sym (plus_length m f (wide ∙ sym long) ∙ wide))
    (λ k h. c.loop-i.invariant.1 k (omega (arith, c.loop-i.invariant.0, c.loop-i-test.false)) ∙ sym (plus_at m f k))
