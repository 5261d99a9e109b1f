use Rattle.std.proofs.Common.{◌≡◌, ◌+◌, ◌*◌, ◌<◌, ◌≢◌, length, refl, arith, get_or-set_other, get_or-set_same, below_more}
use Rattle.calling.specs.Digits.{byte_at}
use Rattle.calling.proofs.digits.decode.Goals as goal

pub loop-k-preserved : goal.loop-k-preserved
loop-k-preserved c =
    let k = c.loop-k.k in
    let byte : 16 * c.value.result + c.value-in-loop-k.result ≡ byte_at c.args.digits.now (2 * k) = rw (c.value.ensures.0, c.value-in-loop-k.ensures.0) refl in
    below_more _ _
    (λ j h. let ne : j ≢ k = omega arith in rw get_or-set_other (c.loop-k.invariant j h))
    (let lt : k < length c.loop-k.bytes = omega arith in rw get_or-set_same byte)
