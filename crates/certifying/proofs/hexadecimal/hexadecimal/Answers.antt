use Rattle.std.proofs.Common.{◌/◌, ◌%◌, ◌<◌, get_or, string_bytes, ap, ◌∙◌, arith}
use Rattle.std.proofs.lemmas.List.{take_all}
use Rattle.certifying.specs.Hexadecimal.{hex_of}
use Rattle.certifying.proofs.Digits.{pushed, grown}
use Rattle.certifying.proofs.hexadecimal.hexadecimal.Goals as goal

pub loop-byte-preserved : goal.loop-byte-preserved
loop-byte-preserved c =
    let first = c.in_ok-push.ensures in
    let second = c.in_ok-push-2.ensures in
    let byte = get_or c.args.bytes.now c.loop-byte.byte-index 0 in
    let high : byte / 16 < 16 = omega (arith, c.type_inv.bytes c.loop-byte.byte-index) in
    let low : byte % 16 < 16 = omega arith in
    grown c.args.bytes.now c.loop-byte.byte-index _ _ _ _ _ c.loop-byte-test.true c.loop-byte.invariant c.digit.ensures c.digit-in-loop-byte.ensures (pushed (string_bytes c.loop-byte.text) (byte / 16) high c.digit.ensures first.ascii first.bytes) (pushed (string_bytes c.push.new.self) (byte % 16) low c.digit-in-loop-byte.ensures second.ascii second.bytes)

pub returns : goal.returns
returns c = c.loop-byte.invariant ∙ ap hex_of (take_all c.loop-byte.byte-index c.args.bytes.now c.loop-byte-test.false)
