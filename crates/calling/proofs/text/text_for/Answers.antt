use Rattle.std.proofs.Common.{string_bytes}
use Rattle.std.proofs.lemmas.Result.{IfOk-weaker}
use Rattle.calling.specs.Text.{other}
use Rattle.calling.proofs.Replying.{handed_some}
use Rattle.calling.proofs.Saying.{in_check}
use Rattle.calling.proofs.text.text_for.Goals as goal

pub returns-in-Some : goal.returns-in-Some
returns-in-Some c =
    let asks = handed_some c.in-Some.ensures in
    IfOk-weaker c.checked.result _ _ (λ t is. in_check c.args.line.now c.args.bits c.args.four c.args.first.now c.args.second.now (string_bytes t) asks.0 asks.1 is) c.checked.ensures

pub returns-in-None : goal.returns-in-None
returns-in-None c = IfOk-weaker c.answer.result _ _ (λ t is. other c.in-None.ensures is) c.answer.ensures
