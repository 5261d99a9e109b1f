use Rattle.std.proofs.Common.{◌≡◌, Err, refl, rules}
use Rattle.certificates.specs.declared.refusal.Refusal.TheVariants.{MalformedLine}
use Rattle.plan.specs.Texts.{says, unsaid}
use Rattle.calling.specs.Script.{turned}
use Rattle.calling.proofs.Replying.{checked_turn, checked_holds, refused_turn, refused_holds, unchecked_fits, unchecked_holds, unchecked_unsaid}
use Rattle.calling.proofs.script.reply_to.Goals as goal

pub returns-then-length-given : goal.returns-then-length-given
returns-then-length-given g c =
    record {
      replied = refused_turn c.args.given.now c.in-Some.ensures c.if-length-given.true;
      holds = refused_holds c.args.given.now c.in-Some.ensures c.if-length-given.true;
      encoding = refl;
    }

pub returns-in-Some : goal.returns-in-Some
returns-in-Some g c =
    record {
      replied = checked_turn c.args.given.now c.decode.new.bytes c.in-Some.ensures c.decode.ensures c.if-length-given.false c.make.ensures.step;
      holds = checked_holds c.args.given.now c.decode.new.bytes c.in-Some.ensures c.decode.ensures c.if-length-given.false;
      encoding = c.make.ensures.encoding;
    }

pub returns-in_err-call : goal.returns-in_err-call
returns-in_err-call g c =
    let none = rw c.in_err-call.ensures.ok_part at c.parse.ensures in
    let ground : c.from_residual.result ≡ Err MalformedLine = search rules in
    record {
      replied = rw ground (turned (unchecked_fits _ c.in_default.ensures) (unsaid (unchecked_unsaid c.in_default.ensures none)));
      holds = unchecked_holds c.args.given.now c.in_default.ensures;
      encoding = refl;
    }

pub returns : goal.returns
returns g c =
    let some = rw c.in_ok-call.ensures.ok_part at c.parse.ensures in
    record {
      replied = turned (unchecked_fits _ c.in_default.ensures) (says some.0 c.make-2.ensures.step);
      holds = unchecked_holds c.args.given.now c.in_default.ensures;
      encoding = c.make-2.ensures.encoding;
    }
