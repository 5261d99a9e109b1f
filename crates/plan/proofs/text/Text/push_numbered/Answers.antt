use Rattle.std.proofs.Common.{decimal, arith}
use Rattle.plan.proofs.Overwriting.{appended_length, appended_then}
use Rattle.plan.proofs.text.Text.push_numbered.Goals as goal

pub push_number-requires : goal.push_number-requires
push_number-requires c =
    let same = appended_length c.args.self.now c.push.new.self c.args.word.now (omega arith) c.push.ensures in
    (c.requires.0, omega (arith, c.push.ensures.wrote.ends))

pub returns : goal.returns
returns c = appended_then c.args.self.now c.push.new.self c.push_number.new.self c.args.word.now (decimal c.args.n) (omega arith) c.push.ensures c.push_number.ensures
