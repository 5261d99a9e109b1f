use Rattle.std.proofs.Common.{[], ◌∷◌, arith}
use Rattle.nulla.specs.Words.{words_of}
use Rattle.plan.proofs.Overwriting.{appended_length, appended_then}
use Rattle.plan.proofs.Turns.{words_short}
use Rattle.plan.proofs.text.Text.push_reply.Goals as goal

pub push-requires : goal.push-requires
push-requires c =
    let short = words_short c.args.reply c.requires.0 in
    let same = appended_length c.args.self.now c.push_words.new.self (words_of c.args.reply) (omega arith) c.push_words.ensures in
    omega (arith, c.push_words.ensures.wrote.ends)

pub returns : goal.returns
returns c =
    let short = words_short c.args.reply c.requires.0 in
    appended_then c.args.self.now c.push_words.new.self c.push.new.self (words_of c.args.reply) (10 ∷ []) (omega arith) c.push_words.ensures c.push.ensures
