-- The text of an answer and of a reply, without the line's end. Assumes nothing.
use Rattle.std.specs.Prelude.{ℕ, List, ◌++◌, codes, decimal, Ok, Err}
use Rattle.certificates.specs.Refusals.{number_of}
use Rattle.certificates.specs.Verdicts.{verdict_text}
use Rattle.nulla.specs.declared.reply.Answer.{Answer}
use Rattle.nulla.specs.declared.reply.Answer.TheVariants.{Opened, Done, Worked, Passed}
use Rattle.nulla.specs.Replies.{Reply}

abbrev pub answer_text : Answer → List ℕ
answer_text (Opened vertex) = codes "batch " ++ decimal vertex
answer_text Done = codes "ok"
answer_text (Worked verdict) = verdict_text verdict
answer_text Passed = codes "passes"

abbrev pub words_of : Reply → List ℕ
words_of (Ok answer) = answer_text answer
words_of (Err refusal) = codes "no " ++ decimal (number_of refusal)
