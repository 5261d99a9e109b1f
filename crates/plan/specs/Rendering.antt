-- The line of text that answers a call, its end included. Assumes nothing.
use Rattle.std.specs.Prelude.{◌≡◌, ℕ, ◌+◌, ◌<◌, List, [], ◌∷◌, ◌++◌, length, take, drop, Ok, Err}
use Rattle.certificates.specs.Refusals.{number_of}
use Rattle.certificates.specs.declared.verdict.Verdict.{Verdict}
use Rattle.nulla.specs.declared.reply.Answer.{Answer}
use Rattle.nulla.specs.Replies.{Reply}
use Rattle.nulla.specs.Words.{words_of}
use Rattle.plan.specs.declared.text.Text.{Text}
use Rattle.certificates.specs.declared.verdict.Verdict.TheVariants.{Infeasible, Open}
use Rattle.nulla.specs.declared.reply.Answer.TheVariants.{Opened, Done, Worked, Passed}

-- A reply's words, and the line's end.
abbrev pub line_of : Reply → List ℕ
line_of r = words_of r ++ (10 ∷ [])

abbrev pub ShortVerdict : Verdict → Type 0
ShortVerdict (Infeasible degree length) = degree < 100
ShortVerdict (Open degree) = degree < 100

abbrev pub ShortAnswer : Answer → Type 0
ShortAnswer (Opened vertex) = vertex < 100
ShortAnswer Done = Unit {0}
ShortAnswer (Worked verdict) = ShortVerdict verdict
ShortAnswer Passed = Unit {0}

-- The number that an answer line shows has two digits at most.
abbrev pub Short : Reply → Type 0
Short (Ok answer) = ShortAnswer answer
Short (Err refusal) = number_of refusal < 100

-- The text with these bytes in the place of those from `at` on.
abbrev pub overwritten : List ℕ → ℕ → List ℕ → List ℕ
overwritten text at bytes = take at text ++ (bytes ++ drop (at + length bytes) text)

-- The bytes were written from `at` to `end`, and nothing else changed.
pub record Wrote (before : List ℕ) (at : ℕ) (bytes after : List ℕ) (end : ℕ) : Type 0 where
  pub ends : end ≡ at + length bytes
  pub is : after ≡ overwritten before at bytes

-- What the memory lent to a text holds, and how many bytes at its front are the text.
abbrev pub held : Text → List ℕ
held text = text.memory.now

abbrev pub used : Text → ℕ
used text = text.used

-- Bytes were written after a text, in the memory that was lent to it.
pub record Appended (text : Text) (bytes : List ℕ) (longer : Text) : Type 0 where
  pub lent : longer.memory.ghost_name ≡ text.memory.ghost_name
  pub wrote : Wrote (held text) (used text) bytes (held longer) (used longer)
