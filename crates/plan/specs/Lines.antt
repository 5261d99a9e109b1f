-- The lines of a text: byte 10 ends a line, and the last line may lack it. An empty text has no line. Assumes nothing.
use Rattle.std.specs.Prelude.{◌≡◌, ℕ, ◌<◌, ◌≤◌, max, cond, List, [], ◌∷◌, length, drop, ◌==◌, ◌≢◌, slice_index}
use Rattle.plan.specs.declared.lines.TextLines.{TextLines}

-- One byte more, before the first line.
abbrev pub begun : ℕ → List (List ℕ) → List (List ℕ)
begun byte [] = (byte ∷ []) ∷ []
begun byte (line ∷ lines) = (byte ∷ line) ∷ lines

abbrev pub lines_of : List ℕ → List (List ℕ)
lines_of [] = []
lines_of (byte ∷ text) = cond (byte == 10) ([] ∷ lines_of text) (begun byte (lines_of text))

-- One for a last line that lacks its end.
abbrev pub unended : List ℕ → ℕ
unended [] = 0
unended (byte ∷ []) = cond (byte == 10) 0 1
unended (byte ∷ next ∷ text) = unended (next ∷ text)

-- The lines that an iterator has left.
abbrev pub left : TextLines → List (List ℕ)
left lines = lines_of (drop lines.at lines.text.now)

-- The first place of a byte in a text, from a place on; the text's end where it does not stand there.
pub record Found (text : List ℕ) (byte from place : ℕ) : Type 0 where
  pub after : from ≤ place
  pub within : place ≤ max from (length text)
  pub absent : (k : ℕ) → from ≤ k → k < place → slice_index text k ≢ byte
  pub there : place < length text → slice_index text place ≡ byte
