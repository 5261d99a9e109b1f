-- A text's first line, and what the text has after it. Assumes nothing.
use Rattle.std.proofs.Common.{◌≡◌, ℕ, suc, ◌+◌, ◌-◌, ◌*◌, ◌<◌, ◌≤◌, max, cond, eqb, List, [], ◌∷◌, ◌++◌, length, get_or, take, drop, sym, refl, ap, ◌∙◌, ⊎_elim, arith}
use Rattle.std.proofs.lemmas.List.{take-append-drop, drop-drop, drop_more, drop_all, take_all, get_or-take, get_or-drop, length-take, length-drop}
use Rattle.std.proofs.lemmas.Bool.{ne_eqb, le-ltb, lt-ltb, cond-false, cond_both, cases_lt}
use Rattle.plan.specs.Lines.{begun, lines_of, Found}
use Rattle.plan.specs.Plans.{room_of}

-- No byte of the line is a line's end.
abbrev pub Unbroken : List ℕ → Type 0
Unbroken line = (k : ℕ) → k < length line → get_or line k 0 ≡ 10 → ⊥

later : (byte : ℕ) (line : List ℕ) → Unbroken (byte ∷ line) → Unbroken line
later byte line whole k h e = whole (suc k) (omega arith) e

not_ended : (byte : ℕ) (line : List ℕ) (a b : List (List ℕ)) → Unbroken (byte ∷ line) → cond (eqb byte 10) a b ≡ b
not_ended byte line a b whole = cond-false (eqb byte 10) a b (ne_eqb byte 10 (λ e. whole 0 (omega arith) e))

pub lines_ended : (line rest : List ℕ) → Unbroken line → lines_of (line ++ (10 ∷ rest)) ≡ line ∷ lines_of rest
lines_ended [] rest whole = refl
lines_ended (byte ∷ line) rest whole =
    not_ended byte line _ _ whole ∙ ap (begun byte) (lines_ended line rest (later byte line whole))

lines_last : (byte : ℕ) (line : List ℕ) → Unbroken (byte ∷ line) → lines_of (byte ∷ line) ≡ (byte ∷ line) ∷ []
lines_last byte [] whole = not_ended byte [] _ _ whole
lines_last byte (next ∷ line) whole =
    not_ended byte (next ∷ line) _ _ whole ∙ ap (begun byte) (lines_last next line (later byte (next ∷ line) whole))

last_line : (line : List ℕ) → 0 < length line → Unbroken line → lines_of line ≡ line ∷ []
last_line [] some whole = absurd (omega arith)
last_line (byte ∷ line) some whole = lines_last byte line whole

module _ (text : List ℕ) (from place : ℕ) (inside : from < length text) (f : Found text 10 from place) where
  line : List ℕ
  line = take (place - from) (drop from text)

  unbroken : Unbroken line
  unfolding line
  unbroken k h e =
      let room : length (take (place - from) (drop from text)) ≤ place - from = simp length-take (omega arith) in
      let less : k < place - from = omega arith in
      f.absent (from + k) (omega arith) (omega arith) (sym (get_or-take (place - from) (drop from text) k 0 less ∙ get_or-drop from text k 0) ∙ e)

  parted : drop from text ≡ line ++ drop place text
  unfolding line
  parted =
      let back : from + (place - from) ≡ place = omega (arith, f.after) in
      sym (take-append-drop (place - from) (drop from text)) ∙ ap (λ t. take (place - from) (drop from text) ++ t) (drop-drop (place - from) from text ∙ ap (λ k. drop k text) back)

  split_ended : place < length text → lines_of (drop from text) ≡ line ∷ lines_of (drop (place + 1) text)
  split_ended h =
      ap lines_of (parted ∙ ap (λ t. line ++ t) (drop_more text place 0 h ∙ ap (λ b. b ∷ drop (place + 1) text) (f.there h))) ∙ lines_ended line (drop (place + 1) text) unbroken

  split_last : length text ≤ place → lines_of (drop from text) ≡ line ∷ lines_of (drop (place + 1) text)
  unfolding line
  split_last h =
      let all : take (place - from) (drop from text) ≡ drop from text = take_all (place - from) (drop from text) (simp length-drop (omega arith)) in
      let over : drop (place + 1) text ≡ [] = drop_all (place + 1) text (omega arith) in
      let some : 0 < length (take (place - from) (drop from text)) = rw all (simp length-drop (omega arith)) in
      ap lines_of (sym all) ∙ last_line line some unbroken ∙ ap (λ t. line ∷ t) (sym (ap lines_of over))

  -- The line that begins at `from` ends at `place`, and the next one begins after it.
  pub lines_split : lines_of (drop from text) ≡ take (place - from) (drop from text) ∷ lines_of (drop (place + 1) text)
  unfolding line
  lines_split = ⊎_elim split_ended split_last (cases_lt place (length text))

  pub lines_counted : length (lines_of (drop from text)) ≡ length (lines_of (drop (place + 1) text)) + 1
  lines_counted = ap length lines_split ∙ omega arith

  pub place_within : place ≤ length text
  place_within = omega (arith, f.within)

-- Past its end a text has no line.
pub lines_over : (text : List ℕ) (at : ℕ) → length text ≤ at → lines_of (drop at text) ≡ []
lines_over text at h = ap lines_of (drop_all at text h)

pub room_long : (plan : List ℕ) → 4096 < length plan → room_of plan ≡ 9
room_long plan h = ap (λ b. 9 * cond b 1 (max 1 (length (lines_of plan)))) (lt-ltb 4096 (length plan) h)

pub room_short : (plan : List ℕ) → length plan ≤ 4096 → room_of plan ≡ 9 * max 1 (length (lines_of plan))
room_short plan h = ap (λ b. 9 * cond b 1 (max 1 (length (lines_of plan)))) (le-ltb 4096 (length plan) h)

-- A text has no more lines than bytes.
begun_few : (byte : ℕ) (lines : List (List ℕ)) (n : ℕ) → length lines ≤ n → length (begun byte lines) ≤ n + 1
begun_few byte [] n h = omega arith
begun_few byte (line ∷ lines) n h = omega arith

pub lines_few : (text : List ℕ) → length (lines_of text) ≤ length text
lines_few [] = omega arith
lines_few (byte ∷ text) =
    let few = lines_few text in
    cond_both (eqb byte 10) ([] ∷ lines_of text) (begun byte (lines_of text)) (λ lines. length lines ≤ length (byte ∷ text)) (λ _. omega arith) (λ _. omega (arith, begun_few byte (lines_of text) (length text) few))

-- No plan's answers are given more than 36,864 bytes.
pub room_small : (plan : List ℕ) → room_of plan ≤ 36864
room_small plan =
    ⊎_elim
    (λ (h : 4096 < length plan). omega (arith, room_long plan h))
    (λ (h : length plan ≤ 4096). omega (arith, room_short plan h, lines_few plan))
    (cases_lt 4096 (length plan))
