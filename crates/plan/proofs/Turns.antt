-- The answers to a plan's first lines, and to one line more. Assumes nothing.
use Rattle.std.proofs.Common.{◌≡◌, ℕ, ◌+◌, ◌*◌, ◌<◌, ◌≤◌, List, [], ◌∷◌, ◌++◌, length, take, drop, decimal, ℤ, pos, ◌-ℤ◌, Ok, Err, Result, codes, sym, refl, ap, ◌∙◌, subst, arith, w64, to_z, of_z}
use Rattle.std.specs.Result.{result_unwrap_or}
use Rattle.std.proofs.lemmas.List.{append_assoc, append-nil, length-append, drop-drop}
use Rattle.certificates.specs.declared.verdict.Verdict.{Verdict}
use Rattle.certificates.specs.Verdicts.{verdict_text}
use Rattle.nulla.specs.declared.reply.Answer.{Answer as SolverAnswer}
use Rattle.nulla.specs.Replies.{Reply}
use Rattle.nulla.specs.Words.{answer_text, words_of}
use Rattle.certificates.specs.declared.verdict.Verdict.TheVariants.{Infeasible, Open}
use Rattle.nulla.specs.declared.reply.Answer.TheVariants.{Opened, Done, Worked, Passed}
use Rattle.certificates.specs.declared.refusal.Refusal.{Refusal}
use Rattle.certificates.specs.declared.refusal.Refusal.TheVariants.{PlanTooLong}
use Rattle.certificates.specs.Refusals.{number_of}
use Rattle.fields.specs.Field.{Ops}
use Rattle.certificates.specs.Outcome.{Memory}
use Rattle.nulla.specs.Requests.{Request}
use Rattle.nulla.specs.State.{State}
use Rattle.nulla.specs.Steps.{Lists}
use Rattle.plan.specs.Lines.{lines_of}
use Rattle.plan.specs.Rendering.{line_of, Short, ShortAnswer, ShortVerdict, Wrote, held, used, Appended}
use Rattle.plan.specs.declared.text.Text.{Text}
use Rattle.plan.specs.Solving.{Store, Blank}
use Rattle.plan.specs.Texts.{Turn, says, unsaid, Filled}
use Rattle.plan.specs.Plans.{Written, too_long, in_turn, room_of, Answer, written, refused, Tracked, Entry, Lined}
use Rattle.plan.proofs.Going.{Goes, none, next, goes_then, goes_answered}
use Rattle.plan.proofs.Overwriting.{decimal_short, wrote_front, wrote_rest, appended_length}
use Rattle.plan.proofs.Shortness.{made_short}
use Rattle.plan.proofs.Splits.{room_long, room_short, room_small}

number_short : (word : List ℕ) (n : ℕ) → n < 100 → length word ≤ 6 → length (word ++ decimal n) ≤ 8
number_short word n small few = simp length-append (omega (arith, decimal_short n small))

verdict_short : (v : Verdict) → ShortVerdict v → length (verdict_text v) ≤ 8
verdict_short (Infeasible degree length) small = number_short (codes "few ") degree small (omega arith)
verdict_short (Open degree) small = number_short (codes "open ") degree small (omega arith)

answer_words_short : (a : SolverAnswer) → ShortAnswer a → length (answer_text a) ≤ 8
answer_words_short (Opened vertex) small = number_short (codes "batch ") vertex small (omega arith)
answer_words_short Done small = omega arith
answer_words_short (Worked verdict) small = verdict_short verdict small
answer_words_short Passed small = omega arith

pub words_short : (r : Reply) → Short r → length (words_of r) ≤ 8
words_short (Ok answer) small = answer_words_short answer small
words_short (Err ground) small = number_short (codes "no ") (number_of ground) small (omega arith)

-- An answer line has nine bytes at most.
pub line_short : (r : Reply) → Short r → length (line_of r) ≤ 9
line_short r small = simp length-append (omega (arith, words_short r small))

pub turn_short : {F : Type 0} {Says : List ℕ → Request → Type 0} {o : Ops F} {l : Lists F} {line : List ℕ} {s t : State} {m n : Memory F} {r : Reply} → Turn Says o l line s m r t n → Short r
turn_short (says spelled made) = made_short made
turn_short (unsaid no_call) = omega arith

module _ {F : Type 0} (Says : List ℕ → Request → Type 0) (o : Ops F) (l : Lists F) where
  -- The lines before those that are left are answered from a state, the answers are the first `used` bytes, and the bytes past them stay.
  pub record Progress (text before : List ℕ) (from : State) (lent : Memory F) (left : List (List ℕ)) (used : ℕ) (after : List ℕ) (s : State) (m : Memory F) : Type 0 where
    pub lines : List (List ℕ)
    pub split : lines_of text ≡ lines ++ left
    pub answered : Goes Says o l lines from lent (take used after) s m
    pub within : used ≤ 9 * length lines
    pub kept : drop used after ≡ drop used before

  pub progress_none : (text before : List ℕ) (from : State) (lent : Memory F) → Progress text before from lent (lines_of text) 0 before from lent
  progress_none text before from lent = record { lines = []; split = refl; answered = none; within = omega arith; kept = refl }

  module _ (text before : List ℕ) (from : State) (lent : Memory F) (left : List (List ℕ)) (used : ℕ) (after : List ℕ) (s : State) (m : Memory F) (p : Progress text before from lent left used after s m) where
    -- Where no line is left all are answered.
    pub progress_all : left ≡ [] → Filled Says o l text before from lent used after m
    progress_all over =
        let all : lines_of text ≡ p.lines = p.split ∙ ap (λ t. p.lines ++ t) over ∙ append-nil p.lines in
        record {
          end = s;
          answered = goes_answered Says o l (subst (λ ls. Goes Says o l ls from lent (take used after) s m) (sym all) p.answered);
          within = subst (λ ls. used ≤ 9 * length ls) (sym all) p.within;
          kept = p.kept;
        }

    module _ (line : List ℕ) (rest : List (List ℕ)) (more : left ≡ line ∷ rest) (room : 9 * length (lines_of text) ≤ length after) where
      split_more : lines_of text ≡ (p.lines ++ (line ∷ [])) ++ rest
      split_more = p.split ∙ ap (λ t. p.lines ++ t) more ∙ sym (append_assoc p.lines (line ∷ []) rest)

      -- There is memory for the next answer.
      pub progress_room : used + 9 ≤ length after
      progress_room =
          let count : length (lines_of text) ≡ length p.lines + 1 + length rest = ap length split_more ∙ simp length-append (omega arith) in
          omega (arith, p.within)

      pub progress_more : (r : Reply) (t : State) (n : Memory F) (then : List ℕ) (later : ℕ) → Turn Says o l line s m r t n → Wrote after used (line_of r) then later → Progress text before from lent rest later then t n
      progress_more r t n then later turn w =
          let short = line_short r (turn_short turn) in
          let enough = progress_room in
          let fits : used + length (line_of r) ≤ length after = omega arith in
          let front : take later then ≡ take used after ++ (line_of r ++ []) = wrote_front after used (line_of r) then later fits w ∙ ap (λ t. take used after ++ t) (sym (append-nil (line_of r))) in
          let past : drop later after ≡ drop later before = ap (λ k. drop k after) w.ends ∙ sym (drop-drop (length (line_of r)) used after) ∙ ap (drop (length (line_of r))) p.kept ∙ drop-drop (length (line_of r)) used before ∙ ap (λ k. drop k before) (sym w.ends) in
          record {
            lines = p.lines ++ (line ∷ []);
            split = split_more;
            answered = subst (λ x. Goes Says o l (p.lines ++ (line ∷ [])) from lent x t n) (sym front) (goes_then Says o l p.answered (next turn none));
            within = simp length-append (omega (arith, p.within, w.ends));
            kept = wrote_rest after used (line_of r) then later fits w ∙ past;
          }

  -- The same of lines and the text of their answers, in the memory that was lent to it.
  pub record Answering (lines : List ℕ) (from : State) (lent : Memory F) (empty : Text) (left : List (List ℕ)) (text : Text) (s : State) (m : Memory F) : Type 0 where
    pub place : text.memory.ghost_name ≡ empty.memory.ghost_name
    pub room : 9 * length (lines_of lines) ≤ length (held text)
    pub progress : Progress lines (held empty) from lent left (used text) (held text) s m

  pub answering_none : (lines before : List ℕ) (from : State) (lent : Memory F) (text : Text) (left : List (List ℕ)) (s : State) → 9 * length (lines_of lines) ≤ length before → held text ≡ before → used text ≡ 0 → left ≡ lines_of lines → s ≡ from → Answering lines from lent text left text s lent
  answering_none lines before from lent text left s room memory empty all same = record {
    place = refl;
    room = omega (arith, ap length memory);
    progress = rw (all, empty, same) (progress_none lines (held text) from lent);
  }

  module _ {lines : List ℕ} {from : State} {lent : Memory F} {empty : Text} {left : List (List ℕ)} {text : Text} {s : State} {m : Memory F} (p : Answering lines from lent empty left text s m) where
    pub answering_all : {before : List ℕ} → held empty ≡ before → left ≡ [] → Filled Says o l lines before from lent (used text) (held text) m
    answering_all is over =
        subst (λ b. Filled Says o l lines b from lent (used text) (held text) m) is (progress_all lines (held empty) from lent left (used text) (held text) s m p.progress over)

    module _ {line : List ℕ} {rest : List (List ℕ)} (more : left ≡ line ∷ rest) where
      pub answering_room : used text + 9 ≤ length (held text)
      answering_room = progress_room lines (held empty) from lent left (used text) (held text) s m p.progress line rest more p.room

      pub answering_more : (r : Reply) (t : State) (n : Memory F) (longer : Text) → Turn Says o l line s m r t n → Appended text (line_of r) longer → Answering lines from lent empty rest longer t n
      answering_more r t n longer turn a =
          let short = line_short r (turn_short turn) in
          let enough = answering_room in
          record {
            place = a.lent ∙ p.place;
            room = omega (arith, appended_length text longer (line_of r) (omega arith) a, p.room);
            progress = progress_more lines (held empty) from lent left (used text) (held text) s m p.progress line rest more p.room r t n (held longer) (used longer) turn a.wrote;
          }

-- A plan that is too long has its one answer.
answer_long_at : (plan before : List ℕ) (lent : Store) (n : ℕ) (after : List ℕ) → 4096 < length plan → room_of plan ≤ length before → Wrote before 0 (line_of (Err PlanTooLong)) after n → Answer plan before lent (Ok n) after lent
answer_long_at plan before lent n after long enough w =
    let nine = room_long plan long in
    let short = line_short (Err PlanTooLong) (omega arith) in
    let fits : 0 + length (line_of (Err PlanTooLong)) ≤ length before = omega arith in
    written enough (omega (arith, w.ends)) (subst (λ t. Written lent plan t lent) (sym (wrote_front before 0 (line_of (Err PlanTooLong)) after n fits w)) (too_long long)) (wrote_rest before 0 (line_of (Err PlanTooLong)) after n fits w)

pub answer_long : (plan before : List ℕ) (lent : Store) (empty text : Text) → 4096 < length plan → room_of plan ≤ length before → held empty ≡ before → used empty ≡ 0 → Appended empty (line_of (Err PlanTooLong)) text → Answer plan before lent (Ok (used text)) (held text) lent
answer_long plan before lent empty text long enough memory at a =
    answer_long_at plan before lent (used text) (held text) long enough (subst (λ b. Wrote b 0 (line_of (Err PlanTooLong)) (held text) (used text)) memory (subst (λ k. Wrote (held empty) k (line_of (Err PlanTooLong)) (held text) (used text)) at a.wrote))

-- Any other plan has an answer for each line.
pub answer_short : (plan before : List ℕ) (lent : Store) (n : ℕ) (after : List ℕ) (left : Store) → length plan ≤ 4096 → room_of plan ≤ length before → Lined plan before lent n after left → Answer plan before lent (Ok n) after left
answer_short plan before lent n after left short enough l =
    let nine = room_short plan short in
    written enough (omega (arith, l.within)) (in_turn short l.answered) l.kept

-- What an answer says of the number that a caller in C sees.
answer_small : {plan before after : List ℕ} {lent left : Store} {n : ℕ} → Answer plan before lent (Ok n) after left → n ≤ 36864
answer_small {plan = plan} (written enough within is kept) = omega (arith, room_small plan)

pub tracked_small : {plan before after : List ℕ} {n : ℕ} → Tracked plan before (Ok n) after → n ≤ 36864
tracked_small t = answer_small t.answer

written_at : {plan before after : List ℕ} {lent left : Store} {n : ℕ} → Blank lent → Answer plan before lent (Ok n) after left → Entry plan before (pos n) after
written_at blank (written enough within is kept) = written blank enough within is kept

pub entry_written : {plan before after : List ℕ} {n : ℕ} → Tracked plan before (Ok n) after → Entry plan before (pos n) after
entry_written t = written_at t.blank t.answer

-- The number below zero is worked out at 64 bits.
refused_at : {plan before after : List ℕ} {lent left : Store} {ground : Refusal} (z : ℤ) → z ≡ pos (number_of ground) → Answer plan before lent (Err ground) after left → Entry plan before (to_z w64 (of_z w64 (pos 0 -ℤ to_z w64 (of_z w64 z)))) after
refused_at {plan = plan} {before = before} z e (refused short) =
    subst (λ k. Entry plan before (to_z w64 (of_z w64 (pos 0 -ℤ to_z w64 (of_z w64 k)))) before) (sym e) (refused short)

pub entry_refused : {plan before after : List ℕ} {ground : Refusal} (z : ℤ) → z ≡ pos (number_of ground) → Tracked plan before (Err ground) after → Entry plan before (to_z w64 (of_z w64 (pos 0 -ℤ to_z w64 (of_z w64 z)))) after
entry_refused z e t = refused_at z e t.answer

-- Where there is room for the answers they are not refused.
given_at : {plan before after : List ℕ} {lent left : Store} (r : Result ℕ Refusal) → Blank lent → room_of plan ≤ length before → Answer plan before lent r after left → Entry plan before (pos (result_unwrap_or r 0)) after
given_at (Ok n) blank room a = written_at blank a
given_at (Err _) blank room (refused short) = absurd (omega arith)

pub entry_given : {plan before after : List ℕ} {r : Result ℕ Refusal} {n : ℕ} → n ≡ result_unwrap_or r 0 → Tracked plan before r after → room_of plan ≤ length before → Entry plan before (pos n) after
entry_given {plan = plan} {before = before} {after = after} {r = r} e t room = subst (λ k. Entry plan before (pos k) after) (sym e) (given_at r t.blank room t.answer)
