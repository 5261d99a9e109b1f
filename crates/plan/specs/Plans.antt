-- What the text of a plan is: the rendering, line by line, of a run of the calls that its lines say on a new solver over bits with the plain
-- encoding. A plan above 4,096 bytes has one answer, and no line of it is read.
-- Assumes nothing.
use Rattle.std.specs.Prelude.{◌≡◌, ℕ, ◌*◌, ◌<◌, ◌≤◌, max, cond, List, length, take, drop, ℤ, pos, negsuc, Ok, Err, Result, nat_lt}
use Rattle.certificates.specs.declared.refusal.Refusal.{Refusal}
use Rattle.certificates.specs.declared.refusal.Refusal.TheVariants.{OutputTooSmall, PlanTooLong}
use Rattle.fields.specs.Bit.{bit_ops}
use Rattle.coloring.specs.Equations.{plain}
use Rattle.nulla.specs.State.{State, fresh}
use Rattle.plan.specs.Lines.{lines_of}
use Rattle.plan.specs.Rendering.{line_of}
use Rattle.plan.specs.Solving.{Store, InTurn, Blank}
use Rattle.plan.specs.Spelling.{Spells}
use Rattle.plan.specs.Texts.{Filled}

-- The text of a plan on a new solver that is lent this memory, and what the memory then holds.
pub data Written (lent : Store) (plan : List ℕ) : List ℕ → Store → Type 0 where
  too_long : 4096 < length plan → Written lent plan (line_of (Err PlanTooLong)) lent
  in_turn : {text : List ℕ} {end : State} {left : Store} → length plan ≤ 4096 → InTurn (lines_of plan) lent text end left → Written lent plan text left

-- The memory that a plan's text is given: nine bytes for each line, and nine at least. A plan that is too long counts as one line.
abbrev pub room_of : List ℕ → ℕ
room_of plan = 9 * cond (nat_lt 4096 (length plan)) 1 (max 1 (length (lines_of plan)))

-- What an answer to a plan comes to: too little memory for the text is refused, and nothing changes; else the text stands at the front
-- of its memory, and the bytes past it stay.
pub data Answer (plan before : List ℕ) (lent : Store) : Result ℕ Refusal → List ℕ → Store → Type 0 where
  refused : length before < room_of plan → Answer plan before lent (Err OutputTooSmall) before lent
  written : {n : ℕ} {after : List ℕ} {left : Store} → room_of plan ≤ length before → n ≤ room_of plan → Written lent plan (take n after) left → drop n after ≡ drop n before → Answer plan before lent (Ok n) after left

-- The same where the call works in memory of its own, which is all zero at first.
pub record Tracked (plan before : List ℕ) (result : Result ℕ Refusal) (after : List ℕ) : Type 0 where
  pub lent : Store
  pub left : Store
  pub blank : Blank lent
  pub answer : Answer plan before lent result after left

-- The same for a caller in C, who sees a number: the text's length, or -4.
pub data Entry (plan before : List ℕ) : ℤ → List ℕ → Type 0 where
  refused : length before < room_of plan → Entry plan before (negsuc 3) before
  written : {n : ℕ} {after : List ℕ} {lent left : Store} → Blank lent → room_of plan ≤ length before → n ≤ room_of plan → Written lent plan (take n after) left → drop n after ≡ drop n before → Entry plan before (pos n) after

-- The lines of a plan that is not too long, answered.
abbrev pub Lined : List ℕ → List ℕ → Store → ℕ → List ℕ → Store → Type 0
Lined plan before lent n after left = Filled Spells bit_ops (plain bit_ops.one) plan before fresh lent n after left

-- A plan that is not too long has as many lines of answer as it has lines.
abbrev pub AnsweredEach : Type 0
AnsweredEach =
    (lent left : Store) (plan text : List ℕ) → length plan ≤ 4096 → Written lent plan text left → length (lines_of text) ≡ length (lines_of plan)

-- A plan has one text.
abbrev pub WrittenOnce : Type 0
WrittenOnce =
    (lent left left' : Store) (plan text text' : List ℕ) → Written lent plan text left → Written lent plan text' left' → text ≡ text'
