-- What a line of a script says: what a line of a plan says, or `T i j d`, which tries an edge at a degree, or `K HEX`, which checks a
-- certificate. Assumes nothing.
use Rattle.std.specs.Prelude.{◌≡◌, ℕ, ◌%◌, ◌<◌, ◌≤◌, List, ◌∷◌, ◌++◌, length, drop, Some, None, Option, Err, slice_index}
use Rattle.fields.specs.Field.{Ops}
use Rattle.certificates.specs.Outcome.{Memory}
use Rattle.certificates.specs.declared.refusal.Refusal.TheVariants.{OutputTooSmall}
use Rattle.nulla.specs.declared.call.Call.{Call}
use Rattle.nulla.specs.Replies.{Reply}
use Rattle.nulla.specs.Requests.{Request, try_edge, check_certificate, IsCheck, request_of}
use Rattle.nulla.specs.State.{State}
use Rattle.nulla.specs.Steps.{Lists}
use Rattle.plan.specs.Spelling.{Decimal, Names, Spells}
use Rattle.plan.specs.Texts.{Turn}
use Rattle.calling.specs.Digits.{HexDigits, Writes}

-- The line is a letter and then three numbers, with one space before each.
pub record NamesThree (letter : ℕ) (line : List ℕ) (i j d : ℕ) : Type 0 where
  pub front : List ℕ
  pub third : List ℕ
  pub is : line ≡ front ++ (32 ∷ third)
  pub front_is : Names letter front i j
  pub third_is : Decimal third d

-- The line is `K`, one space, and at least two hexadecimal digits, which write these bytes.
pub record Hands (line bytes : List ℕ) : Type 0 where
  pub digits : List ℕ
  pub is : line ≡ 75 ∷ 32 ∷ digits
  pub some : 1 ≤ length bytes
  pub digits_are : Writes digits bytes

-- The line says that this is asked.
pub data Asks (line : List ℕ) : Request → Type 0 where
  planned : {q : Request} → Spells line q → Asks line q
  tries : {i j d : ℕ} → NamesThree 84 line i j d → Asks line (try_edge i j d)
  checks : {bytes : List ℕ} → Hands line bytes → Asks line (check_certificate bytes)

-- A line says one thing at most.
abbrev pub AskedOnce : Type 0
AskedOnce = (line : List ℕ) (a b : Request) → Asks line a → Asks line b → a ≡ b

-- The line asks for no check.
abbrev pub Unchecked : List ℕ → Type 0
Unchecked line = (bytes : List ℕ) → Asks line (check_certificate bytes) → ⊥

-- The three numbers that a line names after its letter, if it does.
abbrev pub Named : List ℕ → Option (ℕ × ℕ × ℕ) → Type 0
Named line (Some n) = NamesThree (slice_index line 0) line n.0 n.1 n.2
Named line None = (letter i j d : ℕ) → NamesThree letter line i j d → ⊥

-- The line is `K`, one space and these hexadecimal digits, an even number of them and at least two.
pub record HandsDigits (line digits : List ℕ) : Type 0 where
  pub is : line ≡ 75 ∷ 32 ∷ digits
  pub each : HexDigits digits
  pub even : length digits % 2 ≡ 0
  pub some : 2 ≤ length digits

-- The digits of the certificate that a line hands over for a check, if it asks for one.
abbrev pub Handed : List ℕ → Option (List ℕ) → Type 0
Handed line (Some digits) = HandsDigits line digits
Handed line None = Unchecked line

-- The call that a line says, if it says one that is no check.
abbrev pub Parsed : List ℕ → Option Call → Type 0
Parsed line (Some call) = Asks line (request_of call) × (IsCheck (request_of call) → ⊥)
Parsed line None = (q : Request) → Asks line q → IsCheck q

-- The certificate that a line hands over, if it does, is not longer than this.
abbrev pub Fits : List ℕ → ℕ → Type 0
Fits line most = (bytes : List ℕ) → Asks line (check_certificate bytes) → length bytes ≤ most

-- A line on a solver that is lent so much memory for the certificate that a check is handed: the line's turn, or, where that memory is
-- too short, a refusal that changes nothing.
pub data Replied {F : Type 0} (o : Ops F) (l : Lists F) (line : List ℕ) (most : ℕ) : State → Memory F → Reply → State → Memory F → Type 0 where
  turned : {s t : State} {m k : Memory F} {r : Reply} → Fits line most → Turn Asks o l line s m r t k → Replied o l line most s m r t k
  too_long : {bytes : List ℕ} {s : State} {m : Memory F} → Asks line (check_certificate bytes) → most < length bytes → Replied o l line most s m (Err OutputTooSmall) s m

-- What the memory for a check's certificate holds after a line: the certificate in front, and the rest as it was. Any other line leaves it,
-- and so does a certificate that is longer.
pub data Holds (line before : List ℕ) : List ℕ → Type 0 where
  decoded : {bytes : List ℕ} → Asks line (check_certificate bytes) → length bytes ≤ length before → Holds line before (bytes ++ drop (length bytes) before)
  left : ((bytes : List ℕ) → Asks line (check_certificate bytes) → length before < length bytes) → Holds line before before
