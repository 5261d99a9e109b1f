-- What a line of a plan says: `B` opens a vertex, `C i j` adds an edge, `W i j` removes one, `R` raises the degree. Single spaces,
-- numbers of one to three decimal digits, and nothing else on the line. Assumes nothing.
use Rattle.std.specs.Prelude.{◌≡◌, ℕ, ◌+◌, ◌-◌, ◌*◌, ◌<◌, ◌≤◌, List, ◌∷◌, ◌++◌, length, Some, None, codes, fold, Option, slice_index}
use Rattle.nulla.specs.declared.call.Call.{Call}
use Rattle.nulla.specs.Requests.{Request, open_vertex, add_edge, remove_edge, raise_degree, request_of}

-- A byte that is a decimal digit.
abbrev pub Digit : ℕ → Type 0
Digit byte = (48 ≤ byte) × (byte < 58)

-- A number with one digit more at its end.
abbrev pub extended : ℕ → ℕ → ℕ
extended n byte = 10 * n + (byte - 48)

-- The digits are one to three, and write the number, with zeros in front or without.
pub record Decimal (digits : List ℕ) (n : ℕ) : Type 0 where
  pub some : 1 ≤ length digits
  pub few : length digits ≤ 3
  pub each : (k : ℕ) → k < length digits → Digit (slice_index digits k)
  pub value : n ≡ fold extended 0 digits

-- The line is a letter and then two numbers, with one space before each.
pub record Names (letter : ℕ) (line : List ℕ) (i j : ℕ) : Type 0 where
  pub first : List ℕ
  pub second : List ℕ
  pub is : line ≡ letter ∷ 32 ∷ (first ++ (32 ∷ second))
  pub first_is : Decimal first i
  pub second_is : Decimal second j

-- The line says that this is asked.
pub data Spells (line : List ℕ) : Request → Type 0 where
  opens : line ≡ codes "B" → Spells line open_vertex
  adds : {i j : ℕ} → Names 67 line i j → Spells line (add_edge i j)
  removes : {i j : ℕ} → Names 87 line i j → Spells line (remove_edge i j)
  raises : line ≡ codes "R" → Spells line raise_degree

-- The line says nothing that can be asked.
abbrev pub Malformed : List ℕ → Type 0
Malformed line = (q : Request) → Spells line q → ⊥

-- What digits come to, if they are a number.
abbrev pub Valued : List ℕ → Option ℕ → Type 0
Valued digits (Some n) = Decimal digits n
Valued digits None = (n : ℕ) → Decimal digits n → ⊥

-- The two numbers that a line names after its letter, if it does.
abbrev pub Named : List ℕ → Option (ℕ × ℕ) → Type 0
Named line (Some ends) = Names (slice_index line 0) line ends.0 ends.1
Named line None = (letter i j : ℕ) → Names letter line i j → ⊥

-- The call that a line says, if it says one.
abbrev pub Parsed : List ℕ → Option Call → Type 0
Parsed line (Some call) = Spells line (request_of call)
Parsed line None = Malformed line

-- A line says one call at most.
abbrev pub SpelledOnce : Type 0
SpelledOnce = (line : List ℕ) (a b : Request) → Spells line a → Spells line b → a ≡ b
