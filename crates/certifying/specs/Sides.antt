-- A solver with the memory that it is lent, and one line answered on two of them. Assumes nothing.
use Rattle.std.specs.Prelude.{◌≡◌, ℕ, List, vec_items}
use Rattle.fields.specs.Field.{Ops}
use Rattle.nulla.specs.Replies.{Reply}
use Rattle.nulla.specs.State.{state_of, fresh}
use Rattle.certificates.specs.Outcome.{Memory, memory}
use Rattle.nulla.specs.Steps.{Lists}
use Rattle.certifying.specs.declared.side.Side.{Side}
use Rattle.certifying.specs.Turns.{Turn}

module _ {E C : Type 0} where
  abbrev pub memory_of : Side E C → Memory C
  memory_of s = memory (vec_items s.table) (vec_items s.certificate)

  -- A new solver that is lent this memory.
  pub record New (encoding : E) (table : List C) (certificate : List ℕ) (s : Side E C) : Type 0 where
    pub solver : state_of s.solver ≡ fresh
    pub encodes : s.solver.encoding ≡ encoding
    pub lent : memory_of s ≡ memory table certificate

  -- A line on a side, with its reply. The encoding stays.
  pub record Turned (o : Ops C) (lists : E → Lists C) (line : List ℕ) (before : Side E C) (r : Reply) (after : Side E C) : Type 0 where
    pub turn : Turn o (lists before.solver.encoding) line (state_of before.solver) (memory_of before) r (state_of after.solver) (memory_of after)
    pub encoding : after.solver.encoding ≡ before.solver.encoding

-- A line on two sides: what one replies, what the other does, and what is said of both replies.
pub record Both (One Other : Reply → Type 0) (Said : Reply → Reply → Type 0) : Type 0 where
  pub one : Reply
  pub other : Reply
  pub turns_one : One one
  pub turns_other : Other other
  pub said : Said one other
