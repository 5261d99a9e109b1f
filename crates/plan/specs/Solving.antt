-- The solver that works on a plan: over bits, with the plain encoding. Assumes nothing.
use Rattle.std.specs.Prelude.{◌≡◌, ℕ, List, replicate}
use Rattle.fields.specs.declared.bit.Bit.{Bit}
use Rattle.fields.specs.Bit.{bit_ops}
use Rattle.coloring.specs.Equations.{plain}
use Rattle.nulla.specs.State.{State, fresh}
use Rattle.certificates.specs.Outcome.{Memory, memory}
use Rattle.nulla.specs.Replies.{Reply}
use Rattle.nulla.specs.Requests.{Request}
use Rattle.nulla.specs.Steps.{Step}
use Rattle.plan.specs.Spelling.{Spells}
use Rattle.plan.specs.Texts.{Answered}

-- The memory that is lent to each call: the table's elements and the certificate's bytes.
abbrev pub Store : Type 0
Store = Memory Bit

abbrev pub store : List Bit → List ℕ → Store
store table certificate = memory table certificate

-- A request, from a state and the memory lent, with its reply, to a state and what the memory then holds.
abbrev pub Made : Request → State → Store → Reply → State → Store → Type 0
Made q s lent r t left = Step bit_ops (plain bit_ops.one) q s lent r t left

-- Lines of a plan on a new solver that is lent this memory: their text, the state and the memory after.
abbrev pub InTurn : List (List ℕ) → Store → List ℕ → State → Store → Type 0
InTurn lines lent text end left = Answered Spells bit_ops (plain bit_ops.one) lines fresh lent text end left

-- The memory that an exported call lends: 65,536 elements and 16,384 bytes, all zero.
pub record Blank (store : Store) : Type 0 where
  pub table : store.table ≡ replicate 65536 bit_ops.zero
  pub certificate : store.certificate ≡ replicate 16384 0
