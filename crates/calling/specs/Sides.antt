-- A solver with the memory that it is lent, and one line answered on two of them. Assumes nothing.
use Rattle.std.specs.Prelude.{◌≡◌, ℕ, List, length, vec_items}
use Rattle.fields.specs.Field.{Ops}
use Rattle.nulla.specs.Replies.{Reply}
use Rattle.nulla.specs.State.{state_of}
use Rattle.nulla.specs.Steps.{Lists}
use Rattle.certifying.specs.Sides.{memory_of, New as NewSide}
use Rattle.calling.specs.declared.side.Side.{Side}
use Rattle.calling.specs.Script.{Replied, Holds}

module _ {E C : Type 0} where
  -- A new solver that is lent this memory: for the table, for certificates, and for the certificate that a check is handed.
  pub record New (encoding : E) (table : List C) (certificate given : List ℕ) (s : Side E C) : Type 0 where
    pub side : NewSide encoding table certificate s.side
    pub given_is : vec_items s.given ≡ given

  -- A line on a side, with its reply. The encoding stays.
  pub record Turned (o : Ops C) (lists : E → Lists C) (line : List ℕ) (before : Side E C) (r : Reply) (after : Side E C) : Type 0 where
    pub replied : Replied o (lists before.side.solver.encoding) line (length (vec_items before.given)) (state_of before.side.solver) (memory_of before.side) r (state_of after.side.solver) (memory_of after.side)
    pub holds : Holds line (vec_items before.given) (vec_items after.given)
    pub encoding : after.side.solver.encoding ≡ before.side.solver.encoding
