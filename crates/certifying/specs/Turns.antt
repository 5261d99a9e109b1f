-- One line of a script on a solver over any field, with any encoding: a line of a plan, so the call that the line says is made, and a line that
-- says none is refused and changes nothing. Assumes nothing.
use Rattle.std.specs.Prelude.{ℕ, List}
use Rattle.fields.specs.Field.{Ops}
use Rattle.nulla.specs.Replies.{Reply}
use Rattle.nulla.specs.State.{State}
use Rattle.certificates.specs.Outcome.{Memory}
use Rattle.nulla.specs.Steps.{Lists}
use Rattle.plan.specs.Spelling.{Spells}
use Rattle.plan.specs.Texts.{Turn as TurnBy}

abbrev pub Turn : {F : Type 0} → Ops F → Lists F → List ℕ → State → Memory F → Reply → State → Memory F → Type 0
Turn o l line = TurnBy Spells o l line
