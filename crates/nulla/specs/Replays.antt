-- Calls that are made one after the other in the same memory, each lent what the one before it left: a run. Assumes nothing.
use Rattle.std.specs.Prelude.{◌≡◌, List, [], ◌∷◌, map, length}
use Rattle.fields.specs.Field.{Ops}
use Rattle.certificates.specs.Outcome.{Memory}
use Rattle.nulla.specs.Replies.{Reply}
use Rattle.nulla.specs.Requests.{Request}
use Rattle.nulla.specs.Runs.{Asked, Answered, Runs}
use Rattle.nulla.specs.State.{State, fresh}
use Rattle.nulla.specs.Steps.{Lists}

-- the calls, each lent what the answer to the one before it left
abbrev pub lending : {F : Type 0} → List Request → Memory F → List (Answered F) → List (Asked F)
lending [] m gs = []
lending (q ∷ qs) m [] = []
lending (q ∷ qs) m (a ∷ gs) = record { call = q; lent = m } ∷ lending qs a.left gs

-- what the last answer left
abbrev pub last : {F : Type 0} → Memory F → List (Answered F) → Memory F
last m [] = m
last m (a ∷ gs) = last a.left gs

-- The calls were made from the state s in the memory m: there is a run of them with these replies, which ends in the state t and leaves k.
pub record Replayed {F : Type 0} (o : Ops F) (l : Lists F) (qs : List Request) (s : State) (m : Memory F) (replies : List Reply) (t : State) (k : Memory F) : Type 0 where
  pub answered : List (Answered F)
  pub each : length answered ≡ length qs
  pub ran : Runs o l (lending qs m answered) s answered t
  pub replied : map (λ a. a.reply) answered ≡ replies
  pub left : last m answered ≡ k

-- The calls were made on a new solver.
abbrev pub ReplayedNew : {F : Type 0} → Ops F → Lists F → List Request → Memory F → List Reply → Memory F → Type 0
ReplayedNew o l qs m replies k = (t : State) × Replayed o l qs fresh m replies t k
