-- Lines answered one after the other, each from where the one before it ended, and that this is what a text is. Assumes nothing.
use Rattle.std.proofs.Common.{ℕ, List, [], ◌∷◌, ◌++◌}
use Rattle.std.proofs.lemmas.List.{append_assoc}
use Rattle.fields.specs.Bit.{bit_ops}
use Rattle.fields.specs.Field.{Ops}
use Rattle.certificates.specs.Outcome.{Memory}
use Rattle.coloring.specs.Equations.{plain}
use Rattle.nulla.specs.Replies.{Reply}
use Rattle.nulla.specs.Requests.{Request}
use Rattle.nulla.specs.State.{State}
use Rattle.nulla.specs.Steps.{Lists}
use Rattle.nulla.proofs.Replaying.{Makes, replayed, replayed_makes}
use Rattle.nulla.proofs.Replaying.{none as no_call, more as one-call}
use Rattle.plan.specs.Rendering.{line_of}
use Rattle.plan.specs.Solving.{Store}
use Rattle.plan.specs.Spelling.{Spells}
use Rattle.plan.specs.Texts.{Turn, says, unsaid, Texts, no_line, reply, malformed, Answered}

module _ {F : Type 0} (Says : List ℕ → Request → Type 0) (o : Ops F) (l : Lists F) where
  -- lines in their order, and the text of the replies
  pub data Goes : List (List ℕ) → State → Memory F → List ℕ → State → Memory F → Type 0 where
    none : {s : State} {m : Memory F} → Goes [] s m [] s m
    next : {line : List ℕ} {lines : List (List ℕ)} {s t u : State} {m n k : Memory F} {r : Reply} {text : List ℕ} → Turn Says o l line s m r t n → Goes lines t n text u k → Goes (line ∷ lines) s m (line_of r ++ text) u k

  pub goes_then : {lines more : List (List ℕ)} {s t u : State} {m n k : Memory F} {text rest : List ℕ} → Goes lines s m text t n → Goes more t n rest u k → Goes (lines ++ more) s m (text ++ rest) u k
  goes_then none b = b
  goes_then {rest = rest} (next {r = r} {text = text} turn a) b = rw (append_assoc (line_of r) text rest) (next turn (goes_then a b))

  -- the calls that were made, with their replies
  record Made (lines : List (List ℕ)) (s : State) (m : Memory F) (text : List ℕ) (t : State) (k : Memory F) : Type 0 where
    requests : List Request
    replies : List Reply
    texts : Texts Says lines requests replies text
    makes : Makes o l requests s m replies t k

  goes_made : {lines : List (List ℕ)} {s t : State} {m k : Memory F} {text : List ℕ} → Goes lines s m text t k → Made lines s m text t k
  goes_made none = record { requests = []; replies = []; texts = no_line; makes = no_call }
  goes_made (next {r = r} (says {q = q} p h) rest) =
      let a = goes_made rest in
      record { requests = q ∷ a.requests; replies = r ∷ a.replies; texts = reply p a.texts; makes = one-call h a.makes }
  goes_made (next (unsaid p) rest) =
      let a = goes_made rest in
      record { requests = a.requests; replies = a.replies; texts = malformed p a.texts; makes = a.makes }

  pub goes_answered : {lines : List (List ℕ)} {s t : State} {m k : Memory F} {text : List ℕ} → Goes lines s m text t k → Answered Says o l lines s m text t k
  goes_answered g =
      let a = goes_made g in
      record { requests = a.requests; replies = a.replies; texts = a.texts; replayed = replayed o l a.makes }

  made_goes : {lines : List (List ℕ)} {qs : List Request} {rs : List Reply} {s t : State} {m k : Memory F} {text : List ℕ} → Texts Says lines qs rs text → Makes o l qs s m rs t k → Goes lines s m text t k
  made_goes no_line no_call = none
  made_goes (reply p rest) (one-call h calls) = next (says p h) (made_goes rest calls)
  made_goes (malformed p rest) calls = next (unsaid p) (made_goes rest calls)

  pub answered_goes : {lines : List (List ℕ)} {s t : State} {m k : Memory F} {text : List ℕ} → Answered Says o l lines s m text t k → Goes lines s m text t k
  answered_goes a = made_goes a.texts (replayed_makes o l a.replayed)

-- one line of a plan, and lines of it
abbrev pub PlanTurn : List ℕ → State → Store → Reply → State → Store → Type 0
PlanTurn = Turn Spells bit_ops (plain bit_ops.one)

abbrev pub PlanGoes : List (List ℕ) → State → Store → List ℕ → State → Store → Type 0
PlanGoes = Goes Spells bit_ops (plain bit_ops.one)

pub plan_goes : {lines : List (List ℕ)} {s t : State} {m k : Store} {text : List ℕ} → Answered Spells bit_ops (plain bit_ops.one) lines s m text t k → PlanGoes lines s m text t k
plan_goes = answered_goes Spells bit_ops (plain bit_ops.one)
