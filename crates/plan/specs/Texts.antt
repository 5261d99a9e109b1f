-- Lines that are answered in their order, on a solver over any field with any encoding: the calls that they say are a run, and the text is the
-- rendering of its replies, line by line. What lines say is a relation between a line and what is asked. Assumes nothing.
use Rattle.std.specs.Prelude.{◌≡◌, ℕ, ◌*◌, ◌≤◌, List, [], ◌∷◌, ◌++◌, length, take, drop, Err}
use Rattle.fields.specs.Field.{Ops}
use Rattle.certificates.specs.declared.refusal.Refusal.TheVariants.{MalformedLine}
use Rattle.certificates.specs.Outcome.{Memory}
use Rattle.nulla.specs.Replies.{Reply}
use Rattle.nulla.specs.Replays.{Replayed}
use Rattle.nulla.specs.Requests.{Request}
use Rattle.nulla.specs.State.{State}
use Rattle.nulla.specs.Steps.{Lists, Step}
use Rattle.plan.specs.Lines.{lines_of}
use Rattle.plan.specs.Rendering.{line_of}

module _ (Says : List ℕ → Request → Type 0) where
  -- the line says nothing that can be asked
  abbrev pub Unsaid : List ℕ → Type 0
  Unsaid line = (q : Request) → Says line q → ⊥

  -- Lines, what they ask, the replies to that, and the text: the line of each reply, and for a line that says nothing the line of a refusal.
  pub data Texts : List (List ℕ) → List Request → List Reply → List ℕ → Type 0 where
    no_line : Texts [] [] [] []
    reply : {line : List ℕ} {lines : List (List ℕ)} {q : Request} {qs : List Request} {r : Reply} {rs : List Reply} {text : List ℕ}
        → Says line q → Texts lines qs rs text → Texts (line ∷ lines) (q ∷ qs) (r ∷ rs) (line_of r ++ text)
    malformed : {line : List ℕ} {lines : List (List ℕ)} {qs : List Request} {rs : List Reply} {text : List ℕ}
        → Unsaid line → Texts lines qs rs text → Texts (line ∷ lines) qs rs (line_of (Err MalformedLine) ++ text)

  module _ {F : Type 0} (o : Ops F) (l : Lists F) where
    -- The text of the lines from a state in a memory, with the state and the memory after: what the lines ask was replayed.
    pub record Answered (lines : List (List ℕ)) (s : State) (m : Memory F) (text : List ℕ) (t : State) (k : Memory F) : Type 0 where
      pub requests : List Request
      pub replies : List Reply
      pub texts : Texts lines requests replies text
      pub replayed : Replayed o l requests s m replies t k

    -- The lines of a text, answered from a state into memory for the answers: these are its first n bytes, and the bytes past them stay.
    pub record Filled (lines before : List ℕ) (s : State) (m : Memory F) (n : ℕ) (after : List ℕ) (k : Memory F) : Type 0 where
      pub end : State
      pub answered : Answered (lines_of lines) s m (take n after) end k
      pub within : n ≤ 9 * length (lines_of lines)
      pub kept : drop n after ≡ drop n before

    -- One line: what it says is asked, and a line that says nothing is refused and changes nothing.
    pub data Turn (line : List ℕ) : State → Memory F → Reply → State → Memory F → Type 0 where
      says : {q : Request} {s t : State} {m k : Memory F} {r : Reply} → Says line q → Step o l q s m r t k → Turn line s m r t k
      unsaid : {s : State} {m : Memory F} → Unsaid line → Turn line s m (Err MalformedLine) s m
