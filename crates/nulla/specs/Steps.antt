-- The rules of a solver: the grounds on which each call is refused, in their order, and what an accepted call answers and leaves.
-- Assumes nothing.
use Rattle.std.specs.Prelude.{◌≡◌, ℕ, ◌+◌, ◌<◌, ◌≤◌, min, max, Bool, true, false, ◌⊎◌, List, [], ◌∷◌, ◌++◌, length, Ok, Err}
use Rattle.fields.specs.Field.{Ops}
use Rattle.polynomials.specs.declared.term.Term.{Term}
use Rattle.certificates.specs.declared.refusal.Refusal.{Refusal}
use Rattle.certificates.specs.declared.refusal.Refusal.TheVariants.{OutOfRange, SameVertex, NotOne, NoVertexLeft, NoSuchVertex, AlreadyJoined, NotJoined, AlreadyInfeasible, LastDegree}
use Rattle.certificates.specs.declared.verdict.Verdict.{Verdict}
use Rattle.certificates.specs.Checking.{faults, Passes, swept}
use Rattle.certificates.specs.Grounds.{Ground, if, First, Clear, room}
use Rattle.certificates.specs.Outcome.{Memory, memory, Worked}
use Rattle.certificates.specs.Verdicts.{infeasible}
use Rattle.nulla.specs.declared.reply.Answer.TheVariants.{Opened, Done, Passed}
use Rattle.nulla.specs.Replies.{told, Reply}
use Rattle.nulla.specs.Requests.{Request, open_vertex, add_edge, remove_edge, raise_degree, try_edge, check_certificate}
use Rattle.nulla.specs.State.{State, with_pair, with_vertex, with_edge, without_edge, raised}

-- The equations that an encoding lists for so many vertices and the pairs that are joined.
abbrev pub Lists : Type 0 → Type 0
Lists F = ℕ → (ℕ → ℕ → Bool) → List (List (Term F))

-- Two numbers that do not name two open vertices: one names none that is open, or both name the same.
abbrev pub unnamed : ℕ → ℕ → State → List Ground
unnamed i j s = if NoSuchVertex ((s.vertices ≤ i) ⊎ (s.vertices ≤ j)) ∷ if SameVertex (i ≡ j) ∷ []

-- Two numbers that do not name an edge between open vertices.
abbrev pub ends : ℕ → ℕ → State → List Ground
ends i j s = if OutOfRange ((23 < i) ⊎ (23 < j)) ∷ unnamed i j s

-- The same, or a degree that is not 1 to 48.
abbrev pub ends_at : ℕ → ℕ → ℕ → State → List Ground
ends_at i j d s = if OutOfRange ((23 < i) ⊎ (23 < j) ⊎ (d < 1) ⊎ (48 < d)) ∷ unnamed i j s

-- The edge stands already.
abbrev pub standing : ℕ → ℕ → State → List Ground
standing i j s = if AlreadyJoined (s.joins (min i j) (max i j) ≡ true) ∷ []

-- The edge does not stand.
abbrev pub lacking : ℕ → ℕ → State → List Ground
lacking i j s = if NotJoined (s.joins (min i j) (max i j) ≡ false) ∷ []

-- What a raise is refused on: e equations, so many elements of the table and bytes for the certificate.
abbrev pub raising : State → ℕ → ℕ → ℕ → List Ground
raising s e elements bytes =
    if AlreadyInfeasible (s.infeasible ≡ true)
    ∷ if LastDegree (48 ≤ s.degree)
    ∷ room e s.vertices (s.degree + 1) elements bytes

-- The pairs with one edge more.
abbrev pub joined_too : State → ℕ → ℕ → ℕ → ℕ → Bool
joined_too s i j = with_pair s.joins (min i j) (max i j) true

module _ {F : Type 0} (o : Ops F) (l : Lists F) where
  -- how many equations the encoding lists
  abbrev pub equations : State → ℕ
  equations s = length (l s.vertices s.joins)

  -- What a trial is refused on: it works on the graph with the edge.
  abbrev pub trying : ℕ → ℕ → ℕ → State → Memory F → List Ground
  trying i j d s m =
      ends_at i j d s ++ (standing i j s ++ room (length (l s.vertices (joined_too s i j))) s.vertices d (length m.table) (length m.certificate))

  -- The grounds on which each call is refused, in the order in which they are looked at. A check that comes to its sum may still fail.
  abbrev pub grounds : Request → State → Memory F → List Ground
  grounds open_vertex s m = if NoVertexLeft (24 ≤ s.vertices) ∷ []
  grounds (add_edge i j) s m = ends i j s ++ standing i j s
  grounds (remove_edge i j) s m = ends i j s ++ lacking i j s
  grounds raise_degree s m = raising s (equations s) (length m.table) (length m.certificate)
  grounds (try_edge i j d) s m = trying i j d s m
  grounds (check_certificate bytes) s m = faults o s.vertices (l s.vertices s.joins) bytes m.table

  -- what a check that came to the sum leaves in memory
  abbrev pub summed : List ℕ → State → Memory F → Memory F
  summed bytes s m = memory (swept o s.vertices (l s.vertices s.joins) bytes m.table) m.certificate

  -- What a call that is not refused on its grounds answers, the state after it, and what it leaves in memory.
  pub data Answers : Request → State → Memory F → Reply → State → Memory F → Type 0 where
    opens : {s : State} {m : Memory F} → Answers open_vertex s m (Ok (Opened s.vertices)) (with_vertex s) m
    adds : {i j : ℕ} {s : State} {m : Memory F} → Answers (add_edge i j) s m (Ok Done) (with_edge s (min i j) (max i j)) m
    removes : {i j : ℕ} {s : State} {m : Memory F} → Answers (remove_edge i j) s m (Ok Done) (without_edge s (min i j) (max i j)) m
    -- the degree after the one reached is worked, and then is reached
    works : {s : State} {m k : Memory F} {v : Verdict} → Worked o s.vertices (s.degree + 1) (l s.vertices s.joins) m v k
        → Answers raise_degree s m (told v) (raised s (infeasible v)) k
    -- the degree is worked on the graph with the edge, and the state is as it was
    tries : {i j d : ℕ} {s : State} {m k : Memory F} {v : Verdict} → Worked o s.vertices d (l s.vertices (joined_too s i j)) m v k
        → Answers (try_edge i j d) s m (told v) s k
    passes : {bytes : List ℕ} {s : State} {m : Memory F} → Passes o s.vertices (l s.vertices s.joins) bytes
        → Answers (check_certificate bytes) s m (Ok Passed) s (summed bytes s m)
    fails : {bytes : List ℕ} {s : State} {m : Memory F} → (Passes o s.vertices (l s.vertices s.joins) bytes → ⊥)
        → Answers (check_certificate bytes) s m (Err NotOne) s (summed bytes s m)

  -- One call. A call that is refused on one of its grounds changes neither solver nor memory.
  pub data Step : Request → State → Memory F → Reply → State → Memory F → Type 0 where
    refuses : {q : Request} {s : State} {m : Memory F} {r : Refusal} → First (grounds q s m) r → Step q s m (Err r) s m
    answers : {q : Request} {s t : State} {m k : Memory F} {a : Reply} → Clear (grounds q s m) → Answers q s m a t k → Step q s m a t k
