-- Lists of calls on a new solver, and what holds of them: that what the solver says is true after each, and that two solvers over
-- two fields answer alike. Assumes nothing.
use Rattle.std.specs.Prelude.{◌≡◌, ℕ, ◌<◌, ◌≤◌, Bool, true, false, List, [], ◌∷◌, length, take, ◌≢◌, slice_index, Ok, Err}
use Rattle.fields.specs.Field.{Ops}
use Rattle.coloring.specs.Coloring.{Color, Proper}
use Rattle.polynomials.specs.Certificate.{Certified}
use Rattle.polynomials.specs.Image.{SameOnes}
use Rattle.certificates.specs.Checking.{degree_of}
use Rattle.certificates.specs.Outcome.{Memory}
use Rattle.nulla.specs.Replies.{Reply}
use Rattle.certificates.specs.declared.verdict.Verdict.TheVariants.{Infeasible, Open}
use Rattle.nulla.specs.declared.reply.Answer.TheVariants.{Opened, Done, Worked, Passed}
use Rattle.nulla.specs.Requests.{Request, check_certificate, SameRequest, IsCheck, Removes}
use Rattle.nulla.specs.State.{State, fresh}
use Rattle.nulla.specs.Steps.{Lists, Step}
use Rattle.nulla.specs.Theorems.{OneOutcome, VerdictsMean, TriesAsRaises, WrittenPass}

-- a call, and the memory that it is lent
pub record Asked (F : Type 0) : Type 0 where
  pub call : Request
  pub lent : Memory F

-- the reply, and what the memory holds after it
pub record Answered (F : Type 0) : Type 0 where
  pub reply : Reply
  pub left : Memory F

-- two certificates that were written are equal except in byte 1, which names the field
abbrev pub SameBytes : Reply → List ℕ → List ℕ → Type 0
SameBytes (Ok (Opened v)) xs ys = Unit {0}
SameBytes (Ok Done) xs ys = Unit {0}
SameBytes (Ok (Worked (Infeasible d k))) xs ys = (i : ℕ) → i < k → (i ≢ 1) → slice_index xs i ≡ slice_index ys i
SameBytes (Ok (Worked (Open d))) xs ys = Unit {0}
SameBytes (Ok Passed) xs ys = Unit {0}
SameBytes (Err r) xs ys = Unit {0}

module _ {F : Type 0} (o : Ops F) (l : Lists F) where
  -- calls in their order, each from the state that the one before it left
  pub data Runs : List (Asked F) → State → List (Answered F) → State → Type 0 where
    done : {s : State} → Runs [] s [] s
    next : {q : Asked F} {qs : List (Asked F)} {s u t : State} {a : Answered F} {gs : List (Answered F)}
        → Step o l q.call s q.lent a.reply u a.left → Runs qs u gs t → Runs (q ∷ qs) s (a ∷ gs) t

  -- What a solver says is true: infeasible, that some sum of multiples of its products at the degree reached is one, and no coloring is
  -- proper; open at degree 1 or higher, that no such sum is one, and no certificate of that degree passes its check, whatever it is lent.
  pub record Truthful (s : State) : Type 0 where
    pub few : s.vertices ≤ 24
    pub certified : s.infeasible ≡ true → Certified o s.vertices s.degree (l s.vertices s.joins)
    pub uncolorable : s.infeasible ≡ true → (c : ℕ → Color) → Proper s.vertices s.joins c → ⊥
    pub uncertified : s.infeasible ≡ false → 1 ≤ s.degree → Certified o s.vertices s.degree (l s.vertices s.joins) → ⊥
    pub unpassed : s.infeasible ≡ false → 1 ≤ s.degree → (bytes : List ℕ) (m k : Memory F) (t : State) → degree_of bytes ≡ s.degree → Step o l (check_certificate bytes) s m (Ok Passed) t k → ⊥

  -- After the first k calls of a run on a new solver: the state that the rules give, and what the solver then says is true.
  pub record Stands (qs : List (Asked F)) (gs : List (Answered F)) (k : ℕ) : Type 0 where
    pub state : State
    pub ruled : Runs (take k qs) fresh (take k gs) state
    pub truthful : Truthful state

  -- every list of calls, whatever memory each is lent, has a run on a new solver
  abbrev pub EveryListRuns : Type 0
  EveryListRuns = (qs : List (Asked F)) → (gs : List (Answered F)) × (t : State) × Runs qs fresh gs t

  -- Where a solver says infeasible it does so after every call but a removal, at the same degree.
  abbrev pub Stays : Type 0
  Stays =
      (q : Request) (s t : State) (m k : Memory F) (a : Reply) → (Removes q → ⊥) → Step o l q s m a t k → s.infeasible ≡ true
      → (t.infeasible ≡ true) × (t.degree ≡ s.degree)

  -- What holds of every list of calls on one new solver: the rules give each call one outcome and each list a run; after each call of every run
  -- what the solver says is true; only a removal takes infeasible back; verdicts and certificates mean what they say.
  pub record OneSolver : Type 0 where
    pub outcome : OneOutcome o l
    pub exists : EveryListRuns
    pub stands : (qs : List (Asked F)) (gs : List (Answered F)) (t : State) → Runs qs fresh gs t → (k : ℕ) → Stands qs gs k
    pub stays : Stays
    pub verdicts : VerdictsMean o l
    pub trials : TriesAsRaises o l
    pub written : WrittenPass o l

module _ {F G : Type 0} where
  -- the same call, with as many elements and bytes of memory; the certificates handed to checks may be any
  pub record SameAsked (q : Asked F) (r : Asked G) : Type 0 where
    pub call : SameRequest q.call r.call
    pub table : length q.lent.table ≡ length r.lent.table
    pub certificate : length q.lent.certificate ≡ length r.lent.certificate

  -- one list of calls for both
  abbrev pub SameCalls : List (Asked F) → List (Asked G) → Type 0
  SameCalls [] [] = Unit {0}
  SameCalls [] (r ∷ rs) = ⊥
  SameCalls (q ∷ qs) [] = ⊥
  SameCalls (q ∷ qs) (r ∷ rs) = SameAsked q r × SameCalls qs rs

  -- the same reply, but to a check, and the same certificate if one was written
  pub record SameAnswered (q : Asked F) (a : Answered F) (b : Answered G) : Type 0 where
    pub reply : (IsCheck q.call → ⊥) → a.reply ≡ b.reply
    pub bytes : SameBytes a.reply a.left.certificate b.left.certificate

  -- as many answers as calls, each pair the same
  pub data SameAnswers : List (Asked F) → List (Answered F) → List (Answered G) → Type 0 where
    no_more : SameAnswers [] [] []
    one_more : {q : Asked F} {qs : List (Asked F)} {a : Answered F} {gs : List (Answered F)} {b : Answered G} {hs : List (Answered G)}
        → SameAnswered q a b → SameAnswers qs gs hs → SameAnswers (q ∷ qs) (a ∷ gs) (b ∷ hs)

  -- Two new solvers over two fields, under encodings that list the same exponents in the same order with all coefficients one, get one list of
  -- calls with equal memory: they answer alike, and say the same at the same degree.
  abbrev pub TwoSolvers : Ops F → Ops G → Lists F → Lists G → Type 0
  TwoSolvers o p l k =
      ((n : ℕ) (f : ℕ → ℕ → Bool) → SameOnes o p (l n f) (k n f)) →
      (qs : List (Asked F)) (rs : List (Asked G)) (gs : List (Answered F)) (bs : List (Answered G)) (t u : State) →
      SameCalls qs rs → Runs o l qs fresh gs t → Runs p k rs fresh bs u → (t ≡ u) × SameAnswers qs gs bs

-- All of it.
pub record Whole {F G : Type 0} (o : Ops F) (p : Ops G) (l : Lists F) (k : Lists G) : Type 0 where
  pub first : OneSolver o l
  pub second : OneSolver p k
  pub both : TwoSolvers o p l k
