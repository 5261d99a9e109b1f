-- What holds of every call on every solver. Assumes nothing.
use Rattle.std.specs.Prelude.{◌≡◌, ℕ, ◌+◌, ◌≤◌, Bool, true, false, List, ◌++◌, length, take, Ok}
use Rattle.fields.specs.Field.{Ops}
use Rattle.coloring.specs.Coloring.{Color, Proper}
use Rattle.polynomials.specs.Certificate.{Certified}
use Rattle.certificates.specs.declared.verdict.Verdict.{Verdict}
use Rattle.certificates.specs.declared.verdict.Verdict.TheVariants.{Infeasible}
use Rattle.certificates.specs.Checking.{degree_of}
use Rattle.certificates.specs.Grounds.{Clear}
use Rattle.certificates.specs.Outcome.{Memory}
use Rattle.certificates.specs.Sizes.{rows}
use Rattle.certificates.specs.Verdicts.{infeasible}
use Rattle.nulla.specs.declared.reply.Answer.TheVariants.{Passed}
use Rattle.nulla.specs.Replies.{told, Reply}
use Rattle.nulla.specs.Requests.{Request, raise_degree, try_edge, check_certificate}
use Rattle.nulla.specs.State.{State, state}
use Rattle.nulla.specs.Steps.{Lists, ends_at, standing, joined_too, summed, Step}

-- two outcomes of a call are the same
pub record Same {F : Type 0} (a b : Reply) (t u : State) (k j : Memory F) : Type 0 where
  pub reply : a ≡ b
  pub state : t ≡ u
  pub memory : k ≡ j

module _ {F : Type 0} (o : Ops F) (l : Lists F) where
  -- The rules give each call one outcome: its reply, the state after it and what it leaves in memory follow from what it is made on.
  abbrev pub OneOutcome : Type 0
  OneOutcome =
      (q : Request) (s t u : State) (m k j : Memory F) (a b : Reply) → s.vertices ≤ 24 → Step o l q s m a t k → Step o l q s m b u j → Same a b t u k j

  -- Where a degree d is answered by infeasible, a certificate of that degree exists and no coloring is proper; where it is answered by
  -- open, no certificate of that degree exists. n vertices of which the pairs f are joined.
  pub record Meaning (n d : ℕ) (f : ℕ → ℕ → Bool) (v : Verdict) : Type 0 where
    pub certified : infeasible v ≡ true → Certified o n d (l n f)
    pub uncolorable : infeasible v ≡ true → (c : ℕ → Color) → Proper n f c → ⊥
    pub uncertified : infeasible v ≡ false → Certified o n d (l n f) → ⊥

  -- What the verdict of every raise and of every trial means, and what it means that a certificate passes.
  pub record VerdictsMean : Type 0 where
    pub raises : (s t : State) (m k : Memory F) (v : Verdict) → s.vertices ≤ 24 → Step o l raise_degree s m (told v) t k → Meaning s.vertices (s.degree + 1) s.joins v
    -- the trial speaks of the graph with the edge
    pub trials : (i j d : ℕ) (s t : State) (m k : Memory F) (v : Verdict) → s.vertices ≤ 24 → Step o l (try_edge i j d) s m (told v) t k
        → Meaning s.vertices d (joined_too s i j) v
    pub checks : (bytes : List ℕ) (s t : State) (m k : Memory F) → s.vertices ≤ 24 → Step o l (check_certificate bytes) s m (Ok Passed) t k
        → Certified o s.vertices (degree_of bytes) (l s.vertices s.joins) × ((c : ℕ → Color) → Proper s.vertices s.joins c → ⊥)

  -- A trial of an edge that may be added answers, and leaves in memory, what a raise to its degree does on a solver in which the edge stands.
  abbrev pub TriesAsRaises : Type 0
  TriesAsRaises =
      (i j d : ℕ) (s t u : State) (m k p : Memory F) (a b : Reply) → s.vertices ≤ 24 → Clear (ends_at i j (d + 1) s ++ standing i j s)
      → Step o l (try_edge i j (d + 1)) s m a t k → Step o l raise_degree (state s.vertices (joined_too s i j) d false) m b u p → (a ≡ b) × (k ≡ p)

  -- The certificate in the first bytes passes its check on a solver with these vertices and pairs, whatever table of enough elements the check is lent.
  abbrev pub PassesCheck : ℕ → (ℕ → ℕ → Bool) → ℕ → List ℕ → Type 0
  PassesCheck n f k bytes =
      (s : State) (m : Memory F) → s.vertices ≡ n → s.joins ≡ f → rows n (degree_of (take k bytes)) ≤ length m.table
      → Step o l (check_certificate (take k bytes)) s m (Ok Passed) s (summed o l (take k bytes) s m)

  -- What a raise writes passes the check of its solver, and what a trial writes the check of a solver in which the edge stands.
  pub record WrittenPass : Type 0 where
    pub raises : (d k : ℕ) (s t : State) (m p : Memory F) → s.vertices ≤ 24 → Step o l raise_degree s m (told (Infeasible d k)) t p → PassesCheck s.vertices s.joins k p.certificate
    pub trials : (i j e d k : ℕ) (s t : State) (m p : Memory F) → s.vertices ≤ 24 → Step o l (try_edge i j e) s m (told (Infeasible d k)) t p
        → PassesCheck s.vertices (joined_too s i j) k p.certificate
