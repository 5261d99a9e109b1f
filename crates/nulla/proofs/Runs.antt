-- What holds of lists of calls. Assumes nothing.
use Rattle.std.proofs.Common.{◌≡◌, ℕ, zero, suc, ◌+◌, ◌≤◌, min, max, Bool, true, false, cond, List, take, sym, refl, ap, ◌∙◌, subst, arith}
use Rattle.fields.specs.Field.{Ops, Laws}
use Rattle.coloring.specs.Coloring.{Color, Proper}
use Rattle.coloring.specs.Encoding.{Bounded, Lawful, Joins}
use Rattle.coloring.proofs.Certified.{no_coloring, grows_vertex, grows_edge}
use Rattle.polynomials.specs.Certificate.{Certified}
use Rattle.nulla.specs.Requests.{Request, Removes}
use Rattle.nulla.specs.Replies.{Reply}
use Rattle.certificates.specs.Outcome.{Memory}
use Rattle.certificates.specs.Verdicts.{infeasible}
use Rattle.nulla.specs.State.{State, state, fresh, with_pair, without_edge, raised}
use Rattle.certificates.specs.Grounds.{Clear}
use Rattle.nulla.specs.Steps.{Lists, grounds, Answers, opens, adds, removes, works, tries, passes, fails, Step, refuses, answers}
use Rattle.nulla.specs.Runs.{Asked, Answered, Runs, done, next, Truthful, Stays, OneSolver}
use Rattle.nulla.proofs.Meaning.{worked_means, passed_certified, verdicts_mean}
use Rattle.nulla.proofs.Once.{one_outcome, step_few}
use Rattle.nulla.proofs.Existence.{every_list_runs}
use Rattle.nulla.proofs.Trying.{tries_as_raises}
use Rattle.nulla.proofs.Passing.{written_pass}
use Rattle.nulla.proofs.States.{differ, here, elsewhere}

-- joining a pair joins just that
joins_pair : (f : ℕ → ℕ → Bool) (i j : ℕ) → Joins f i j (with_pair f i j true)
joins_pair f i j = record { here = here f i j true; others = λ k l n. elsewhere f i j true k l n }

module _ {F : Type 0} {o : Ops F} (laws : Laws o) (l : Lists F) (lawful : Lawful o l) where
  -- where no certificate of the degree exists, none passes its check
  truthful : (s : State) → s.vertices ≤ 24 → (s.infeasible ≡ true → Certified o s.vertices s.degree (l s.vertices s.joins))
      → (s.infeasible ≡ true → (c : ℕ → Color) → Proper s.vertices s.joins c → ⊥)
      → (s.infeasible ≡ false → 1 ≤ s.degree → Certified o s.vertices s.degree (l s.vertices s.joins) → ⊥) → Truthful o l s
  truthful s few some proper lacks = record {
    few = few;
    certified = some;
    uncolorable = proper;
    uncertified = lacks;
    unpassed = λ e one bytes m k t q h.
        lacks e one (subst (λ (d : ℕ). Certified o s.vertices d (l s.vertices s.joins)) q (passed_certified laws l lawful few refl h));
  }

  -- a state in which nothing is said
  unsaid : (s : State) → s.vertices ≤ 24 → s.infeasible ≡ false → s.degree ≡ 0 → Truthful o l s
  unsaid s few e z = truthful s few (λ t. absurd (differ (sym t ∙ e))) (λ t. absurd (differ (sym t ∙ e))) (λ t one. absurd (omega (arith, z)))

  fresh_truthful : Truthful o l fresh
  fresh_truthful = unsaid fresh (omega arith) refl refl

  -- after the graph has grown: what was infeasible still is, and an open solver says nothing
  grown : (n m d : ℕ) (f h : ℕ → ℕ → Bool) (b : Bool) → m ≤ 24 → (Certified o n d (l n f) → Certified o m d (l m h)) → Truthful o l (state n f d b) → Truthful o l (state m h (cond b d 0) b)
  grown n m d f h true few keep s =
      let some = keep (s.certified refl) in
      truthful (state m h d true) few (λ e. some) (λ e. no_coloring laws l lawful m d h few some) (λ e. absurd (differ e))
  grown n m d f h false few keep s = unsaid (state m h 0 false) few refl refl

  answers_truthful : {c : Request} {s t : State} {m k : Memory F} {a : Reply} → Clear (grounds o l c s m) → Answers o l c s m a t k → t.vertices ≤ 24 → Truthful o l s → Truthful o l t
  answers_truthful {s = s} c opens few h =
      grown s.vertices (s.vertices + 1) s.degree s.joins s.joins s.infeasible few (grows_vertex laws l lawful s.vertices s.degree s.joins (omega arith)) h
  answers_truthful {s = s} c (adds {i = i} {j = j}) few h =
      grown s.vertices s.vertices s.degree s.joins (with_pair s.joins (min i j) (max i j) true) s.infeasible few
      (grows_edge laws l lawful s.vertices s.degree s.joins (with_pair s.joins (min i j) (max i j) true) (min i j) (max i j) few (joins_pair s.joins (min i j) (max i j))) h
  answers_truthful {s = s} c (removes {i = i} {j = j}) few h = unsaid (without_edge s (min i j) (max i j)) few refl refl
  answers_truthful {s = s} c (works {v = v} w) few h =
      let means = worked_means laws l lawful few w in
      truthful (raised s (infeasible v)) few means.certified means.uncolorable (λ e one. means.uncertified e)
  answers_truthful c (tries w) few h = h
  answers_truthful c (passes p) few h = h
  answers_truthful c (fails p) few h = h

  step_truthful : {c : Request} {s t : State} {m k : Memory F} {a : Reply} → Step o l c s m a t k → Truthful o l s → Truthful o l t
  step_truthful (refuses f) h = h
  step_truthful (answers c a) h = answers_truthful c a (step_few h.few (answers c a)) h

  runs_truthful : {qs : List (Asked F)} {gs : List (Answered F)} {s t : State} → Runs o l qs s gs t → Truthful o l s → Truthful o l t
  runs_truthful done h = h
  runs_truthful (next p rest) h = runs_truthful rest (step_truthful p h)

  runs_take : (k : ℕ) {qs : List (Asked F)} {gs : List (Answered F)} {s t : State} → Runs o l qs s gs t → (u : State) × Runs o l (take k qs) s (take k gs) u
  runs_take zero {s = s} h = (s, done)
  runs_take (suc k) {s = s} done = (s, done)
  runs_take (suc k) (next p rest) = let more = runs_take k rest in (more.0, next p more.1)

  answers_stay : {q : Request} {s t : State} {m k : Memory F} {a : Reply} → (Removes q → ⊥) → Clear (grounds o l q s m) → Answers o l q s m a t k → s.infeasible ≡ true → (t.infeasible ≡ true) × (t.degree ≡ s.degree)
  answers_stay {s = s} n c opens e = (e, ap (λ (b : Bool). cond b s.degree 0) e)
  answers_stay {s = s} n c adds e = (e, ap (λ (b : Bool). cond b s.degree 0) e)
  answers_stay n c removes e = absurd (n tt)
  answers_stay n c (works w) e = absurd (c.0 e)
  answers_stay n c (tries w) e = (e, refl)
  answers_stay n c (passes p) e = (e, refl)
  answers_stay n c (fails p) e = (e, refl)

  stays : Stays o l
  stays q s t m k a n (refuses f) e = (e, refl)
  stays q s t m k a n (answers c h) e = answers_stay n c h e

  pub one_solver : (most : ℕ) → Bounded o l most → OneSolver o l
  one_solver most bounded = record {
    outcome = one_outcome laws l;
    exists = every_list_runs laws l most bounded;
    stands = λ qs gs t h k.
        let p = runs_take k h in
        record { state = p.0; ruled = p.1; truthful = runs_truthful p.1 fresh_truthful };
    stays = stays;
    verdicts = verdicts_mean laws l lawful;
    trials = tries_as_raises laws l;
    written = written_pass laws l most bounded;
  }
