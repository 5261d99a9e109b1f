-- The step of a raise, from what working its degree comes to. Assumes nothing.
use Rattle.std.proofs.Common.{◌≡◌, ℕ, ◌+◌, ◌≤◌, true, List, ◌++◌, length, sym, refl, ap, ◌∙◌, subst, inl, inr, arith, Err}
use Rattle.fields.specs.Field.{Ops}
use Rattle.polynomials.specs.declared.term.Term.{Term}
use Rattle.graphs.specs.Graph.{joined}
use Rattle.certificates.specs.declared.refusal.Refusal.{Refusal}
use Rattle.certificates.specs.declared.refusal.Refusal.TheVariants.{AlreadyInfeasible}
use Rattle.certificates.specs.declared.verdict.Verdict.{Verdict}
use Rattle.certificates.specs.declared.verdict.Verdict.TheVariants.{Infeasible, Open}
use Rattle.certificates.specs.Grounds.{Ground, First, Clear, limit, room}
use Rattle.certificates.specs.Outcome.{Memory, Worked, certified, uncertified}
use Rattle.certificates.specs.Verdicts.{infeasible}
use Rattle.nulla.specs.Requests.{raise_degree}
use Rattle.nulla.specs.Replies.{told}
use Rattle.nulla.specs.declared.solver.Solver.{Solver}
use Rattle.nulla.specs.Standing.{reached}
use Rattle.nulla.specs.State.{State, state, state_of}
use Rattle.nulla.specs.Steps.{Lists, grounds, Step, refuses, answers, works}
use Rattle.nulla.proofs.States.{differ, not_over, same_state, step_as}

-- a verdict has the degree that was worked
pub reached_worked : {F : Type 0} {o : Ops F} {n d : ℕ} {eqs : List (List (Term F))} {m k : Memory F} {v : Verdict} → Worked o n d eqs m v k → reached v ≡ d
reached_worked (certified x c) = refl
reached_worked (uncertified h) = refl

module _ {E F : Type 0} (o : Ops F) (lists : E → Lists F) (s : Solver E) (m : Memory F) where
  abbrev here : State
  here = state_of s

  -- the equations of the solver's graph
  abbrev eqs : List (List (Term F))
  eqs = lists s.encoding s.graph.vertices (joined s.graph)

  -- what working the degree after d is refused on, and is not
  abbrev next : ℕ → List Ground
  next d = limit (d + 1) ++ room (length eqs) s.graph.vertices (d + 1) (length m.table) (length m.certificate)

  pub raise_over : (d k : ℕ) → s.standing ≡ Infeasible d k → Step o (lists s.encoding) raise_degree here m (Err AlreadyInfeasible) here m
  raise_over d k e = refuses (inl (ap infeasible e, refl))

  module _ (d : ℕ) (is : s.standing ≡ Open d) where
    still_open : infeasible s.standing ≡ true → ⊥
    still_open q = differ (sym q ∙ ap infeasible is)

    -- what holds of the degree that an open solver has reached
    at_reached : (P : ℕ → Type 0) → P d → P (reached s.standing)
    at_reached P x = subst P (sym (ap reached is)) x

    -- the degree after the one reached is above the last exactly where the last is reached
    first_next : (r : Refusal) → First (next (reached s.standing)) r → First (grounds o (lists s.encoding) raise_degree here m) r
    first_next r (inl x) = inr (still_open, inl (omega (arith, x.0), x.1))
    first_next r (inr x) = inr (still_open, inr ((λ h. x.0 (omega arith)), x.1))

    pub raise_refused : (r : Refusal) (k : Memory F) → First (next d) r → k ≡ m → Step o (lists s.encoding) raise_degree here m (Err r) here k
    raise_refused r k x q =
        subst (λ (j : Memory F). Step o (lists s.encoding) raise_degree here m (Err r) here j) (sym q) (refuses (first_next r (at_reached (λ e. First (next e) r) x)))

    pub raise_worked : (v : Verdict) (k : Memory F) → Clear (next d) → Worked o s.graph.vertices (d + 1) eqs m v k
        → Step o (lists s.encoding) raise_degree here m (told v) (state s.graph.vertices (joined s.graph) (d + 1) (infeasible v)) k
    raise_worked v k x w =
        let y = at_reached (λ e. Clear (next e)) x in
        let u = at_reached (λ e. Worked o s.graph.vertices (e + 1) eqs m v k) w in
        step_as (answers (still_open, ((λ h. y.0 (omega arith)), y.1)) (works u)) refl (same_state refl (λ i j. refl) (ap (λ e. e + 1) (ap reached is)) refl)

    pub next_low : Clear (next d) → d + 1 ≤ 48
    next_low x = not_over (d + 1) 48 x.0
