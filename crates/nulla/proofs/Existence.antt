-- Every list of calls has a run. Assumes nothing.
use Rattle.std.proofs.Common.{ℕ, ◌+◌, ◌≤◌, List, [], ◌∷◌, inl, inr, arith, Err, Ok}
use Rattle.fields.specs.Field.{Ops, Laws}
use Rattle.coloring.specs.Encoding.{Bounded}
use Rattle.certificates.specs.declared.refusal.Refusal.TheVariants.{NotOne}
use Rattle.certificates.specs.Grounds.{Clear}
use Rattle.certificates.specs.Outcome.{Memory}
use Rattle.certificates.specs.Verdicts.{infeasible}
use Rattle.certificates.proofs.Deciding.{formed}
use Rattle.nulla.specs.declared.reply.Answer.TheVariants.{Passed}
use Rattle.nulla.specs.Replies.{told, Reply}
use Rattle.nulla.specs.Requests.{Request, open_vertex, add_edge, remove_edge, raise_degree, try_edge, check_certificate}
use Rattle.nulla.specs.State.{State, fresh, raised}
use Rattle.nulla.specs.Steps.{Lists, grounds, joined_too, summed, Answers, opens, adds, removes, works, tries, passes, fails, Step, refuses, answers}
use Rattle.nulla.specs.Runs.{Asked, Answered, Runs, done, next, EveryListRuns}
use Rattle.nulla.proofs.Decisions.{known_grounds, first_or_clear}
use Rattle.nulla.proofs.Once.{step_few}
use Rattle.nulla.proofs.Outcomes.{worked, known_passes}

module _ {F : Type 0} {o : Ops F} (laws : Laws o) (l : Lists F) (most : ℕ) (bounded : Bounded o l most) where
  -- a call that is not refused is answered
  answered : (q : Request) (s : State) (m : Memory F) → s.vertices ≤ 24 → Clear (grounds o l q s m) → (a : Reply) × (t : State) × (k : Memory F) × Answers o l q s m a t k
  answered open_vertex s m few c = (_, _, _, opens)
  answered (add_edge i j) s m few c = (_, _, _, adds)
  answered (remove_edge i j) s m few c = (_, _, _, removes)
  answered raise_degree s m few c =
      let w = worked laws s.vertices (l s.vertices s.joins) (formed o l most s.vertices s.joins bounded few) (s.degree + 1) m in
      (told w.0, raised s (infeasible w.0), w.1, works w.2)
  answered (try_edge i j d) s m few c =
      let w = worked laws s.vertices (l s.vertices (joined_too s i j)) (formed o l most s.vertices (joined_too s i j) bounded few) d m in
      (told w.0, s, w.1, tries w.2)
  answered (check_certificate bytes) s m few c = elim (known_passes laws s.vertices (l s.vertices s.joins) (formed o l most s.vertices s.joins bounded few) bytes m.table c) [
    | inl h ↦ (Ok Passed, s, summed o l bytes s m, passes h)
    | inr h ↦ (Err NotOne, s, summed o l bytes s m, fails h)
  ]

  stepped : (q : Request) (s : State) (m : Memory F) → s.vertices ≤ 24 → (a : Reply) × (t : State) × (k : Memory F) × Step o l q s m a t k
  stepped q s m few = elim (first_or_clear (grounds o l q s m) (known_grounds o l q s m)) [
    | inl f ↦ (Err f.0, s, m, refuses f.1)
    | inr c ↦ let h = answered q s m few c in (h.0, h.1, h.2, answers c h.3)
  ]

  run_from : (qs : List (Asked F)) (s : State) → s.vertices ≤ 24 → (gs : List (Answered F)) × (t : State) × Runs o l qs s gs t
  run_from [] s few = ([], s, done)
  run_from (q ∷ qs) s few =
      let h = stepped q.call s q.lent few in
      let rest = run_from qs h.1 (step_few few h.3) in
      (record { reply = h.0; left = h.2 } ∷ rest.0, rest.1, next h.3 rest.2)

  pub every_list_runs : EveryListRuns o l
  every_list_runs qs = run_from qs fresh (omega arith)
