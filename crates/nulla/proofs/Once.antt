-- The rules give each call one reply, one state and one memory after it. Assumes nothing.
use Rattle.std.proofs.Common.{ℕ, ◌+◌, ◌≤◌, refl, ap, inl, inr, arith, Err}
use Rattle.std.proofs.lemmas.Bool.{cases_lt}
use Rattle.fields.specs.Field.{Ops, Laws}
use Rattle.nulla.specs.Requests.{Request}
use Rattle.certificates.specs.declared.verdict.Verdict.{Verdict}
use Rattle.certificates.specs.Grounds.{Clear}
use Rattle.certificates.specs.Outcome.{Memory}
use Rattle.certificates.specs.Verdicts.{infeasible}
use Rattle.certificates.proofs.Grounds.{first_one, not_both}
use Rattle.certificates.proofs.Once.{worked_once}
use Rattle.nulla.specs.Replies.{told, Reply}
use Rattle.nulla.specs.State.{State, raised}
use Rattle.nulla.specs.Steps.{Lists, grounds, Answers, opens, adds, removes, works, tries, passes, fails, Step, refuses, answers}
use Rattle.nulla.specs.Theorems.{Same, OneOutcome}

module _ {F : Type 0} {o : Ops F} (laws : Laws o) where
  answers_once : {l : Lists F} {c : Request} {s t u : State} {m k j : Memory F} {a b : Reply} → s.vertices ≤ 24 → Answers o l c s m a t k → Answers o l c s m b u j → Same a b t u k j
  answers_once few opens opens = record { reply = refl; state = refl; memory = refl }
  answers_once few adds adds = record { reply = refl; state = refl; memory = refl }
  answers_once few removes removes = record { reply = refl; state = refl; memory = refl }
  answers_once {s = s} few (works v) (works w) =
      let e = worked_once laws few v w in
      record { reply = ap told e.0; state = ap (λ (z : Verdict). raised s (infeasible z)) e.0; memory = e.1 }
  answers_once few (tries v) (tries w) =
      let e = worked_once laws few v w in
      record { reply = ap told e.0; state = refl; memory = e.1 }
  answers_once few (passes h) (passes k) = record { reply = refl; state = refl; memory = refl }
  answers_once few (passes h) (fails k) = absurd (k h)
  answers_once few (fails h) (passes k) = absurd (h k)
  answers_once few (fails h) (fails k) = record { reply = refl; state = refl; memory = refl }

  pub one_outcome : (l : Lists F) → OneOutcome o l
  one_outcome l c s t u m k j a b few (refuses f) (refuses g) = record { reply = ap Err (first_one (grounds o l c s m) _ _ f g); state = refl; memory = refl }
  one_outcome l c s t u m k j a b few (refuses f) (answers d g) = absurd (not_both (grounds o l c s m) _ f d)
  one_outcome l c s t u m k j a b few (answers d f) (refuses g) = absurd (not_both (grounds o l c s m) _ g d)
  one_outcome l c s t u m k j a b few (answers d f) (answers e g) = answers_once few f g

-- the vertices stay at most 24
few_more : (n : ℕ) → (24 ≤ n → ⊥) → n + 1 ≤ 24
few_more n h = elim (cases_lt n 24) [ inl l ↦ omega arith | inr l ↦ absurd (h l) ]

answers_few : {F : Type 0} {o : Ops F} {l : Lists F} {c : Request} {s t : State} {m k : Memory F} {a : Reply} → Clear (grounds o l c s m) → s.vertices ≤ 24 → Answers o l c s m a t k → t.vertices ≤ 24
answers_few {s = s} d few opens = few_more s.vertices d.0
answers_few d few adds = few
answers_few d few removes = few
answers_few d few (works w) = few
answers_few d few (tries w) = few
answers_few d few (passes h) = few
answers_few d few (fails h) = few

pub step_few : {F : Type 0} {o : Ops F} {l : Lists F} {c : Request} {s t : State} {m k : Memory F} {a : Reply} → s.vertices ≤ 24 → Step o l c s m a t k → t.vertices ≤ 24
step_few few (refuses f) = few
step_few few (answers d g) = answers_few d few g
