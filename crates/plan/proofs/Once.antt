-- A plan has one text, since each call has one outcome. Assumes nothing.
use Rattle.std.proofs.Common.{◌≡◌, ℕ, ◌≤◌, List, sym, refl, subst, arith}
use Rattle.fields.specs.Bit.{bit_ops, bit_laws}
use Rattle.coloring.specs.Equations.{plain}
use Rattle.nulla.specs.Replies.{Reply}
use Rattle.nulla.specs.State.{State}
use Rattle.nulla.specs.Theorems.{Same}
use Rattle.nulla.proofs.Once.{one_outcome, step_few}
use Rattle.nulla.specs.Steps.{Step}
use Rattle.plan.specs.Solving.{Store}
use Rattle.plan.specs.Texts.{says, unsaid}
use Rattle.plan.specs.Plans.{too_long, in_turn, WrittenOnce}
use Rattle.plan.proofs.Going.{PlanTurn, PlanGoes, none, next, plan_goes}
use Rattle.plan.proofs.Spelled.{spelled_once}

turn_once : (line : List ℕ) (s t u : State) (m n o : Store) (r q : Reply) → s.vertices ≤ 24 → PlanTurn line s m r t n → PlanTurn line s m q u o → Same r q t u n o
turn_once line s t u m n o r q few (says {q = a} p h) (says {q = b} p' k) =
    one_outcome bit_laws (plain bit_ops.one) a s t u m n o r q few h (subst (λ z. Step bit_ops (plain bit_ops.one) z s m q u o) (sym (spelled_once line a b p p')) k)
turn_once line s t u m n o r q few (says {q = a} p h) (unsaid no_call) = absurd (no_call a p)
turn_once line s t u m n o r q few (unsaid no_call) (says {q = b} p k) = absurd (no_call b p)
turn_once line s t u m n o r q few (unsaid no_call) (unsaid as-well) = record { reply = refl; state = refl; memory = refl }

turn_few : {line : List ℕ} {s t : State} {m n : Store} {r : Reply} → s.vertices ≤ 24 → PlanTurn line s m r t n → t.vertices ≤ 24
turn_few few (says p h) = step_few few h
turn_few few (unsaid no_call) = few

goes_once : {lines : List (List ℕ)} {s t u : State} {m n o : Store} {text other : List ℕ} → s.vertices ≤ 24 → PlanGoes lines s m text t n → PlanGoes lines s m other u o → text ≡ other
goes_once few none none = refl
goes_once {s = s} {u = u} {m = m} {o = o} few (next {line = line} {lines = lines} {t = t} {n = n} {r = r} {text = text} turn rest) (next {t = t'} {n = n'} {r = q} {text = other} turn' rest') =
    let same = turn_once line s t t' m n n' r q few turn turn' in
    let back : PlanGoes lines t n' other u o = subst (λ x. PlanGoes lines x n' other u o) (sym same.state) rest' in
    let again : PlanGoes lines t n other u o = subst (λ x. PlanGoes lines t x other u o) (sym same.memory) back in
    let texts : text ≡ other = goes_once (turn_few few turn) rest again in
    cc (same.reply, texts)

pub written_once : WrittenOnce
written_once lent left left' plan text text' (too_long h) (too_long k) = refl
written_once lent left left' plan text text' (too_long h) (in_turn k a) = absurd (omega arith)
written_once lent left left' plan text text' (in_turn h a) (too_long k) = absurd (omega arith)
written_once lent left left' plan text text' (in_turn h a) (in_turn k b) = goes_once (omega arith) (plan_goes a) (plan_goes b)
