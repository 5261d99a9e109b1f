-- What every step has in common. Assumes nothing.
use Rattle.std.proofs.Common.{ℕ, ◌≤◌, List, inr, arith}
use Rattle.std.proofs.Math.Nat.{lt_of_not-le}
use Rattle.fields.specs.Field.{Ops}
use Rattle.polynomials.specs.declared.term.Term.{Term}
use Rattle.nulla.specs.Requests.{Request}
use Rattle.certificates.specs.declared.verdict.Verdict.{Verdict}
use Rattle.certificates.specs.Outcome.{Memory, Worked, certified, uncertified}
use Rattle.nulla.specs.Replies.{told, Small, Reply}
use Rattle.nulla.specs.State.{State}
use Rattle.certificates.specs.Grounds.{Clear}
use Rattle.nulla.proofs.States.{not_over}
use Rattle.nulla.specs.Steps.{Lists, grounds, Answers, opens, adds, removes, works, tries, passes, fails, Step, refuses, answers}

worked_small : {F : Type 0} {o : Ops F} {n d : ℕ} {eqs : List (List (Term F))} {m k : Memory F} {v : Verdict} → d ≤ 48 → Worked o n d eqs m v k → Small (told v)
worked_small h (certified x c) = h
worked_small h (uncertified c) = h

answers_small : {F : Type 0} {o : Ops F} {l : Lists F} {call : Request} {s t : State} {m k : Memory F} {r : Reply} → Clear (grounds o l call s m) → Answers o l call s m r t k → Small r
answers_small {s = s} c opens = lt_of_not-le c.0
answers_small c adds = tt
answers_small c removes = tt
answers_small c (tries {d = d} w) = worked_small (not_over d 48 (λ h. c.0 (inr (inr (inr h))))) w
answers_small c (passes h) = tt
answers_small c (fails h) = tt
answers_small {s = s} c (works w) = worked_small (let h = lt_of_not-le c.1.0 in omega arith) w

pub step_small : {F : Type 0} {o : Ops F} {l : Lists F} {call : Request} {s t : State} {m k : Memory F} {r : Reply} → Step o l call s m r t k → Small r
step_small (refuses f) = tt
step_small (answers c a) = answers_small c a
