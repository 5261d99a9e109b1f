-- What the answer of each call is as a reply. Assumes nothing.
use Rattle.std.specs.Prelude.{ℕ, ◌<◌, ◌≤◌, Ok, Err, Result}
use Rattle.certificates.specs.declared.refusal.Refusal.{Refusal}
use Rattle.certificates.specs.declared.verdict.Verdict.{Verdict}
use Rattle.certificates.specs.declared.verdict.Verdict.TheVariants.{Infeasible, Open}
use Rattle.nulla.specs.declared.reply.Answer.{Answer}
use Rattle.nulla.specs.declared.reply.Answer.TheVariants.{Opened, Done, Worked, Passed}

-- A reply: an answer, or the ground on which the call was refused.
abbrev pub Reply : Type 0
Reply = Result Answer Refusal

abbrev pub opened : Result ℕ Refusal → Reply
opened (Ok number) = Ok (Opened number)
opened (Err r) = Err r

abbrev pub done : {A : Type 0} → Result A Refusal → Reply
done (Ok nothing) = Ok Done
done (Err r) = Err r

abbrev pub passed : {A : Type 0} → Result A Refusal → Reply
passed (Ok nothing) = Ok Passed
passed (Err r) = Err r

-- a verdict as a reply
abbrev pub told : Verdict → Reply
told v = Ok (Worked v)

abbrev pub said : Result Verdict Refusal → Reply
said (Ok v) = told v
said (Err r) = Err r

-- a verdict's degree is at most 48
abbrev pub LowDegree : Verdict → Type 0
LowDegree (Infeasible degree length) = degree ≤ 48
LowDegree (Open degree) = degree ≤ 48

-- an answer's numbers are small: a vertex is below 24, a degree is at most 48
abbrev pub SmallAnswer : Answer → Type 0
SmallAnswer (Opened number) = number < 24
SmallAnswer Done = Unit {0}
SmallAnswer (Worked v) = LowDegree v
SmallAnswer Passed = Unit {0}

-- so are those of a reply
abbrev pub Small : Reply → Type 0
Small (Ok a) = SmallAnswer a
Small (Err r) = Unit {0}
