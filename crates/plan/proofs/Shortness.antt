-- The solver's replies show small numbers, so their answer lines are short. Assumes nothing.
use Rattle.std.proofs.Common.{◌<◌, Ok, Err, arith}
use Rattle.fields.specs.Field.{Ops}
use Rattle.certificates.specs.Outcome.{Memory}
use Rattle.nulla.specs.Requests.{Request}
use Rattle.nulla.specs.Steps.{Lists, Step}
use Rattle.certificates.specs.declared.verdict.Verdict.{Verdict}
use Rattle.nulla.specs.declared.reply.Answer.{Answer}
use Rattle.nulla.specs.Replies.{Reply}
use Rattle.certificates.specs.declared.verdict.Verdict.TheVariants.{Infeasible, Open}
use Rattle.nulla.specs.declared.reply.Answer.TheVariants.{Opened, Done, Worked, Passed}
use Rattle.certificates.specs.declared.refusal.Refusal.{Refusal}
use Rattle.certificates.specs.declared.refusal.Refusal.TheVariants.{OutOfRange, SameVertex, TableTooSmall, OutputTooSmall, MalformedHead, WrongLength, MalformedBody, NotOne, MalformedLine, PlanTooLong, NoVertexLeft, NoSuchVertex, AlreadyJoined, NotJoined, AlreadyInfeasible, LastDegree, TooLarge, OtherSolver}
use Rattle.certificates.specs.Refusals.{number_of}
use Rattle.nulla.specs.State.{State}
use Rattle.nulla.specs.Replies.{Small, SmallAnswer, LowDegree}
use Rattle.nulla.proofs.Steps.{step_small}
use Rattle.plan.specs.Rendering.{Short, ShortAnswer, ShortVerdict}

-- The number of a ground has two digits at most.
number_small : (ground : Refusal) → number_of ground < 100
number_small OutOfRange = omega arith
number_small SameVertex = omega arith
number_small TableTooSmall = omega arith
number_small OutputTooSmall = omega arith
number_small MalformedHead = omega arith
number_small WrongLength = omega arith
number_small MalformedBody = omega arith
number_small NotOne = omega arith
number_small MalformedLine = omega arith
number_small PlanTooLong = omega arith
number_small NoVertexLeft = omega arith
number_small NoSuchVertex = omega arith
number_small AlreadyJoined = omega arith
number_small NotJoined = omega arith
number_small AlreadyInfeasible = omega arith
number_small LastDegree = omega arith
number_small TooLarge = omega arith
number_small OtherSolver = omega arith

verdict_short : (v : Verdict) → LowDegree v → ShortVerdict v
verdict_short (Infeasible degree length) low = omega arith
verdict_short (Open degree) low = omega arith

answer_short : (a : Answer) → SmallAnswer a → ShortAnswer a
answer_short (Opened vertex) small = omega arith
answer_short Done small = tt
answer_short (Worked verdict) small = verdict_short verdict small
answer_short Passed small = tt

small_short : (r : Reply) → Small r → Short r
small_short (Ok answer) small = answer_short answer small
small_short (Err ground) small = number_small ground

pub made_short : {F : Type 0} {o : Ops F} {l : Lists F} {q : Request} {s t : State} {m n : Memory F} {r : Reply} → Step o l q s m r t n → Short r
made_short {r = r} made = small_short r (step_small made)
