-- The number of each ground of refusal, as texts and C callers see it. Assumes nothing.
use Rattle.std.specs.Prelude.{ℕ}
use Rattle.certificates.specs.declared.refusal.Refusal.{Refusal}
use Rattle.certificates.specs.declared.refusal.Refusal.TheVariants.{OutOfRange, SameVertex, TableTooSmall, OutputTooSmall, MalformedHead, WrongLength, MalformedBody, NotOne, MalformedLine, PlanTooLong, NoVertexLeft, NoSuchVertex, AlreadyJoined, NotJoined, AlreadyInfeasible, LastDegree, TooLarge, OtherSolver}

abbrev pub number_of : Refusal → ℕ
number_of OutOfRange = 1
number_of SameVertex = 2
number_of TableTooSmall = 3
number_of OutputTooSmall = 4
number_of MalformedHead = 5
number_of WrongLength = 6
number_of MalformedBody = 7
number_of NotOne = 8
number_of MalformedLine = 9
number_of PlanTooLong = 10
number_of NoVertexLeft = 11
number_of NoSuchVertex = 12
number_of AlreadyJoined = 13
number_of NotJoined = 14
number_of AlreadyInfeasible = 15
number_of LastDegree = 16
number_of TooLarge = 17
number_of OtherSolver = 18
