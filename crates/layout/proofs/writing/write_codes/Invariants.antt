use Rattle.std.proofs.Common.{◌≤◌, length, get_or}
use Rattle.layout.specs.Certificate.{upto, code_of}
use Rattle.layout.specs.Written.{Ended}
use Rattle.layout.proofs.writing.write_codes.Given as goal

abbrev pub invariant-loop-x : goal.invariant-loop-x
invariant-loop-x g l = record {
  few : l.end ≤ l.x-index;
  ended : Ended l.end (upto (code_of g.F.Field.ops (length l.coefficients) (λ k. get_or l.coefficients k g.F.Field.ops.zero)) l.x-index) l.initial.codes l.codes;
}
