use Rattle.std.proofs.Common.{replicate, refl, ap}
use Rattle.plan.specs.Solving.{store}
use Rattle.plan.proofs.tracks_plan.Goals as goal

pub returns : goal.returns
returns c = record {
  lent = store (replicate 65536 c.zero-table.result) (replicate 16384 0);
  left = store c.answer.new.table c.answer.new.certificate;
  blank = record { table = ap (replicate 65536) c.zero-table.ensures; certificate = refl };
  answer = c.answer.ensures;
}
