use Rattle.std.proofs.Common.{ℕ, ◌/◌, ◌%◌, ◌^◌, eqb, ap}
use Rattle.layout.specs.Reading.{stands}
use Rattle.certificates.proofs.reading.marked.Goals as goal

pub returns : goal.returns
unfolding stands
returns c = ap (λ (b : ℕ). eqb (b / 2 ^ (c.args.product % 8) % 2) 1) c.byte_at.ensures
