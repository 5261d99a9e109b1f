use Rattle.std.proofs.Common.{refl}
use Rattle.nulla.specs.State.{state_of}
use Rattle.nulla.proofs.Checking.{checked}
use Rattle.nulla.proofs.solver.Solver.check.Goals as goal

pub returns : goal.returns
returns g c =
    let s = c.args.self.now in
    λ bytes. record { step = checked g.E.Coeff.Field.ops (g.E.Encoding.lists s.encoding) (state_of s) c.args.certificate.now c.args.table.now bytes c.check.result c.check.new.table c.check.ensures; encoding = refl }
