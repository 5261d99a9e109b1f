use Rattle.std.proofs.Common.{refl, arith, rules}
use Rattle.std.proofs.lemmas.Result.{err_from_is_err_and}
use Rattle.certificates.specs.Outcome.{memory}
use Rattle.nulla.proofs.Raising.{reached_worked, raise_over, raise_refused, raise_worked, next_low}
use Rattle.nulla.proofs.solver.Solver.raise.Goals as goal

pub returns-in_default : goal.returns-in_default
returns-in_default g c =
    record { step = raise_over g.E.Coeff.Field.ops g.E.Encoding.lists c.args.self.now (memory c.args.table.now c.args.certificate.now) _ _ c.in_default.is; encoding = refl }

pub invariant_of-self-2 : goal.invariant_of-self-2
invariant_of-self-2 g c =
    let e = c.in_ok-verdict.ensures in
    record { low = omega (arith, reached_worked e.1, next_low g.E.Coeff.Field.ops g.E.Encoding.lists c.args.self.now (memory c.args.table.now c.args.certificate.now) _ c.in-Open.is e.0) }

pub returns-in_err-verdict : goal.returns-in_err-verdict
returns-in_err-verdict g c =
    let p = err_from_is_err_and c.from_residual.result c.from_residual.ensures.1 in
    let e = c.in_err-verdict.ensures in
    record {
      step = rw (p.1, p.2) (raise_refused g.E.Coeff.Field.ops g.E.Encoding.lists c.args.self.now (memory c.args.table.now c.args.certificate.now) _ c.in-Open.is _ _ e.0 e.1);
      encoding = refl;
    }

pub returns : goal.returns
returns g c =
    let e = c.in_ok-verdict.ensures in
    let worked = raise_worked g.E.Coeff.Field.ops g.E.Encoding.lists c.args.self.now (memory c.args.table.now c.args.certificate.now) _ c.in-Open.is _ _ e.0 e.1 in
    record { step = search (rules, worked, reached_worked e.1); encoding = refl }
