use Rattle.std.proofs.Common.{◌<◌, Err, inl, inr, sym, subst}
use Rattle.std.proofs.lemmas.Bool.{cases_lt}
use Rattle.std.proofs.lemmas.Result.{err_from_is_err_and}
use Rattle.certificates.specs.Outcome.{memory}
use Rattle.nulla.proofs.States.{differ}
use Rattle.families.specs.Building.{Raises, crowded, raised}
use Rattle.families.specs.Family.{vertices_of}
use Rattle.families.proofs.solvers.work.Goals as goal

pub returns-in_err-build : goal.returns-in_err-build
returns-in_err-build g c =
    let p = err_from_is_err_and c.from_residual.result c.from_residual.ensures.1 in
    let many : 24 < vertices_of c.args.family = elim (cases_lt 24 (vertices_of c.args.family)) [ inl x ↦ x | inr x ↦ absurd (differ (sym (c.in_err-build.ensures.ok.1 x))) ] in
    rw (p.1, p.2) (subst (λ r. Raises g.E.Coeff.Field.ops g.E.Encoding.lists c.args.encoding c.args.family (memory c.args.table.now c.args.certificate.now) (Err r) (memory c.args.table.now c.args.certificate.now)) (sym c.in_err-build.ensures.refused) (crowded many))

pub returns : goal.returns
returns g c = raised c.in_ok-build.ensures.graph c.in_ok-build.ensures.encoding c.raise.ensures
