use Rattle.std.proofs.Common.{true, sym, refl, ap, ◌∙◌, subst}
use Rattle.std.proofs.lemmas.Result.{err_from_is_err_and}
use Rattle.graphs.specs.declared.graph.Graph.{Graph}
use Rattle.graphs.specs.Graph.{joined, Marked}
use Rattle.graphs.proofs.Same.{back}
use Rattle.certificates.specs.Outcome.{memory}
use Rattle.certificates.specs.Verdicts.{infeasible}
use Rattle.nulla.specs.Standing.{reached}
use Rattle.nulla.specs.State.{state}
use Rattle.nulla.proofs.Edges.{try_unranged, try_refused, try_already, try_works}
use Rattle.nulla.proofs.States.{solver_back, step_as}
use Rattle.nulla.proofs.solver.Solver.try_edge.Goals as goal

pub returns-then-degree-lt-FIRST_DEGREE : goal.returns-then-degree-lt-FIRST_DEGREE
returns-then-degree-lt-FIRST_DEGREE g c =
    let s = c.args.self.now in
    record {
      called = record { step = try_unranged g.E.Coeff.Field.ops g.E.Encoding.lists s c.args.i c.args.j c.args.degree c.then-degree-lt-FIRST_DEGREE.either (memory c.args.table.now c.args.certificate.now); encoding = refl };
      same = refl;
    }

pub returns-in_err-edge : goal.returns-in_err-edge
returns-in_err-edge g c =
    let s = c.args.self.now in
    let p = err_from_is_err_and c.from_residual.result c.from_residual.ensures.1 in
    record {
      called = record { step = rw (p.1, p.2) (try_refused g.E.Coeff.Field.ops g.E.Encoding.lists s c.args.i c.args.j c.args.degree c.if-degree-lt-FIRST_DEGREE.false c.if-degree-gt-LAST_DEGREE.false _ c.in_err-edge.ensures (memory c.args.table.now c.args.certificate.now)); encoding = refl };
      same = refl;
    }

pub returns-then-joins : goal.returns-then-joins
returns-then-joins g c =
    let s = c.args.self.now in
    let e = c.in_ok-edge.ensures in
    record {
      called = record { step = try_already g.E.Coeff.Field.ops g.E.Encoding.lists s c.args.i c.args.j _ _ e.0 e.1 e.2 c.args.degree c.if-degree-lt-FIRST_DEGREE.false c.if-degree-gt-LAST_DEGREE.false (sym c.joins.ensures ∙ c.if-joins.true) (memory c.args.table.now c.args.certificate.now); encoding = refl };
      same = solver_back s s.graph _ refl;
    }

pub returns : goal.returns
returns g c =
    let s = c.args.self.now in
    let e = c.in_ok-edge.ensures in
    let t = c.begin-trial.result in
    let edge = c.in_ok-edge.edge in
    let there = subst (λ (h : Graph). Marked s.graph edge.lower edge.higher true h) (sym c.graph.ensures) c.begin-trial.ensures.pairs in
    let again = back s.graph t.graph.now c.drop-trial.new.self.0 edge.lower edge.higher true t.lower t.saved c.begin-trial.ensures.rows c.drop-trial.ensures.vertices c.drop-trial.ensures.rows c.begin-trial.ensures.lower c.begin-trial.ensures.saved in
    let end = ap (λ (h : Graph). state h.vertices (joined h) (reached s.standing) (infeasible s.standing)) (sym again) in
    record {
      called = record { step = step_as (try_works g.E.Coeff.Field.ops g.E.Encoding.lists s c.args.i c.args.j edge.lower edge.higher e.0 e.1 e.2 c.args.degree c.if-degree-lt-FIRST_DEGREE.false c.if-degree-gt-LAST_DEGREE.false c.graph.result.now there (memory c.args.table.now c.args.certificate.now) c.work.result _ (sym c.joins.ensures ∙ c.if-joins.false) c.work.ensures) refl end; encoding = refl };
      same = solver_back s c.drop-trial.new.self.0 _ again;
    }
