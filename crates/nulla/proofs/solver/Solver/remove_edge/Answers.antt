use Rattle.std.proofs.Common.{sym, refl, ◌∙◌}
use Rattle.std.proofs.lemmas.Result.{err_from_is_err_and}
use Rattle.nulla.proofs.Edges.{removing_refused, missing, removing}
use Rattle.nulla.proofs.solver.Solver.remove_edge.Goals as goal

pub returns-in_err-edge : goal.returns-in_err-edge
returns-in_err-edge g c =
    let s = c.args.self.now in
    let p = err_from_is_err_and c.from_residual.result c.from_residual.ensures.1 in
    λ m. record {
      step = rw (p.1, p.2) (removing_refused g.E.Coeff.Field.ops g.E.Encoding.lists s c.args.i c.args.j _ c.in_err-edge.ensures m);
      encoding = refl;
    }

pub returns-then-not-joins : goal.returns-then-not-joins
returns-then-not-joins g c =
    let s = c.args.self.now in
    let e = c.in_ok-edge.ensures in
    λ m. record {
      step = missing g.E.Coeff.Field.ops g.E.Encoding.lists s c.args.i c.args.j _ _ e.0 e.1 e.2 (sym c.joins.ensures ∙ c.if-not-joins.true) m;
      encoding = refl;
    }

pub returns : goal.returns
returns g c =
    let s = c.args.self.now in
    let e = c.in_ok-edge.ensures in
    λ m. record {
      step = removing g.E.Coeff.Field.ops g.E.Encoding.lists s c.args.i c.args.j _ _ e.0 e.1 e.2 _ (sym c.joins.ensures ∙ c.if-not-joins.false) c.part.ensures.pairs m;
      encoding = refl;
    }
