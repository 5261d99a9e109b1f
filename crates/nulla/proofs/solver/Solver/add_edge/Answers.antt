use Rattle.std.proofs.Common.{sym, refl, ◌∙◌}
use Rattle.std.proofs.lemmas.Result.{err_from_is_err_and}
use Rattle.nulla.proofs.Edges.{adding_refused, already, adding}
use Rattle.nulla.proofs.solver.Solver.add_edge.Goals as goal

pub returns-in_err-edge : goal.returns-in_err-edge
returns-in_err-edge g c =
    let s = c.args.self.now in
    let p = err_from_is_err_and c.from_residual.result c.from_residual.ensures.1 in
    λ m. record {
      step = rw (p.1, p.2) (adding_refused g.E.Coeff.Field.ops g.E.Encoding.lists s c.args.i c.args.j _ c.in_err-edge.ensures m);
      encoding = refl;
    }

pub returns-then-joins : goal.returns-then-joins
returns-then-joins g c =
    let s = c.args.self.now in
    let e = c.in_ok-edge.ensures in
    λ m. record {
      step = already g.E.Coeff.Field.ops g.E.Encoding.lists s c.args.i c.args.j _ _ e.0 e.1 e.2 (sym c.joins.ensures ∙ c.if-joins.true) m;
      encoding = refl;
    }

pub returns : goal.returns
returns g c =
    let s = c.args.self.now in
    let e = c.in_ok-edge.ensures in
    λ m. record {
      step = adding g.E.Coeff.Field.ops g.E.Encoding.lists s c.args.i c.args.j _ _ e.0 e.1 e.2 _ _ (sym c.joins.ensures ∙ c.if-joins.false) c.join.ensures.pairs c.kept-self.ensures m;
      encoding = refl;
    }
