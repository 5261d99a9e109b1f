use Rattle.std.proofs.Common.{refl, sym, ◌∙◌, rules}
use Rattle.std.proofs.lemmas.Result.{err_from_is_err_and}
use Rattle.nulla.proofs.Edges.{opening_refused, opening}
use Rattle.nulla.proofs.solver.Solver.open_vertex.Goals as goal

pub returns-in_err-number : goal.returns-in_err-number
returns-in_err-number g c =
    let s = c.args.self.now in
    let p = err_from_is_err_and c.from_residual.result c.from_residual.ensures.1 in
    λ m. record {
      step = rw (p.1, p.2) (opening_refused g.E.Coeff.Field.ops g.E.Encoding.lists s _ _ _ (sym c.ok_or.ensures.value ∙ c.in_err-number.was) c.open.ensures m);
      encoding = refl;
    }

pub returns : goal.returns
returns g c =
    let s = c.args.self.now in
    λ m.
    let opened = opening g.E.Coeff.Field.ops g.E.Encoding.lists s _ _ _ _ (sym c.ok_or.ensures.value ∙ c.in_ok-number.was) c.open.ensures c.kept-self.ensures m in
    record { step = search (rules, opened); encoding = refl }
