use Rattle.std.proofs.Common.{◌≡◌, ◌+◌, rules, tests, sym, ap, ◌∙◌, arith}
use Rattle.std.specs.List.{list_all, enumerate_from}
use Rattle.std.proofs.lemmas.Iterator.{YieldsList-from_slice}
use Rattle.std.proofs.lemmas.Iterator.Consumers.{YieldsList-from_enumerate}
use Rattle.std.proofs.lemmas.Iterator.Search.{all_from_yields_List}
use Rattle.polynomials.specs.Product.{target}
use Rattle.certificates.proofs.Summing.{row_test, rows_decide}
use Rattle.certificates.proofs.matrix.sum.is_one.Goals as goal

pub returns : goal.returns
returns g c =
    let o = g.F.Field.ops in
    let laws = g.F.Field.laws in
    let xs = c.args.coefficients.now in
    let e : c.all.result ≡ list_all (row_test laws) (enumerate_from 0 xs) =
    all_from_yields_List (row_test laws) _ _ c.all.result c.all.ensures.ran (YieldsList-from_enumerate (YieldsList-from_slice xs (search rules)) c.enumerate.ensures.count) (λ x b q k. search (rules, tests)) in
    let rows = rows_decide laws 0 xs in (
      (λ t r h. let same : 0 + r ≡ r = omega arith in rows.0 (sym e ∙ t) r h ∙ ap (target o) same),
      λ one. e ∙ rows.1 (λ r h. let same : r ≡ 0 + r = omega arith in one r h ∙ ap (target o) same),
    )
