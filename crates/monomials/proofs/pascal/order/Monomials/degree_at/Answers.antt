use Rattle.std.proofs.Common.{◌≡◌, ℕ, ◌+◌, ◌<◌, ◌≤◌, List, [], get_or, refl, ap, inl, inr, arith, rules}
use Rattle.std.proofs.lemmas.Bool.{cases_lt}
use Rattle.std.proofs.iter.runs.Sources.{ranges}
use Rattle.monomials.specs.Order.{lower}
use Rattle.monomials.proofs.Turn.{lower_none}
use Rattle.monomials.proofs.pascal.order.Monomials.degree_at.Goals as goal

pub returns-clause-from : goal.returns-clause-from
returns-clause-from c = search (rules, ranges, lower_none c.args.variables 0)

-- the search passed over each degree above the one that it found; a read at that degree shows `search` which of them is meant
pub returns-clause-below : goal.returns-clause-below
returns-clause-below c =
    let most : c.unwrap_or.result ≤ c.args.top = search (rules, ranges) in
    let above : (xs : List ℕ) (e : ℕ) → get_or xs e 0 ≡ 0 → c.unwrap_or.result < e → e ≤ c.args.top → c.args.place < lower c.args.variables e =
    λ xs e read l h. search (rules, ranges) in
    elim (cases_lt c.unwrap_or.result c.args.top) [
      | inl l ↦ above [] (c.unwrap_or.result + 1) refl (omega arith) (omega arith)
      | inr l ↦ (
          let e : c.args.top + 1 ≡ c.unwrap_or.result + 1 = omega arith in
          omega (arith, ap (lower c.args.variables) e))
    ]
