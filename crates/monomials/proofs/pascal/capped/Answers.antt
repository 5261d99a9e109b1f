use Rattle.std.proofs.Common.{rules}
use Rattle.monomials.proofs.Rows.{right}
use Rattle.monomials.proofs.pascal.capped.Goals as goal

pub returns : goal.returns
returns c = search (rules, right)
