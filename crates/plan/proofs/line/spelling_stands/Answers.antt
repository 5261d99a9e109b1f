use Rattle.plan.proofs.Spelled.{spelled_once}
use Rattle.plan.proofs.line.spelling_stands.Goals as goal

pub returns : goal.returns
returns c = spelled_once
