use Rattle.plan.proofs.Once.{written_once}
use Rattle.plan.proofs.answers.text_stands.Goals as goal

pub returns : goal.returns
returns c = written_once
