use Rattle.plan.proofs.Counting.{answered_each}
use Rattle.plan.proofs.answers.answers_stand.Goals as goal

pub returns : goal.returns
returns c = answered_each
