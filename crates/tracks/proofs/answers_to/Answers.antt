use Rattle.plan.proofs.Turns.{entry_given}
use Rattle.tracks.proofs.answers_to.Goals as goal

pub returns-clause-whole : goal.returns-clause-whole
returns-clause-whole c = entry_given c.unwrap_or.ensures c.tracks_plan.ensures
