use Rattle.calling.proofs.Asking.{asked_once}
use Rattle.calling.proofs.script.asking_stands.Goals as goal

pub returns : goal.returns
returns c = asked_once
