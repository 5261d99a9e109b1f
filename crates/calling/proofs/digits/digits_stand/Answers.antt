use Rattle.calling.proofs.Reading.{read_back}
use Rattle.calling.proofs.digits.digits_stand.Goals as goal

pub returns : goal.returns
returns c = read_back
