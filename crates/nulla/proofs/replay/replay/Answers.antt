use Rattle.nulla.proofs.Whole.{whole}
use Rattle.nulla.proofs.replay.replay.Goals as goal

pub returns-clause-whole : goal.returns-clause-whole
returns-clause-whole g c = whole g.E.Coeff.Field.laws g.D.Coeff.Field.laws (g.E.Encoding.lists c.args.first) (g.D.Encoding.lists c.args.second) _ _ (g.met.E.Encoding.bounded c.args.first) (g.met.E.Encoding.lawful c.args.first) (g.met.D.Encoding.bounded c.args.second) (g.met.D.Encoding.lawful c.args.second)
