use Rattle.std.proofs.Common.{rules}
use Rattle.certificates.specs.Outcome.{memory}
use Rattle.nulla.proofs.solver.Solver.make.Goals as goal

-- Calls that are lent no memory step in any; a check is lent none for certificates.
pub returns-in-OpenVertex : goal.returns-in-OpenVertex
returns-in-OpenVertex g c = let called = c.open_vertex.ensures (memory c.args.table.now c.args.certificate.now) in search (rules, called)

pub returns-in-AddEdge : goal.returns-in-AddEdge
returns-in-AddEdge g c = let called = c.add_edge.ensures (memory c.args.table.now c.args.certificate.now) in search (rules, called)

pub returns-in-RemoveEdge : goal.returns-in-RemoveEdge
returns-in-RemoveEdge g c = let called = c.remove_edge.ensures (memory c.args.table.now c.args.certificate.now) in search (rules, called)

pub returns-in-Check : goal.returns-in-Check
returns-in-Check g c = let called = c.check.ensures c.args.certificate.now in search (rules, called)
