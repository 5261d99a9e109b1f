use Rattle.std.proofs.Common.{[], sym, ◌∙◌, arith}
use Rattle.certificates.specs.Outcome.{memory}
use Rattle.families.proofs.Building.{skips, enters, accepts}
use Rattle.families.proofs.solvers.join_below.Goals.{then-joins+in_ok-add_edge, else-joins}
use Rattle.families.proofs.solvers.join_below.Goals as goal

pub returns-in_err-add_edge-clause-ok : goal.returns-in_err-add_edge-clause-ok
returns-in_err-add_edge-clause-ok g c =
    absurd (accepts c.loop-lower.invariant.0 c.loop-lower-test.true (omega arith) c.requires.inside.1 (c.in_err-add_edge.ensures (memory [] [])).step)

pub returns-in_err-add_edge-clause-joined : goal.returns-in_err-add_edge-clause-joined
returns-in_err-add_edge-clause-joined g c =
    absurd (accepts c.loop-lower.invariant.0 c.loop-lower-test.true (omega arith) c.requires.inside.1 (c.in_err-add_edge.ensures (memory [] [])).step)

pub returns-in_err-add_edge-clause-encoding : goal.returns-in_err-add_edge-clause-encoding
returns-in_err-add_edge-clause-encoding g c = (c.in_err-add_edge.ensures (memory [] [])).encoding ∙ c.loop-lower.invariant.1

pub loop-lower-preserved : goal.loop-lower-preserved
loop-lower-preserved g c =
    elim c.if-joins.branch [
      | then-joins+in_ok-add_edge w ↦
          let called = w.in_ok-add_edge.ensures (memory [] []) in
          rw w.solver-is (enters c.loop-lower.invariant.0 c.loop-lower-test.true (sym c.joins.ensures ∙ w.if-joins.true) called.step, called.encoding ∙ c.loop-lower.invariant.1)
      | else-joins w ↦
          rw w.solver-is (skips c.loop-lower.invariant.0 (sym c.joins.ensures ∙ w.if-joins.false), c.loop-lower.invariant.1)
    ]
