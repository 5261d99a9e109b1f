use Rattle.std.proofs.Common.{[], sym, ◌∙◌, refl, subst, arith}
use Rattle.std.proofs.lemmas.Result.{err_from_is_err_and}
use Rattle.certificates.specs.Outcome.{memory}
use Rattle.nulla.proofs.States.{differ}
use Rattle.families.specs.Building.{Reaches}
use Rattle.families.proofs.Building.{starts, opens_vertex, opens_below, opens_not}
use Rattle.families.proofs.solvers.build.Goals as goal

pub loop-vertex-init : goal.loop-vertex-init
loop-vertex-init g c = (subst (Reaches c.args.family 0 0 0) (sym c.new-solver.ensures.state) starts, omega arith, refl)

pub returns-in_err-open_vertex-clause-ok : goal.returns-in_err-open_vertex-clause-ok
returns-in_err-open_vertex-clause-ok g c =
    let p = err_from_is_err_and c.from_residual.result c.from_residual.ensures.1 in
    let full = (opens_not (c.in_err-open_vertex.ensures (memory [] [])).step).0 in
    rw p.1 ((λ h. absurd (differ (sym h))), λ h. absurd (let z : ⊥ = omega (arith, full, h, c.loop-vertex.invariant.0.vertices, c.loop-vertex-test.true, c.vertices-vertex-end.ensures) in z))

pub join_below-requires-clause-inside : goal.join_below-requires-clause-inside
join_below-requires-clause-inside g c =
    let few = opens_below (c.in_ok-open_vertex.ensures (memory [] [])).step in
    (omega (arith, c.loop-vertex-test.true, c.vertices-vertex-end.ensures), omega (arith, few, c.loop-vertex.invariant.0.vertices))

pub join_below-requires-clause-below : goal.join_below-requires-clause-below
join_below-requires-clause-below g c = opens_vertex c.loop-vertex.invariant.0 (c.in_ok-open_vertex.ensures (memory [] [])).step

pub loop-vertex-preserved : goal.loop-vertex-preserved
loop-vertex-preserved g c =
    let called = c.in_ok-open_vertex.ensures (memory [] []) in
    let few = opens_below called.step in
    (c.join_below.ensures.joined, omega (arith, few, c.loop-vertex.invariant.0.vertices), c.join_below.ensures.encoding ∙ called.encoding ∙ c.loop-vertex.invariant.2)

pub returns-in_err-open_vertex-clause-refused : goal.returns-in_err-open_vertex-clause-refused
returns-in_err-open_vertex-clause-refused g c =
    let p = err_from_is_err_and c.from_residual.result c.from_residual.ensures.1 in
    rw (p.1, p.2) (opens_not (c.in_err-open_vertex.ensures (memory [] [])).step).1
