use Rattle.std.proofs.Common.{◌≡◌, ℕ, length, map, take, refl, ◌∙◌, subst, arith}
use Rattle.std.proofs.lemmas.List.{drop-set-lt, length-take-le, take-take}
use Rattle.certificates.specs.Outcome.{memory}
use Rattle.nulla.specs.Requests.{request_of}
use Rattle.nulla.specs.State.{state_of}
use Rattle.nulla.proofs.Replaying.{Makes, none, makes_next_by, replayed}
use Rattle.nulla.proofs.replay.make_all.Goals as goal

pub loop-k-init : goal.loop-k-init
loop-k-init g c = (none, (λ n h. refl), refl)

pub loop-k-preserved : goal.loop-k-preserved
loop-k-preserved g c =
    let made : length (take c.min-count.result c.args.calls.now) ≡ c.min-count.result = length-take-le c.min-count.result c.args.calls.now (omega (arith, c.min-count.ensures)) in (
      makes_next_by g.E.Coeff.Field.ops (g.E.Encoding.lists c.args.solver.now.encoding) g.E.Encoding.lists c.args.solver.now.encoding c.loop-k.solver.encoding refl c.loop-k.invariant.2 request_of (take c.min-count.result c.args.calls.now) _ c.loop-k.replies c.loop-k.k
          (omega (arith, made)) (omega (arith, made, c.min-count.ensures, c.loop-k.auto.replies)) c.loop-k.invariant.0 c.make.ensures.step,
      (λ n h. drop-set-lt n c.loop-k.replies c.loop-k.k c.make.result (omega arith) ∙ c.loop-k.invariant.1 n (omega arith)),
      c.make.ensures.encoding ∙ c.loop-k.invariant.2,
    )

pub returns-clause-replayed : goal.returns-clause-replayed
returns-clause-replayed g c =
    let n = c.min-count.result in
    let made : length (take n c.args.calls.now) ≡ n = length-take-le n c.args.calls.now (omega (arith, c.min-count.ensures)) in
    let end : c.loop-k.k ≡ n = omega (arith, made) in
    replayed g.E.Coeff.Field.ops (g.E.Encoding.lists c.args.solver.now.encoding)
    (subst (λ qs. Makes g.E.Coeff.Field.ops (g.E.Encoding.lists c.args.solver.now.encoding) (map request_of qs) (state_of c.args.solver.now) (memory c.args.table.now c.args.certificate.now) (take n c.loop-k.replies) (state_of c.loop-k.solver) (memory c.loop-k.table c.loop-k.certificate)) (take-take n n c.args.calls.now (omega arith))
    (subst (λ (i : ℕ). Makes g.E.Coeff.Field.ops (g.E.Encoding.lists c.args.solver.now.encoding) (map request_of (take i (take n c.args.calls.now))) (state_of c.args.solver.now) (memory c.args.table.now c.args.certificate.now) (take i c.loop-k.replies) (state_of c.loop-k.solver) (memory c.loop-k.table c.loop-k.certificate)) end c.loop-k.invariant.0))
