use Rattle.std.proofs.Common.{◌∙◌, ap, pos, ◌^◌, ◌<◌, ◌≤◌, sym, subst, arith, w64, rules}
use Rattle.std.proofs.lemmas.Int.{to_z_pos}
use Rattle.plan.specs.Plans.{Entry}
use Rattle.plan.proofs.Turns.{tracked_small, entry_written, entry_refused}
use Rattle.plan_c.proofs.tracks_plan.Goals as goal

pub overflow_cast-result : goal.overflow_cast-result
overflow_cast-result c = let small : c.in-Ok.length ≤ 36864 = tracked_small c.in-Ok.ensures in search rules

pub returns-in-Ok : goal.returns-in-Ok
returns-in-Ok c =
    let small : c.in-Ok.length ≤ 36864 = tracked_small c.in-Ok.ensures in
    let fits : c.in-Ok.length < 2 ^ 63 = omega arith in
    subst (λ z. Entry c.args.plan.now c.args.text.now z c.tracks_plan.new.text) (sym (to_z_pos w64 c.in-Ok.length fits)) (entry_written c.in-Ok.ensures)

pub returns-in-Err : goal.returns-in-Err
returns-in-Err c = entry_refused c.from.result (c.from.ensures ∙ ap pos c.number.ensures) c.in-Err.ensures
