use Rattle.std.proofs.Common.{◌^◌, ◌<◌, ◌≤◌, sym, subst, arith, w64, rules}
use Rattle.std.proofs.lemmas.Int.{to_z_pos}
use Rattle.scripts.specs.Entries.{lent, Entry}
use Rattle.scripts.proofs.Running.{entry_short}
use Rattle.scripts.proofs.nulla_script.Goals as goal

pub overflow_cast-result : goal.overflow_cast-result
overflow_cast-result c =
    let small : c.in-Ok.length ≤ 589824 = entry_short c.in-Ok.ensures in
    search rules

pub returns-in-Ok : goal.returns-in-Ok
returns-in-Ok c =
    let small : c.in-Ok.length ≤ 589824 = entry_short c.in-Ok.ensures in
    let fits : c.in-Ok.length < 2 ^ 63 = omega arith in
    subst (λ z. Entry c.args.kind c.args.script.now (lent c.args.table.now c.args.certificate.now c.args.text.now) z (lent c.answer_by_number.new.table c.answer_by_number.new.certificate c.answer_by_number.new.text)) (sym (to_z_pos w64 c.in-Ok.length fits)) c.in-Ok.ensures
