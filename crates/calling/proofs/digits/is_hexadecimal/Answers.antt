use Rattle.std.proofs.Common.{rules}
use Rattle.std.specs.Char.{is_ascii_hexdigit}
use Rattle.std.specs.Prelude.{IsTrue, ◌↔◌}
use Rattle.std.specs.List.{AllPass}
use Rattle.calling.proofs.Reading.{all_seen, all_taken}
use Rattle.calling.proofs.digits.is_hexadecimal.Goals as goal

pub returns : goal.returns
returns c =
    let digits = c.args.digits.now in
    let all : IsTrue c.all.result ↔ AllPass is_ascii_hexdigit digits = search rules in
    (λ h. all_seen digits (all.0 h), λ h. all.1 (all_taken digits h))
