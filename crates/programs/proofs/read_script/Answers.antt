use Rattle.std.proofs.Common.{◌≡◌, ℕ, ◌≤◌, List, [], ◌++◌, length, take, Option, Some, None, ap, ◌∙◌, arith, rules}
use Rattle.std.specs.Prelude.{IfSome}
use Rattle.std.specs.Option.{option_map}
use Rattle.std.proofs.lemmas.List.{length-take, take_all}
use Rattle.programs.proofs.read_script.Goals as goal

-- what was read within a limit that it doesn't reach is all
all_read : (source : Option (List ℕ)) (before items : List ℕ) (limit : ℕ) → before ≡ [] → limit ≡ 65537 → length items ≤ 65536
    → IfSome (option_map (take limit) source) (λ bytes. items ≡ before ++ bytes)
    → IfSome source (λ bytes. items ≡ bytes)
all_read (Some bytes) before items limit none most short read =
    let is : items ≡ take limit bytes = rw none at read in
    is ∙ take_all limit bytes (omega (arith, ap length is, length-take limit bytes))
all_read None before items limit none most short read = read

pub returns-clause-whole : goal.returns-clause-whole
returns-clause-whole g c =
    let short : length c.read_to_end.new.buf.items ≤ 65536 = search rules in
    all_read (g.R.Read.remaining c.args.from) c.new-script.result.items c.read_to_end.new.buf.items c.take.result.limit c.new-script.ensures.items c.take.ensures.limit short (rw c.take.ensures.inner at c.in_ok-read_to_end.ensures.bytes)
