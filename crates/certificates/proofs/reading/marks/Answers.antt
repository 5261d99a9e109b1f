use Rattle.std.proofs.Common.{◌≡◌, length, rules, tests, ◌∙◌, arith}
use Rattle.std.specs.List.{filter, range_with_len}
use Rattle.std.proofs.lemmas.Iterator.{YieldsList-from_range}
use Rattle.std.proofs.lemmas.Iterator.Consumers.{YieldsList-from_filter, count_from_yields_List}
use Rattle.layout.specs.Reading.{stands}
use Rattle.certificates.proofs.Standing.{before_counts}
use Rattle.certificates.proofs.reading.marks.Goals as goal

pub returns : goal.returns
returns c =
    let bytes = c.args.certificate.now in
    let e : c.count.result ≡ length (filter (stands bytes) (range_with_len 0 c.args.products)) =
    count_from_yields_List _ c.count.result c.count.ensures.ran (YieldsList-from_filter _ (stands bytes) (YieldsList-from_range 0 c.args.products c.args.products c.filter.ensures.source (omega arith)) c.filter.ensures.closure (λ x b q k. search (rules, tests))) in
    e ∙ before_counts bytes c.args.products
