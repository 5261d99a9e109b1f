use Rattle.std.proofs.Common.{ℕ, ◌+◌, ◌*◌, length, get_or, rules, ◌∙◌, arith}
use Rattle.std.specs.List.{range_with_len}
use Rattle.std.proofs.lemmas.Iterator.{YieldsList-from_range, YieldsList-from_map}
use Rattle.std.proofs.lemmas.Iterator.Consumers.{sum_by_from_yields_List, fits_by_from_yields_list}
use Rattle.layout.specs.Certificate.{present}
use Rattle.layout.proofs.Bytes.{weighed, bits_summed, bits_fit}
use Rattle.layout.proofs.writing.map_byte.Goals as goal

pub sum-requires-clause-fits : goal.sum-requires-clause-fits
sum-requires-clause-fits g c =
    let o = g.F.Field.ops in
    let xs = c.args.coefficients.now in
    let w = λ (j : ℕ). weighed (present o (length xs) (λ k. get_or xs k o.zero) (8 * c.args.place + j)) j in
    fits_by_from_yields_list w (range_with_len 0 8) c.map.result _
    (YieldsList-from_map _ w (YieldsList-from_range 0 8 8 (search rules) (search rules)) c.map.ensures.closure (λ x r q k. search rules))
    (bits_fit o (length xs) (λ k. get_or xs k o.zero) c.args.place)

pub returns : goal.returns
returns g c =
    let o = g.F.Field.ops in
    let xs = c.args.coefficients.now in
    let w = λ (j : ℕ). weighed (present o (length xs) (λ k. get_or xs k o.zero) (8 * c.args.place + j)) j in
    sum_by_from_yields_List w (range_with_len 0 8) c.map.result _ c.sum.ensures.ran
    (YieldsList-from_map _ w (YieldsList-from_range 0 8 8 (search rules) (search rules)) c.map.ensures.closure (λ x r q k. search rules))
    ∙ bits_summed o (length xs) (λ k. get_or xs k o.zero) c.args.place 8 (omega arith)
