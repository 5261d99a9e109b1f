use Rattle.std.proofs.Common.{◌≡◌, ◌-◌, ◌*◌, rules, tests, refl, sym, ◌∙◌, arith}
use Rattle.std.specs.List.{list_any, range_with_len}
use Rattle.std.proofs.lemmas.Iterator.{YieldsList-from_range}
use Rattle.std.proofs.lemmas.Iterator.Search.{any_from_yields_List}
use Rattle.layout.specs.Length.{map_bytes}
use Rattle.layout.specs.Reading.{stands}
use Rattle.layout.proofs.Bytes.{div_ceil-eight}
use Rattle.certificates.proofs.Standing.{any_of_range}
use Rattle.certificates.proofs.reading.marked_past.Goals as goal

pub returns : goal.returns
returns c =
    let bytes = c.args.certificate.now in
    let p = c.args.products in
    let many : c.div_ceil.result ≡ map_bytes p = c.div_ceil.ensures ∙ div_ceil-eight p in
    let n = 8 * c.div_ceil.result - p in
    let e : c.any.result ≡ list_any (stands bytes) (range_with_len p n) =
    any_from_yields_List (stands bytes) _ _ c.any.result c.any.ensures.ran (YieldsList-from_range p (8 * c.div_ceil.result) n refl refl) (λ x b q k. search (rules, tests)) in
    let any = any_of_range (stands bytes) p n in (
      (λ t. let w = any.0 (sym e ∙ t) in (w.0, w.1, omega (arith, w.1, w.2, many), w.3)),
      λ (k, low, high, t). e ∙ any.1 (k, low, omega (arith, many), t),
    )
