use Rattle.std.proofs.Common.{◌≤◌, refl, ◌∙◌, arith}
use Rattle.graphs.specs.Graph.{joined}
use Rattle.layout.proofs.Bytes.{div_ceil-eight}
use Rattle.certificates.proofs.Sizing.{untabled, fits, capped, many_rows, many_products, measured, excess_at, measured_at}
use Rattle.certificates.proofs.sizes.measure.Goals as goal

pub returns-in_err-rows : goal.returns-in_err-rows
returns-in_err-rows g c =
    absurd (untabled c.vertices-vertices.result _ c.vertices-vertices.ensures.few (omega arith) c.in_err-rows.ensures.is)

pub returns-in_err-multipliers : goal.returns-in_err-multipliers
returns-in_err-multipliers g c =
    absurd (untabled c.vertices-vertices.result _ c.vertices-vertices.ensures.few (omega arith) c.in_err-multipliers.ensures.is)

pub returns-then-rows-gt-LIMIT : goal.returns-then-rows-gt-LIMIT
returns-then-rows-gt-LIMIT g c =
    excess_at c.args.degree refl c.vertices-vertices.ensures.value
    (many_rows _ _ c.vertices-vertices.ensures.few (omega arith) _ _ c.in_ok-rows.ensures.is c.in_ok-multipliers.ensures.is _ c.if-rows-gt-LIMIT.true)

pub overflow_mul-products : goal.overflow_mul-products
overflow_mul-products g c =
    let b = g.met.E.Encoding.bounded c.args.encoding.now in
    let count = b.count c.args.graph.now.vertices (joined c.args.graph.now) c.args.graph.now.few in
    let few : c.count-equations.result ≤ 4095 = omega (arith, c.count-equations.ensures, count, b.small) in
    let small : c.in_ok-multipliers.multipliers ≤ 1000001 = capped _ _ c.vertices-vertices.ensures.few (omega arith) _ _ c.in_ok-rows.ensures.is c.in_ok-multipliers.ensures.is in
    omega (arith, fits c.count-equations.result c.in_ok-multipliers.multipliers few small)

pub returns-then-products-gt-LIMIT : goal.returns-then-products-gt-LIMIT
returns-then-products-gt-LIMIT g c =
    excess_at c.args.degree c.count-equations.ensures c.vertices-vertices.ensures.value
    (many_products _ _ c.vertices-vertices.ensures.few (omega arith) _ _ c.in_ok-rows.ensures.is c.in_ok-multipliers.ensures.is c.if-rows-gt-LIMIT.false _ c.if-products-gt-LIMIT.true)

pub returns : goal.returns
returns g c =
    measured_at c.args.degree _ c.count-equations.ensures c.vertices-vertices.ensures.value
    (measured _ _ c.vertices-vertices.ensures.few (omega arith) _ _ c.in_ok-rows.ensures.is c.in_ok-multipliers.ensures.is c.if-rows-gt-LIMIT.false _ _ (c.div_ceil-map.ensures ∙ div_ceil-eight _) c.if-products-gt-LIMIT.false)
