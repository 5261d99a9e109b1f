use Rattle.std.proofs.Common.{ℕ, ◌<◌, List, [], ◌∷◌, ◌++◌, length, get_or, sym, refl, ap, ◌∙◌, arith}
use Rattle.std.proofs.lemmas.List.{take_more_set}
use Rattle.layout.specs.Certificate.{upto, bits}
use Rattle.layout.proofs.Bytes.{upto_more}
use Rattle.layout.proofs.writing.write_map.Goals as goal

pub loop-place-init : goal.loop-place-init
unfolding upto
loop-place-init g c = refl

pub loop-place-preserved : goal.loop-place-preserved
loop-place-preserved g c =
    let o = g.F.Field.ops in
    let xs = c.args.coefficients.now in
    let byte : ℕ → List ℕ = λ b. bits o (length xs) (λ k. get_or xs k o.zero) b 8 ∷ [] in
    let inside : c.loop-place.place < length c.loop-place.map = omega (arith, c.loop-place.auto.map, c.loop-place-test.true) in
    take_more_set c.loop-place.map c.loop-place.place c.map_byte.result inside
    ∙ ap (λ (ys : List ℕ). ys ++ c.map_byte.result ∷ []) c.loop-place.invariant
    ∙ ap (λ (v : ℕ). upto byte c.loop-place.place ++ v ∷ []) c.map_byte.ensures
    ∙ sym (upto_more byte c.loop-place.place)
