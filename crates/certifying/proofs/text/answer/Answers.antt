use Rattle.std.proofs.Common.{◌≡◌, IfOk, string_bytes, [], ◌∷◌, ◌++◌, codes, rules}
use Rattle.std.proofs.lemmas.Result.{IfOk-weaker}
use Rattle.certifying.proofs.Saying.{in_agreement, in_difference}
use Rattle.certifying.proofs.text.answer.Goals as goal

pub returns-then-ne : goal.returns-then-ne
returns-then-ne c =
    let bits = c.in_ok-of_bits.of_bits in
    let four = c.in_ok-of_four.of_four in
    let text : IfOk c.format.result (λ t. string_bytes t ≡ codes "differ: " ++ (string_bytes bits ++ (codes ", " ++ (string_bytes four ++ (10 ∷ []))))) = search rules in
    IfOk-weaker c.format.result _ _ (λ t. in_difference c.args.bits c.args.four c.args.first.now c.args.second.now (string_bytes bits) (string_bytes four) (string_bytes t) c.in_ok-of_bits.ensures c.in_ok-of_four.ensures c.if-ne.ensures) text

pub returns : goal.returns
returns c =
    let bits = c.in_ok-of_bits.of_bits in
    let four = c.in_ok-of_four.of_four in
    let below = c.in_ok-below.below in
    let last = c.in_ok-last.last in
    let text : IfOk c.format-2.result (λ t. string_bytes t ≡ string_bytes bits ++ (codes "\n" ++ (string_bytes below ++ string_bytes last))) = search rules in
    IfOk-weaker c.format-2.result _ _ (λ t. in_agreement c.args.bits c.args.four c.args.first.now c.args.second.now (string_bytes bits) (string_bytes four) (string_bytes below) (string_bytes last) (string_bytes t) c.in_ok-of_bits.ensures c.in_ok-of_four.ensures c.if-ne.ensures c.in_ok-below.ensures c.in_ok-last.ensures) text
