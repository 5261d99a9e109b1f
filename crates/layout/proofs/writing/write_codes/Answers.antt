use Rattle.std.proofs.Common.{◌≡◌, ℕ, ◌+◌, ◌<◌, true, false, List, length, get_or, sym, ap, ◌∙◌, subst, arith}
use Rattle.std.proofs.lemmas.List.{get_or_default}
use Rattle.layout.specs.Certificate.{upto, code_of}
use Rattle.layout.specs.Written.{Ended}
use Rattle.layout.proofs.Bytes.{codes_none, codes_skip, codes_more}
use Rattle.layout.proofs.writing.write_codes.Goals as goal
use Rattle.layout.proofs.writing.write_codes.Goals.{then-not-is_zero, else-not-is_zero}

pub loop-x-init : goal.loop-x-init
loop-x-init g c =
    let o = g.F.Field.ops in
    let xs = c.args.coefficients.now in
    record { few = omega arith; ended = codes_none o (length xs) (λ k. get_or xs k o.zero) c.args.codes.now }

pub loop-x-preserved : goal.loop-x-preserved
loop-x-preserved g c =
    let o = g.F.Field.ops in
    let xs = c.args.coefficients.now in
    let n = c.loop-x.x-index in
    let x : ℕ → g.row.F.Denot = λ k. get_or xs k o.zero in
    let inside : n < length xs = omega arith in
    let item : c.x-item.result ≡ x n = c.x-item.is ∙ get_or_default xs n c.x-item.result o.zero inside in
    let after = upto (code_of o (length xs) x) (n + 1) in
    elim c.if-not-is_zero.branch [
      | then-not-is_zero w ↦
          let code : w.code.result ≡ o.code (x n) = w.code.ensures ∙ ap o.code item in
          let nonzero : w.code.result ≡ 0 → ⊥ = λ e.
          let zero : c.x-item.result ≡ o.zero = g.F.Field.laws.code_same c.x-item.result o.zero (sym w.code.ensures ∙ e ∙ sym g.F.Field.laws.code_zero) in
          let yes : c.is_zero.result ≡ true = c.is_zero.ensures.1 zero in
          let no : c.is_zero.result ≡ false = w.if-not-is_zero.true in
          cc in
          record {
            few = omega (arith, w.end-is, c.loop-x.invariant.few);
            ended = subst (λ (m : ℕ). Ended m after c.args.codes.now c.if-not-is_zero.codes) (sym w.end-is)
                (subst (λ (ys : List ℕ). Ended (c.loop-x.end + 1) after c.args.codes.now ys) (sym w.codes-is)
                (codes_more o (length xs) x n c.loop-x.end w.code.result c.args.codes.now c.loop-x.codes code nonzero (omega (arith, c.requires, c.loop-x.auto.codes, c.loop-x.invariant.few)) c.loop-x.invariant.ended));
          }
      | else-not-is_zero w ↦
          let zero : o.code (x n) ≡ 0 = ap o.code (sym item ∙ c.is_zero.ensures.0 w.if-not-is_zero.false) ∙ g.F.Field.laws.code_zero in
          record {
            few = omega (arith, w.end-is, c.loop-x.invariant.few);
            ended = subst (λ (m : ℕ). Ended m after c.args.codes.now c.if-not-is_zero.codes) (sym w.end-is)
                (subst (λ (ys : List ℕ). Ended c.loop-x.end after c.args.codes.now ys) (sym w.codes-is)
                (codes_skip o (length xs) x n c.loop-x.end c.args.codes.now c.loop-x.codes zero c.loop-x.invariant.ended));
          }
    ]
