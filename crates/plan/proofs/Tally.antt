-- How many lines a text has, by its bytes. Assumes nothing.
use Rattle.std.proofs.Common.{◌≡◌, ℕ, suc, ◌+◌, ◌-◌, ◌<◌, ◌≤◌, cond, eqb, List, [], ◌∷◌, length, get_or, refl, ap, ◌∙◌, inl, inr, arith}
use Rattle.std.specs.List.{sum_by}
use Rattle.std.proofs.lemmas.Bool.{cond-true, cond-false, cases_Bool}
use Rattle.std.proofs.lemmas.List.Sums.{sum_by-cons}
use Rattle.plan.specs.Lines.{begun, lines_of, unended}

-- One for each byte that ends a line.
abbrev pub ending : ℕ → ℕ
ending byte = cond (eqb byte 10) 1 0

begun_same : (byte : ℕ) (lines : List (List ℕ)) → 1 ≤ length lines → length (begun byte lines) ≡ length lines
begun_same byte [] h = absurd (omega arith)
begun_same byte (line ∷ lines) h = refl

begun_some : (byte : ℕ) (lines : List (List ℕ)) → 1 ≤ length (begun byte lines)
begun_some byte [] = omega arith
begun_some byte (line ∷ lines) = omega arith

lines_some : (byte : ℕ) (text : List ℕ) → 1 ≤ length (lines_of (byte ∷ text))
lines_some byte text =
    elim (cases_Bool (eqb byte 10)) [
      | inl t ↦ omega (arith, ap length (cond-true (eqb byte 10) ([] ∷ lines_of text) (begun byte (lines_of text)) t))
      | inr f ↦ omega (arith, ap length (cond-false (eqb byte 10) ([] ∷ lines_of text) (begun byte (lines_of text)) f), begun_some byte (lines_of text))
    ]

-- A text has a line for each end, and one more where the last line lacks it.
pub lines_tally : (text : List ℕ) → length (lines_of text) ≡ sum_by ending text + unended text
lines_tally [] = refl
lines_tally (byte ∷ []) =
    elim (cases_Bool (eqb byte 10)) [
      | inl t ↦ (
          let a : length (lines_of (byte ∷ [])) ≡ 1 = ap length (cond-true (eqb byte 10) ([] ∷ []) (begun byte []) t) in
          let b : ending byte ≡ 1 = cond-true (eqb byte 10) 1 0 t in
          let d : unended (byte ∷ []) ≡ 0 = cond-true (eqb byte 10) 0 1 t in
          omega arith)
      | inr f ↦ (
          let a : length (lines_of (byte ∷ [])) ≡ 1 = ap length (cond-false (eqb byte 10) ([] ∷ []) (begun byte []) f) in
          let b : ending byte ≡ 0 = cond-false (eqb byte 10) 1 0 f in
          let d : unended (byte ∷ []) ≡ 1 = cond-false (eqb byte 10) 0 1 f in
          omega arith)
    ]
lines_tally (byte ∷ next ∷ text) =
    let r = lines_tally (next ∷ text) in
    let sums : sum_by ending (byte ∷ next ∷ text) ≡ ending byte + sum_by ending (next ∷ text) = sum_by-cons ending byte (next ∷ text) in
    let last : unended (byte ∷ next ∷ text) ≡ unended (next ∷ text) = refl in
    elim (cases_Bool (eqb byte 10)) [
      | inl t ↦ (
          let a : length (lines_of (byte ∷ next ∷ text)) ≡ suc (length (lines_of (next ∷ text))) = ap length (cond-true (eqb byte 10) ([] ∷ lines_of (next ∷ text)) (begun byte (lines_of (next ∷ text))) t) in
          let b : ending byte ≡ 1 = cond-true (eqb byte 10) 1 0 t in
          omega (arith, a, b, r, sums, last))
      | inr f ↦ (
          let a : length (lines_of (byte ∷ next ∷ text)) ≡ length (begun byte (lines_of (next ∷ text))) = ap length (cond-false (eqb byte 10) ([] ∷ lines_of (next ∷ text)) (begun byte (lines_of (next ∷ text))) f) in
          let b : ending byte ≡ 0 = cond-false (eqb byte 10) 1 0 f in
          let k = begun_same byte (lines_of (next ∷ text)) (lines_some next text) in
          omega (arith, a, b, k, r, sums, last))
    ]

pub unended_is : (text : List ℕ) → 0 < length text → unended text ≡ cond (eqb (get_or text (length text - 1) 0) 10) 0 1
unended_is [] h = absurd (omega arith)
unended_is (byte ∷ []) h = refl
unended_is (byte ∷ next ∷ text) h =
    let on : suc (length (next ∷ text) - 1) ≡ length (byte ∷ next ∷ text) - 1 = omega arith in
    unended_is (next ∷ text) (omega arith) ∙ ap (λ i. cond (eqb (get_or (byte ∷ next ∷ text) i 0) 10) 0 1) on
