-- Bytes written over a text, one part after the other. Assumes nothing.
use Rattle.std.proofs.Common.{◌≡◌, ℕ, ◌+◌, ◌/◌, ◌%◌, ◌<◌, ◌≤◌, List, [], ◌∷◌, ◌++◌, length, take, drop, decimal, sym, ap, ◌∙◌, arith}
use Rattle.std.proofs.lemmas.Fmt.{decimal_digit, decimal_step, length-decimal-le}
use Rattle.std.proofs.lemmas.List.{append_assoc, length-append, length-take, length-drop, take_at, drop_at, drop-drop}
use Rattle.plan.specs.Rendering.{overwritten, Wrote, held, used, Appended}
use Rattle.plan.specs.declared.text.Text.{Text}

module _ (text : List ℕ) (at : ℕ) (bytes : List ℕ) (fits : at + length bytes ≤ length text) where
  front : length (take at text ++ bytes) ≡ at + length bytes
  front = simp (length-append, length-take) (omega arith)

  grouped : overwritten text at bytes ≡ (take at text ++ bytes) ++ drop (at + length bytes) text
  grouped = sym (append_assoc (take at text) bytes (drop (at + length bytes) text))

  pub take_overwritten : take (at + length bytes) (overwritten text at bytes) ≡ take at text ++ bytes
  take_overwritten = ap (take (at + length bytes)) grouped ∙ take_at (take at text ++ bytes) (drop (at + length bytes) text) (at + length bytes) front

  pub drop_overwritten : drop (at + length bytes) (overwritten text at bytes) ≡ drop (at + length bytes) text
  drop_overwritten = ap (drop (at + length bytes)) grouped ∙ drop_at (take at text ++ bytes) (drop (at + length bytes) text) (at + length bytes) front

  pub overwritten_twice : (more : List ℕ) → overwritten (overwritten text at bytes) (at + length bytes) more ≡ overwritten text at (bytes ++ more)
  overwritten_twice more =
      let past : drop (at + length bytes + length more) (overwritten text at bytes) ≡ drop (at + length (bytes ++ more)) text = sym (drop-drop (length more) (at + length bytes) (overwritten text at bytes)) ∙ ap (drop (length more)) drop_overwritten ∙ drop-drop (length more) (at + length bytes) text ∙ ap (λ k. drop k text) (simp length-append (omega arith)) in
      ap (λ t. t ++ (more ++ drop (at + length bytes + length more) (overwritten text at bytes))) take_overwritten
      ∙ ap (λ t. (take at text ++ bytes) ++ (more ++ t)) past
      ∙ append_assoc (take at text) bytes (more ++ drop (at + length (bytes ++ more)) text)
      ∙ ap (λ t. take at text ++ t) (sym (append_assoc bytes more (drop (at + length (bytes ++ more)) text)))

-- One part after the other.
pub wrote_then : (text : List ℕ) (at : ℕ) (bytes : List ℕ) (then : List ℕ) (middle : ℕ) (more after : List ℕ) (end : ℕ) → at + length bytes ≤ length text → Wrote text at bytes then middle → Wrote then middle more after end → Wrote text at (bytes ++ more) after end
wrote_then text at bytes then middle more after end fits w v = record {
  ends = v.ends ∙ ap (λ k. k + length more) w.ends ∙ simp length-append (omega arith);
  is = v.is ∙ ap (λ t. overwritten t middle more) w.is ∙ ap (λ k. overwritten (overwritten text at bytes) k more) w.ends ∙ overwritten_twice text at bytes fits more;
}

-- What stands before the end of a write, and after it.
pub wrote_front : (text : List ℕ) (at : ℕ) (bytes after : List ℕ) (end : ℕ) → at + length bytes ≤ length text → Wrote text at bytes after end → take end after ≡ take at text ++ bytes
wrote_front text at bytes after end fits w = ap (λ k. take k after) w.ends ∙ ap (take (at + length bytes)) w.is ∙ take_overwritten text at bytes fits

pub wrote_rest : (text : List ℕ) (at : ℕ) (bytes after : List ℕ) (end : ℕ) → at + length bytes ≤ length text → Wrote text at bytes after end → drop end after ≡ drop end text
wrote_rest text at bytes after end fits w =
    ap (λ k. drop k after) w.ends ∙ ap (drop (at + length bytes)) w.is ∙ drop_overwritten text at bytes fits ∙ ap (λ k. drop k text) (sym w.ends)

pub wrote_length : (text : List ℕ) (at : ℕ) (bytes after : List ℕ) (end : ℕ) → at + length bytes ≤ length text → Wrote text at bytes after end → length after ≡ length text
wrote_length text at bytes after end fits w = ap length w.is ∙ simp (length-append, length-take, length-drop) (omega arith)

-- A number below a hundred in one digit or two.
pub decimal_two : (n : ℕ) → 10 ≤ n → n < 100 → decimal n ≡ (48 + n / 10) ∷ (48 + n % 10) ∷ []
decimal_two n low high =
    decimal_step n low (omega arith) ∙ ap (λ t. t ++ ((48 + n % 10) ∷ [])) (decimal_digit (n / 10) (omega arith))

pub decimal_short : (n : ℕ) → n < 100 → length (decimal n) ≤ 2
decimal_short n small = length-decimal-le 2 n (omega arith) small (omega arith)

-- The same of a text.
pub appended_length : (text longer : Text) (bytes : List ℕ) → used text + length bytes ≤ length (held text) → Appended text bytes longer → length (held longer) ≡ length (held text)
appended_length text longer bytes fits a = wrote_length (held text) (used text) bytes (held longer) (used longer) fits a.wrote

pub appended_then : (text middle longer : Text) (bytes more : List ℕ) → used text + length bytes ≤ length (held text) → Appended text bytes middle → Appended middle more longer → Appended text (bytes ++ more) longer
appended_then text middle longer bytes more fits a b = record {
  lent = b.lent ∙ a.lent;
  wrote = wrote_then (held text) (used text) bytes (held middle) (used middle) more (held longer) (used longer) fits a.wrote b.wrote;
}
