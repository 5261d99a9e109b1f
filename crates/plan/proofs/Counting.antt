-- An answer is one line, so there are as many lines of answer as lines. Assumes nothing.
use Rattle.std.proofs.Common.{◌≡◌, ℕ, zero, suc, ◌+◌, ◌/◌, ◌%◌, ◌<◌, ◌≤◌, false, eqb, List, [], ◌∷◌, ◌++◌, length, codes, decimal, Ok, Err, sym, refl, ap, ◌∙◌, subst, ⊎_elim, arith}
use Rattle.std.proofs.lemmas.Fmt.{decimal_digit}
use Rattle.std.proofs.lemmas.List.{append_assoc}
use Rattle.std.proofs.lemmas.Bool.{eqb-false, ne_eqb, cases_lt}
use Rattle.certificates.specs.declared.verdict.Verdict.{Verdict}
use Rattle.certificates.specs.Verdicts.{verdict_text}
use Rattle.nulla.specs.declared.reply.Answer.{Answer}
use Rattle.nulla.specs.Replies.{Reply}
use Rattle.nulla.specs.Words.{answer_text}
use Rattle.certificates.specs.declared.verdict.Verdict.TheVariants.{Infeasible, Open}
use Rattle.nulla.specs.declared.reply.Answer.TheVariants.{Opened, Done, Worked, Passed}
use Rattle.certificates.specs.Refusals.{number_of}
use Rattle.nulla.specs.State.{State}
use Rattle.plan.specs.Lines.{lines_of}
use Rattle.plan.specs.Rendering.{line_of, Short, ShortAnswer, ShortVerdict}
use Rattle.plan.specs.Solving.{Store}
use Rattle.plan.specs.Plans.{too_long, in_turn, AnsweredEach}
use Rattle.plan.proofs.Going.{PlanGoes, none, next, plan_goes}
use Rattle.plan.proofs.Overwriting.{decimal_two}
use Rattle.plan.proofs.Splits.{Unbroken, lines_ended}
use Rattle.plan.proofs.Turns.{turn_short}

-- No byte of the line is a line's end, byte by byte.
abbrev Endless : List ℕ → Type 0
Endless [] = Unit {0}
Endless (byte ∷ line) = (eqb byte 10 ≡ false) × Endless line

endless_then : (line more : List ℕ) → Endless line → Endless more → Endless (line ++ more)
endless_then [] more a b = b
endless_then (byte ∷ line) more a b = (a.0, endless_then line more a.1 b)

endless_unbroken : (line : List ℕ) → Endless line → Unbroken line
endless_unbroken [] a k h e = omega arith
endless_unbroken (byte ∷ line) a zero h e = eqb-false byte 10 a.0 e
endless_unbroken (byte ∷ line) a (suc k) h e = endless_unbroken line a.1 k (omega arith) e

endless_decimal : (n : ℕ) → n < 100 → Endless (decimal n)
endless_decimal n small =
    ⊎_elim
    (λ (h : n < 10). subst Endless (sym (decimal_digit n h)) (ne_eqb (48 + n) 10 (λ e. omega arith), tt))
    (λ (h : 10 ≤ n). subst Endless (sym (decimal_two n h small)) (ne_eqb (48 + n / 10) 10 (λ e. omega arith), (ne_eqb (48 + n % 10) 10 (λ e. omega arith), tt)))
    (cases_lt n 10)

-- A line that ends once.
record Ended (line : List ℕ) : Type 0 where
  body : List ℕ
  endless : Endless body
  is : line ≡ body ++ (10 ∷ [])

ended_number : (word : List ℕ) (n : ℕ) → Endless word → n < 100 → Ended ((word ++ decimal n) ++ (10 ∷ []))
ended_number word n a small = record { body = word ++ decimal n; endless = endless_then word (decimal n) a (endless_decimal n small); is = refl }

ended_verdict : (v : Verdict) → ShortVerdict v → Ended (verdict_text v ++ (10 ∷ []))
ended_verdict (Infeasible degree length) small = ended_number (codes "few ") degree (refl, (refl, (refl, (refl, tt)))) small
ended_verdict (Open degree) small = ended_number (codes "open ") degree (refl, (refl, (refl, (refl, (refl, tt))))) small

ended_answer : (a : Answer) → ShortAnswer a → Ended (answer_text a ++ (10 ∷ []))
ended_answer (Opened vertex) small = ended_number (codes "batch ") vertex (refl, (refl, (refl, (refl, (refl, (refl, tt)))))) small
ended_answer Done small = record { body = codes "ok"; endless = (refl, (refl, tt)); is = refl }
ended_answer (Worked verdict) small = ended_verdict verdict small
ended_answer Passed small = record { body = codes "passes"; endless = (refl, (refl, (refl, (refl, (refl, (refl, tt)))))); is = refl }

ended_line : (r : Reply) → Short r → Ended (line_of r)
ended_line (Ok answer) small = ended_answer answer small
ended_line (Err ground) small = ended_number (codes "no ") (number_of ground) (refl, (refl, (refl, tt))) small

one_more : (line rest : List ℕ) → Ended line → length (lines_of (line ++ rest)) ≡ suc (length (lines_of rest))
one_more line rest e =
    ap (λ t. length (lines_of (t ++ rest))) e.is ∙ ap (λ t. length (lines_of t)) (append_assoc e.body (10 ∷ []) rest) ∙ ap length (lines_ended e.body rest (endless_unbroken e.body e.endless))

as_many : {lines : List (List ℕ)} {s t : State} {m n : Store} {text : List ℕ} → PlanGoes lines s m text t n → length (lines_of text) ≡ length lines
as_many none = refl
as_many (next {r = r} {text = text} turn rest) = one_more (line_of r) text (ended_line r (turn_short turn)) ∙ ap suc (as_many rest)

pub answered_each : AnsweredEach
answered_each lent left plan text short (too_long long) = absurd (omega arith)
answered_each lent left plan text short (in_turn h a) = as_many (plan_goes a)
