-- A line of a script that is not too long has its turn. Assumes nothing.
use Rattle.std.proofs.Common.{◌≡◌, ℕ, suc, ◌+◌, ◌*◌, ◌≤◌, eqb, List, [], ◌∷◌, ◌++◌, length, ap, subst, arith}
use Rattle.std.proofs.lemmas.Bool.{cond_both}
use Rattle.std.proofs.lemmas.List.{length-append}
use Rattle.std.specs.List.{concat}
use Rattle.fields.specs.Field.{Ops}
use Rattle.certificates.specs.Outcome.{Memory}
use Rattle.nulla.specs.Replies.{Reply}
use Rattle.nulla.specs.State.{State}
use Rattle.nulla.specs.Steps.{Lists}
use Rattle.plan.specs.Lines.{begun, lines_of}
use Rattle.plan.specs.Texts.{Turn}
use Rattle.calling.specs.Script.{Asks, Replied}
use Rattle.calling.proofs.Replying.{replied_turn}

begun_short : (byte : ℕ) (lines : List (List ℕ)) → length (concat (begun byte lines)) ≤ 1 + length (concat lines)
begun_short byte [] = omega arith
begun_short byte (line ∷ lines) = simp length-append (omega arith)

-- the lines have no more bytes than the text
lines_short : (text : List ℕ) → length (concat (lines_of text)) ≤ length text
lines_short [] = omega arith
lines_short (byte ∷ text) =
    let rest = lines_short text in
    let more = begun_short byte (lines_of text) in
    cond_both (eqb byte 10) ([] ∷ lines_of text) (begun byte (lines_of text)) (λ lines. length (concat lines) ≤ suc (length text)) (λ e. omega arith) (λ e. omega arith)

among : (before : List (List ℕ)) (line : List ℕ) (after : List (List ℕ)) → length line ≤ length (concat (before ++ (line ∷ after)))
among [] line after = simp length-append (omega arith)
among (first ∷ before) line after = simp length-append (omega (arith, among before line after))

pub line_short : (script : List ℕ) (before : List (List ℕ)) (line : List ℕ) (after : List (List ℕ)) → lines_of script ≡ before ++ (line ∷ after) → length line ≤ length script
line_short script before line after split =
    let whole = lines_short script in
    let here = among before line after in
    omega (arith, ap (λ lines. length (concat lines)) split)

-- a line on a solver whose encoding is the one that it had
pub line_turn : {F E : Type 0} {o : Ops F} (lists : E → Lists F) {line : List ℕ} {e e' : E} {most : ℕ} {s t : State} {m k : Memory F} {r : Reply} → length line ≤ 2 * most → e' ≡ e → Replied o (lists e') line most s m r t k → Turn Asks o (lists e) line s m r t k
line_turn {o = o} lists {line = line} {s = s} {t = t} {m = m} {k = k} {r = r} room same replied =
    subst (λ l. Turn Asks o l line s m r t k) (ap lists same) (replied_turn room replied)
