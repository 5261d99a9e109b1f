-- What two solvers reply to a line, as text: the words of a reply as in the answers to a plan, and hexadecimal certificates.
-- Assumes nothing.
use Rattle.std.specs.Prelude.{◌≡◌, ℕ, List, [], ◌∷◌, ◌++◌, take, codes, ◌≢◌, Ok}
use Rattle.certificates.specs.declared.verdict.Verdict.TheVariants.{Infeasible}
use Rattle.nulla.specs.declared.reply.Answer.TheVariants.{Worked}
use Rattle.nulla.specs.Replies.{Reply}
use Rattle.nulla.specs.Words.{words_of}
use Rattle.plan.specs.Rendering.{line_of}
use Rattle.certifying.specs.Hexadecimal.{hex_of}

-- A line of answer is the words and the line's end.
abbrev pub ReadAsInPlans : Type 0
ReadAsInPlans = (r : Reply) → line_of r ≡ words_of r ++ (10 ∷ [])

-- The line with the certificate that a reply tells of, under a label: as many bytes of the memory for certificates as the reply
-- says. Any other reply has no such line.
abbrev pub certificate_of : List ℕ → Reply → List ℕ → List ℕ
certificate_of label (Ok (Worked (Infeasible degree length))) memory = label ++ (codes " " ++ (hex_of (take length memory) ++ (10 ∷ [])))
certificate_of label _ memory = []

-- The text for a line, from the replies of both solvers and what is in their memory for certificates: the words of both, and the
-- certificates; or both in words, where these differ.
pub data Answer (r q : Reply) (bits four : List ℕ) : List ℕ → Type 0 where
  agree : words_of r ≡ words_of q → Answer r q bits four (words_of r ++ (codes "\n" ++ (certificate_of (codes "bits") r bits ++ certificate_of (codes "four") q four)))
  differ : (words_of r ≢ words_of q) → Answer r q bits four (codes "differ: " ++ (words_of r ++ (codes ", " ++ (words_of q ++ (10 ∷ [])))))
