-- What two solvers reply to a line, as text, where a line may ask for a check: a check's replies stand on two lines. Assumes nothing.
use Rattle.std.specs.Prelude.{ℕ, List, [], ◌∷◌, ◌++◌, codes}
use Rattle.nulla.specs.Replies.{Reply}
use Rattle.nulla.specs.Requests.{check_certificate}
use Rattle.nulla.specs.Words.{words_of}
use Rattle.certifying.specs.Text.{Answer}
use Rattle.calling.specs.Script.{Asks, Unchecked}

-- The text for a check: the words of each reply on a line of its own, under the name of the solver.
abbrev pub checked_of : Reply → Reply → List ℕ
checked_of r q = codes "bits " ++ (words_of r ++ (codes "\nfour " ++ (words_of q ++ (10 ∷ []))))

-- The text for a line.
pub data Text (line : List ℕ) (r q : Reply) (bits four : List ℕ) : List ℕ → Type 0 where
  check : {bytes : List ℕ} → Asks line (check_certificate bytes) → Text line r q bits four (checked_of r q)
  other : {text : List ℕ} → Unchecked line → Answer r q bits four text → Text line r q bits four text
