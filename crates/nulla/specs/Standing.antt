-- What a solver says at the degree that it has reached. Assumes nothing.
use Rattle.std.specs.Prelude.{◌≡◌, ℕ, cond}
use Rattle.certificates.specs.declared.verdict.Verdict.{Verdict}
use Rattle.certificates.specs.declared.verdict.Verdict.TheVariants.{Infeasible, Open}
use Rattle.certificates.specs.Verdicts.{infeasible}

-- the degree that is reached
abbrev pub reached : Verdict → ℕ
reached (Infeasible degree length) = degree
reached (Open degree) = degree

-- What w says, once the graph of a solver that says v has grown: an open solver begins again, and one that says infeasible keeps its word.
pub record Kept (v w : Verdict) : Type 0 where
  pub degree : reached w ≡ cond (infeasible v) (reached v) 0
  pub word : infeasible w ≡ infeasible v
