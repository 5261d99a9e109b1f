-- What a verdict says, and its text. Assumes nothing.
use Rattle.std.specs.Prelude.{ℕ, Bool, true, false, List, ◌++◌, codes, decimal}
use Rattle.certificates.specs.declared.verdict.Verdict.{Verdict}
use Rattle.certificates.specs.declared.verdict.Verdict.TheVariants.{Infeasible, Open}

-- whether a verdict is infeasible
abbrev pub infeasible : Verdict → Bool
infeasible (Infeasible degree length) = true
infeasible (Open degree) = false

-- the text of a verdict: what it says, and the degree
abbrev pub verdict_text : Verdict → List ℕ
verdict_text (Infeasible degree length) = codes "few " ++ decimal degree
verdict_text (Open degree) = codes "open " ++ decimal degree
