use Rattle.std.proofs.Common.{sym, ◌∙◌, arith}
use Rattle.std.proofs.lemmas.List.{get_or_past}
use Rattle.coloring.specs.Absent.{absent}
use Rattle.coloring.specs.Equations.{cube}
use Rattle.coloring.proofs.encoding.plain.cube_term.Goals as goal

pub returns-in_default : goal.returns-in_default
returns-in_default g c =
    c.no_term.ensures ∙ sym (get_or_past (cube g.F.Field.ops.one c.args.i) c.args.index (absent g.F.Field.ops) (omega arith))
