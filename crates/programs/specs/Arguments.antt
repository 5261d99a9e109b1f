-- The equations that a program's arguments ask for. Assumes nothing.
use Rattle.std.specs.Prelude.{ℕ, Bool, not, ◌&&◌, List, Option, Some, None, cond, codes, bytes_eq}
use Rattle.programs.specs.declared.Equations.{Equations}
use Rattle.programs.specs.declared.Equations.TheVariants.{Plain, Triangles}

-- By the first argument, and whether there are more.
abbrev pub equations_named : Option (List ℕ) → Bool → Option Equations
equations_named None more = Some Plain
equations_named (Some name) more = cond (bytes_eq name (codes "triangles") && not more) (Some Triangles) None
