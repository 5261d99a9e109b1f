-- The kinds of solver by their numbers, and the numbers of what is at fault where a script isn't answered. Assumes nothing.
use Rattle.std.specs.Prelude.{◌≡◌, ℕ, ◌<◌, ℤ, negsuc, Result, Ok, Err}
use Rattle.scripts.specs.declared.kind.Kind.{Kind}
use Rattle.scripts.specs.declared.kind.Kind.TheVariants.{Bits, BitsTriangles, Four, FourTriangles}
use Rattle.scripts.specs.declared.kind.Fault.{Fault}
use Rattle.scripts.specs.declared.kind.Fault.TheVariants.{NoSuchKind, ScriptTooLong, TextTooShort, TableTooLarge}

abbrev pub kind_number : Kind → ℕ
kind_number Bits = 0
kind_number BitsTriangles = 1
kind_number Four = 2
kind_number FourTriangles = 3

-- A number as the kind that it names; a number above those of all kinds names none.
abbrev pub Decodes : ℕ → Result Kind Fault → Type 0
Decodes number (Ok kind) = number ≡ kind_number kind
Decodes number (Err fault) = (3 < number) × (fault ≡ NoSuchKind)

abbrev pub number_of : Fault → ℤ
number_of NoSuchKind = negsuc 0
number_of ScriptTooLong = negsuc 9
number_of TextTooShort = negsuc 3
number_of TableTooLarge = negsuc 2
