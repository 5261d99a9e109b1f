-- What a caller in C gets for a script: the text of its lines on a new solver of the kind that it names, in memory that it lends.
-- Assumes nothing.
use Rattle.std.specs.Prelude.{◌≡◌, ℕ, ◌*◌, ◌<◌, ◌≤◌, max, List, length, ℤ, pos, negsuc, Result, Ok, Err}
use Rattle.fields.specs.Bit.{bit_ops}
use Rattle.fields.specs.Field.{Ops}
use Rattle.fields.specs.Four.{four_ops}
use Rattle.certificates.specs.Outcome.{memory}
use Rattle.coloring.specs.Equations.{plain, with_triangles}
use Rattle.nulla.specs.State.{fresh}
use Rattle.nulla.specs.Steps.{Lists}
use Rattle.plan.specs.Lines.{lines_of}
use Rattle.plan.specs.Texts.{Filled}
use Rattle.calling.specs.Script.{Asks}
use Rattle.scripts.specs.Codes.{Read, codes_of}
use Rattle.scripts.specs.Kinds.{number_of}
use Rattle.scripts.specs.declared.kind.Fault.{Fault}

-- The bytes that a caller lends: the codes of a table's elements, memory for certificates, and memory for the text.
pub record Lent : Type 0 where
  pub table : List ℕ
  pub certificate : List ℕ
  pub text : List ℕ

abbrev pub lent : List ℕ → List ℕ → List ℕ → Lent
lent table certificate text = record { table = table; certificate = certificate; text = text }

-- The memory that the text is given: nine bytes for each line, and nine at least.
abbrev pub room_of : List ℕ → ℕ
room_of script = 9 * max 1 (length (lines_of script))

-- The lines of a script, answered on a new solver over a field that works in the elements of these codes: n bytes of text.
pub record Ran {F : Type 0} (o : Ops F) (l : Lists F) (script : List ℕ) (before : Lent) (n : ℕ) (after : Lent) : Type 0 where
  pub elements : List F
  pub left : List F
  pub read : Read o before.table elements
  pub written : after.table ≡ codes_of o left
  pub filled : Filled Asks o l script before.text fresh (memory elements before.certificate) n after.text (memory left after.certificate)

-- The equations of the plain encoding, and those with triangles.
abbrev pub plainly : {F : Type 0} → Ops F → Lists F
plainly o = plain o.one

abbrev pub triangled : {F : Type 0} → Ops F → Lists F
triangled o = with_triangles o.one 300 (plainly o)

-- The same, on a solver of the kind that a number names.
pub data RanAs (script : List ℕ) (before : Lent) (n : ℕ) (after : Lent) : ℕ → Type 0 where
  bits : Ran bit_ops (plainly bit_ops) script before n after → RanAs script before n after 0
  bits_triangles : Ran bit_ops (triangled bit_ops) script before n after → RanAs script before n after 1
  four : Ran four_ops (plainly four_ops) script before n after → RanAs script before n after 2
  four_triangles : Ran four_ops (triangled four_ops) script before n after → RanAs script before n after 3

-- What a caller in C sees: the text's length, or a number below zero, and then nothing has changed. The grounds for that are looked at
-- in the order -1, -10, -4, -3.
pub data Entry (kind : ℕ) (script : List ℕ) (before : Lent) : ℤ → Lent → Type 0 where
  no_kind : 3 < kind → Entry kind script before (negsuc 0) before
  too_long : kind ≤ 3 → 65536 < length script → Entry kind script before (negsuc 9) before
  no_room : kind ≤ 3 → length script ≤ 65536 → length before.text < room_of script → Entry kind script before (negsuc 3) before
  too_large : kind ≤ 3 → length script ≤ 65536 → room_of script ≤ length before.text → 1048576 < length before.table → Entry kind script before (negsuc 2) before
  ran : {n : ℕ} {after : Lent} → length script ≤ 65536 → room_of script ≤ length before.text → length before.table ≤ 1048576 → RanAs script before n after kind → Entry kind script before (pos n) after

-- The number that a caller in C sees of a length or of what is at fault.
abbrev pub seen : Result ℕ Fault → ℤ
seen (Ok n) = pos n
seen (Err fault) = number_of fault
