-- The text for a script is short, since each of its lines is. Assumes nothing.
use Rattle.std.proofs.Common.{◌≡◌, ℕ, ◌≤◌, List, length, ℤ, pos, refl, arith}
use Rattle.fields.specs.Field.{Ops}
use Rattle.nulla.specs.Steps.{Lists}
use Rattle.plan.proofs.Splits.{lines_few}
use Rattle.scripts.specs.Entries.{Lent, Ran, RanAs, bits, bits_triangles, four, four_triangles, Entry, no_kind, too_long, no_room, too_large, ran}

ran_short : {F : Type 0} {o : Ops F} {l : Lists F} {script : List ℕ} {before after : Lent} {n : ℕ} → length script ≤ 65536 → Ran o l script before n after → n ≤ 589824
ran_short {script = script} short r = omega (arith, r.filled.within, lines_few script)

ran_as_short : {script : List ℕ} {before after : Lent} {n kind : ℕ} → length script ≤ 65536 → RanAs script before n after kind → n ≤ 589824
ran_as_short short (bits r) = ran_short short r
ran_as_short short (bits_triangles r) = ran_short short r
ran_as_short short (four r) = ran_short short r
ran_as_short short (four_triangles r) = ran_short short r

entry_of : {kind : ℕ} {n : ℕ} {script : List ℕ} {before after : Lent} {z : ℤ} → Entry kind script before z after → z ≡ pos n → n ≤ 589824
entry_of (no_kind k) e = cc e
entry_of (too_long k s) e = cc e
entry_of (no_room k s t) e = cc e
entry_of (too_large k s t u) e = cc e
entry_of {n = n} (ran {n = m} short room small r) e = let same = ran_as_short short r in let z : m ≡ n = cc e in omega (arith, same, z)

pub entry_short : {kind n : ℕ} {script : List ℕ} {before after : Lent} → Entry kind script before (pos n) after → n ≤ 589824
entry_short entry = entry_of entry refl
