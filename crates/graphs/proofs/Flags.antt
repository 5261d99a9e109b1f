-- What a flag put into the rows of a graph leaves at each place.
use Rattle.std.proofs.Common.{◌≡◌, ℕ, zero, suc, ◌<◌, ◌≤◌, false, List, length, get_or, replicate, refl, ap, ⊎_elim, arith}
use Rattle.std.proofs.lemmas.List.{get_or_past}
use Rattle.std.proofs.lemmas.Bool.{cases_lt}
use Rattle.graphs.specs.declared.graph.Row.{Row}
use Rattle.graphs.specs.Graph.{blank, flag}

-- past the rows, and past a row, nothing is joined
pub flag_outside : (rows : List Row) (i j : ℕ) → length rows ≡ 24 → ((k : ℕ) → k < 24 → length (get_or rows k blank).above ≡ 24) → (i < 24 → 24 ≤ j) → flag rows i j ≡ false
flag_outside rows i j f w h =
    ⊎_elim
    (λ l. let e = w i l in get_or_past (get_or rows i blank).above j false (omega (arith, e, h l)))
    (λ l. ap (λ (r : Row). get_or r.above j false) (get_or_past rows i blank (omega arith)))
    (cases_lt i 24)

all_false : (n j : ℕ) → get_or (replicate n false) j false ≡ false
all_false zero j = refl
all_false (suc n) zero = refl
all_false (suc n) (suc j) = all_false n j

all_blank : (n m i j : ℕ) → flag (replicate n (record { above = replicate m false })) i j ≡ false
all_blank zero m i j = refl
all_blank (suc n) m zero j = all_false m j
all_blank (suc n) m (suc i) j = all_blank n m i j

pub none_joined : (i j : ℕ) → flag (replicate 24 (record { above = replicate 24 false })) i j ≡ false
none_joined = all_blank 24 24
