-- A trial answers as a raise does on a solver in which the edge stands. Assumes nothing.
use Rattle.std.proofs.Common.{◌≡◌, ℕ, ◌+◌, ◌≤◌, false, List, [], ◌∷◌, ◌++◌, length, sym, refl, ap, inl, inr, arith, Err}
use Rattle.fields.specs.Field.{Ops, Laws}
use Rattle.certificates.specs.declared.refusal.Refusal.{Refusal}
use Rattle.certificates.specs.Grounds.{Ground, First, Clear, room}
use Rattle.certificates.specs.Outcome.{Memory}
use Rattle.certificates.proofs.Grounds.{first_one, not_both}
use Rattle.certificates.proofs.Once.{worked_once}
use Rattle.nulla.specs.Replies.{told, Reply}
use Rattle.nulla.specs.Requests.{try_edge, raise_degree}
use Rattle.nulla.specs.State.{State, state}
use Rattle.nulla.specs.Steps.{Lists, ends_at, standing, raising, joined_too, Step, refuses, answers, works, tries}
use Rattle.nulla.specs.Theorems.{TriesAsRaises}
use Rattle.nulla.proofs.States.{differ}

-- past grounds that do not hold
first_past : (gs hs : List Ground) (r : Refusal) → Clear gs → First (gs ++ hs) r → First hs r
first_past [] hs r c f = f
first_past (g ∷ gs) hs r c (inl f) = absurd (c.0 f.0)
first_past (g ∷ gs) hs r c (inr f) = first_past gs hs r c.1 f.1

clear_past : (gs hs : List Ground) → Clear (gs ++ hs) → Clear hs
clear_past [] hs c = c
clear_past (g ∷ gs) hs c = clear_past gs hs c.1

module _ {F : Type 0} {o : Ops F} (laws : Laws o) (l : Lists F) (i j d : ℕ) (s : State) (few : s.vertices ≤ 24) (clear : Clear (ends_at i j (d + 1) s ++ standing i j s)) (m : Memory F) where
  -- the solver in which the edge stands
  abbrev with : State
  with = state s.vertices (joined_too s i j) d false

  -- what is left to refuse on: both look at the same room
  abbrev rest : List Ground
  rest = room (length (l s.vertices (joined_too s i j))) s.vertices (d + 1) (length m.table) (length m.certificate)

  abbrev before : List Ground
  before = ends_at i j (d + 1) s ++ standing i j s

  low : 48 ≤ d → ⊥
  low h = clear.0 (inr (inr (inr (omega arith))))

  raising_past : (r : Refusal) → First (raising with (length (l s.vertices (joined_too s i j))) (length m.table) (length m.certificate)) r → First rest r
  raising_past r (inl f) = absurd (differ (sym f.0))
  raising_past r (inr (_, inl f)) = absurd (low f.0)
  raising_past r (inr (_, inr f)) = f.1

  alike : {t u : State} {k p : Memory F} {a b : Reply} → Step o l (try_edge i j (d + 1)) s m a t k → Step o l raise_degree with m b u p → (a ≡ b) × (k ≡ p)
  alike (refuses {r = x} f) (refuses {r = y} g) = (ap Err (first_one rest x y (first_past before rest x clear f) (raising_past y g)), refl)
  alike (refuses {r = x} f) (answers c g) = absurd (not_both rest x (first_past before rest x clear f) c.1.1)
  alike (answers c f) (refuses {r = y} g) = absurd (not_both rest y (raising_past y g) (clear_past before rest c))
  alike (answers c (tries v)) (answers e (works w)) = let h = worked_once laws few v w in (ap told h.0, h.1)

pub tries_as_raises : {F : Type 0} {o : Ops F} (laws : Laws o) (l : Lists F) → TriesAsRaises o l
tries_as_raises laws l i j d s t u m k p a b few clear f g = alike laws l i j d s few clear m f g
