-- When two graphs are one, and a graph whose changed row is put back.
use Rattle.std.proofs.Common.{◌≡◌, ℕ, ◌<◌, ◌≤◌, Bool, List, length, get_or, set, sym, ap, ◌∙◌, subst, ⊎_elim, arith, get_or-set_other, get_or-set_same, set-set}
use mathlib.Core.HLevel.{is_prop→PathP}
use native.Mathlib.Bridge.{le_prop}
use native.Mathlib.Nat.{ℕ_set}
use lib.Seq.{set-get_or}
use std.HLevel.{Π_prop}
use Rattle.std.proofs.lemmas.Bool.{cases_eq}
use Rattle.graphs.specs.declared.graph.Row.{Row}
use Rattle.graphs.specs.declared.graph.Graph.{Graph}
use Rattle.graphs.specs.Graph.{blank, Put}

-- two graphs are one where their vertices and rows are
pub same : (g h : Graph) → g.vertices ≡ h.vertices → g.rows ≡ h.rows → g ≡ h
same g h n r j = record {
  vertices = n j;
  rows = r j;
  few = is_prop→PathP (λ k. n k ≤ 24) (λ k. le_prop) g.few h.few j;
  full = is_prop→PathP (λ k. length (r k) ≡ 24) (λ k. ℕ_set _ _) g.full h.full j;
  wide = is_prop→PathP (λ k. (i : ℕ) → i < 24 → length (get_or (r k) i blank).above ≡ 24) (λ k. Π_prop (λ i. Π_prop (λ h. ℕ_set _ _))) g.wide h.wide j;
}

-- rows stay wide where a wide one is put in
pub wide_set : (rows : List Row) (k : ℕ) (r : Row) → length rows ≡ 24 → ((i : ℕ) → i < 24 → length (get_or rows i blank).above ≡ 24) → length r.above ≡ 24 → (i : ℕ) → i < 24 → length (get_or (set rows k r) i blank).above ≡ 24
wide_set rows k r f w e i h =
    ⊎_elim
    (λ q. let l : k < length rows = omega (arith, q) in subst (λ (z : ℕ). length (get_or (set rows k r) z blank).above ≡ 24) (sym q) (ap (λ (x : Row). length x.above) (get_or-set_same rows k r blank l) ∙ e))
    (λ q. rw (get_or-set_other rows k i r blank q) (w i h))
    (cases_eq i k)

-- a graph with one flag put, and then its old row put back, is the graph as it was
pub back : (g m h : Graph) (i j : ℕ) (v : Bool) (k : ℕ) (r : Row) → Put g i j v m → h.vertices ≡ m.vertices → h.rows ≡ set m.rows k r → k ≡ i → r ≡ get_or g.rows i blank → h ≡ g
back g m h i j v k r s n e q w =
    let u = s.rows in
    let t : h.rows ≡ set m.rows i (get_or g.rows i blank) = e ∙ ap (λ (z : ℕ). set m.rows z r) q ∙ ap (set m.rows i) w in
    same h g (n ∙ s.vertices) (t ∙ ap (λ (z : List Row). set z i (get_or g.rows i blank)) u ∙ set-set g.rows i _ _ ∙ set-get_or g.rows i blank)
