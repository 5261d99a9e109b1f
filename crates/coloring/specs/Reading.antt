-- Which equation of the plain list has a number, and the terms past its end.
use Rattle.std.specs.Prelude.{◌≡◌, ℕ, zero, suc, ◌+◌, ◌-◌, ◌<◌, ◌≤◌, Bool, [], ◌++◌, map, length, Option, Some, None, option_map, slice_index_or, refl}
use Rattle.std.specs.List.{slice_get}
use Rattle.std.proofs.Common.{sym, subst, ◌∙◌, ⊎_elim, arith, length-append}
use Rattle.std.proofs.lemmas.List.{length-map, get_or_append_left, get_or-append_right, get_or_push}
use Rattle.std.proofs.lemmas.Bool.{cases_eq}
use Rattle.std.specs.Option.{option_map_or}
use Rattle.graphs.specs.declared.edge.Edge.{Edge}
use Rattle.coloring.specs.Pairs.{Pair, ends}
use Rattle.coloring.specs.Pairs.{upto, pairs}
use Rattle.coloring.specs.Equations.{cube, cubes, edge, plain}
use Rattle.coloring.specs.Upto.{at_map, at_none}

not_below : {n : ℕ} → n < 0 → ⊥
not_below h = omega arith

module _ {C : Type 0} (one : C) where
  pub length_cubes : (n : ℕ) → length (upto (cubes one) n) ≡ n
  length_cubes zero = refl
  length_cubes (suc n) = let e = length_cubes n in omega (arith, length-append (upto (cubes one) n) (cubes one n), e)

  cubes_at : (n k : ℕ) → k < n → slice_index_or (upto (cubes one) n) k [] ≡ cube one k
  cubes_at zero k h = absurd (not_below h)
  cubes_at (suc n) k h =
      ⊎_elim
      (λ e. subst (λ (m : ℕ). slice_index_or (upto (cubes one) n ++ cubes one n) m [] ≡ cube one m) (sym e) (get_or_push (upto (cubes one) n) (cube one n) [] n (length_cubes n)))
      (λ e. get_or_append_left (upto (cubes one) n) (cubes one n) [] k (let q = length_cubes n in omega (arith, q)) ∙ cubes_at n k (omega arith))
      (cases_eq k n)

  module _ (n : ℕ) (f : ℕ → ℕ → Bool) where
    pub length_plain : length (plain one n f) ≡ n + length (pairs f n)
    length_plain = omega (arith, length-append (upto (cubes one) n) (map (edge one) (pairs f n)), length_cubes n, length-map (pairs f n) (edge one))

    pub plain_cube : (k : ℕ) → k < n → slice_index_or (plain one n f) k [] ≡ cube one k
    plain_cube k h = get_or_append_left (upto (cubes one) n) (map (edge one) (pairs f n)) [] k (let q = length_cubes n in omega (arith, q)) ∙ cubes_at n k h

    past_cubes : (k m : ℕ) → m ≡ n → m ≤ k → slice_index_or (plain one n f) k [] ≡ slice_index_or (map (edge one) (pairs f n)) (k - m) []
    past_cubes k m q h = get_or-append_right (upto (cubes one) n) (map (edge one) (pairs f n)) m k [] (length_cubes n ∙ sym q) h

    pub plain_edge : (k m : ℕ) (p : Pair) → m ≡ n → m ≤ k → slice_get (pairs f n) (k - m) ≡ Some p → slice_index_or (plain one n f) k [] ≡ edge one p
    plain_edge k m p q h e = past_cubes k m q h ∙ at_map (edge one) (pairs f n) (k - m) p [] e

    pub plain_past : (k m : ℕ) → m ≡ n → m ≤ k → slice_get (pairs f n) (k - m) ≡ None → slice_index_or (plain one n f) k [] ≡ []
    plain_past k m q h e = past_cubes k m q h ∙ at_none (edge one) (pairs f n) (k - m) [] e

    -- past the cubes, by what was found there
    pub plain_after : (k m : ℕ) (o : Option Edge) → m ≡ n → m ≤ k → option_map ends o ≡ slice_get (pairs f n) (k - m) → slice_index_or (plain one n f) k [] ≡ option_map_or (λ e. edge one (ends e)) o []
    plain_after k m None q h e = plain_past k m q h (sym e)
    plain_after k m (Some x) q h e = plain_edge k m (ends x) q h (sym e)

-- a function of what was found, and of what stands for nothing
pub each_or : {A B C : Type 0} (h : B → C) (v : A → B) (o : Option A) (d : B) → option_map_or (λ x. h (v x)) o (h d) ≡ h (option_map_or v o d)
each_or h v None d = refl
each_or h v (Some x) d = refl
