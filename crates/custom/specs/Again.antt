-- A list with itself behind it has the same elements, so whatever holds of every equation still does, and whatever is listed still
-- is. Assumes nothing.
use Rattle.std.specs.Prelude.{◌≡◌, ℕ, ◌+◌, ◌-◌, ◌*◌, ◌<◌, ◌≤◌, Bool, List, [], ◌++◌, length, slice_index_or, refl}
use Rattle.std.proofs.Common.{sym, ◌∙◌, subst, inl, inr, arith, length-append}
use Rattle.std.proofs.lemmas.List.{get_or_append_left, get_or-append_right}
use Rattle.std.proofs.lemmas.Bool.{cases_lt}
use Rattle.fields.specs.Field.{Ops}
use Rattle.polynomials.specs.declared.term.Term.{Term}
use Rattle.polynomials.specs.Certificate.{Listed, AllListed}
use Rattle.coloring.specs.Encoding.{Short, Bounded, Lawful}
use Rattle.coloring.specs.Roots.{root}
use Rattle.polynomials.specs.Evaluation.{value, zero_pair}
use Rattle.custom.specs.Repeated.{twice}

pub double : {A : Type 0} (xs : List A) → length (xs ++ xs) ≡ 2 * length xs
double xs = length-append xs xs ∙ omega arith

-- in the first half
first : {A : Type 0} (xs : List A) (d : A) (k : ℕ) → k < length xs → slice_index_or (xs ++ xs) k d ≡ slice_index_or xs k d
first xs d k h = get_or_append_left xs xs d k h

-- in the second half, or past both
second : {A : Type 0} (xs : List A) (d : A) (k : ℕ) → length xs ≤ k → slice_index_or (xs ++ xs) k d ≡ slice_index_or xs (k - length xs) d
second xs d k h = get_or-append_right xs xs (length xs) k d refl h

-- the same, by the number that the code compares with
pub before : {A : Type 0} (xs : List A) (d : A) (k once : ℕ) → once ≡ length xs → k < once → slice_index_or xs k d ≡ slice_index_or (xs ++ xs) k d
before xs d k once e h = sym (first xs d k (omega arith))

pub after : {A : Type 0} (xs : List A) (d : A) (k once : ℕ) → once ≡ length xs → once ≤ k → slice_index_or xs (k - once) d ≡ slice_index_or (xs ++ xs) k d
after xs d k once e h = rw e (sym (second xs d k (omega arith)))

every : {A : Type 0} (P : A → Type 0) (xs : List A) (d : A) → ((k : ℕ) → k < length xs → P (slice_index_or xs k d)) → (k : ℕ) → k < length (xs ++ xs) → P (slice_index_or (xs ++ xs) k d)
every P xs d all k h =
    elim (cases_lt k (length xs)) [
      | inl low ↦ subst P (sym (first xs d k low)) (all k low)
      | inr high ↦ subst P (sym (second xs d k high)) (all (k - length xs) (omega (arith, double xs)))
    ]

module _ {C : Type 0} (o : Ops C) where
  listed : (es : List (List (Term C))) (p : List (Term C)) → Listed o es p → Listed o (es ++ es) p
  listed es p (k, h, same) = (k, omega (arith, double es), rw (first es [] k h) same)

  all_listed : (ps es : List (List (Term C))) → AllListed o ps es → AllListed o ps (es ++ es)
  all_listed ps es all k h = listed es (slice_index_or ps k []) (all k h)

  both_listed : (ps es : List (List (Term C))) → AllListed o ps es → AllListed o (ps ++ ps) (es ++ es)
  both_listed ps es all = every (Listed o (es ++ es)) ps [] (all_listed ps es all)

  pub twice_bounded : (l : ℕ → (ℕ → ℕ → Bool) → List (List (Term C))) (most : ℕ) → 2 * most ≤ 4095 → Bounded o l most → Bounded o (twice l) (2 * most)
  twice_bounded l most room b =
      record {
        small = room;
        count = λ n f h. let c = b.count n f h in omega (arith, double (l n f));
        equations = λ n f h. every (Short o n) (l n f) [] (b.equations n f h);
      }

  pub twice_lawful : (l : ℕ → (ℕ → ℕ → Bool) → List (List (Term C))) → Lawful o l → Lawful o (twice l)
  twice_lawful l w =
      record {
        lists = λ n f h. all_listed _ (l n f) (w.lists n f h);
        vanishes = λ n f c h proper. every (λ e. value o (λ i. root o (c i)) e ≡ zero_pair o) (l n f) [] (w.vanishes n f c h proper);
        vertex = λ n f h. both_listed (l n f) (l (n + 1) f) (w.vertex n f h);
        edge = λ n f g i j h joins. both_listed (l n f) (l n g) (w.edge n f g i j h joins);
      }
