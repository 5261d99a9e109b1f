-- The plain equations of a graph are among those of a graph with more vertices or edges, and hold at every proper coloring.
use Rattle.std.specs.Prelude.{◌≡◌, ℕ, zero, suc, ◌+◌, ◌<◌, ◌≤◌, Bool, true, List, [], ◌∷◌, map, length, slice_index_or, refl}
use Rattle.std.proofs.Common.{sym, ap, subst, ◌∙◌, ⊎_elim, arith, lit<}
use Rattle.std.proofs.ByRecursion.{All-append, All-get_or, All-map, All-weaker, has_append_left, has_append_right}
use Rattle.std.proofs.lemmas.List.{get_or-map, length-map}
use Rattle.std.proofs.lemmas.Bool.{cases_eq}
use Rattle.std.specs.List.{ContainsAt as Has, AllByRecursion}
use Rattle.fields.specs.Field.{Ops, Laws}
use Rattle.coloring.specs.Pairs.{Pair}
use Rattle.polynomials.specs.declared.term.Term.{Term}
use Rattle.coloring.specs.Coloring.{Color, Proper}
use Rattle.coloring.specs.Encoding.{Joins, Lawful}
use Rattle.coloring.specs.Equations.{cube, cubes, edge, plain}
use Rattle.coloring.specs.Pairs.{upto, pair, row, pairs}
use Rattle.polynomials.specs.Polynomial.{coefficient}
use Rattle.polynomials.specs.Certificate.{Listed, AllListed}
use Rattle.polynomials.specs.Evaluation.{zero_pair, value}
use Rattle.coloring.specs.Roots.{root}
use Rattle.coloring.specs.Bounds.{Within, pairs_within}
use Rattle.coloring.specs.Numbering.{pair_there}
use Rattle.coloring.specs.RootsLemmas.{cube_vanishes, edge_vanishes}
use Rattle.coloring.specs.Upto.{all_upto}

not_below : {n : ℕ} → n < 0 → ⊥
not_below h = omega arith

module _ {A : Type 0} where
  pub has_one : (x : A) → Has (x ∷ []) x
  has_one x = (0, lit< tt, λ d. refl)

  pub has_upto : (g : ℕ → List A) (n k : ℕ) (x : A) → k < n → Has (g k) x → Has (upto g n) x
  has_upto g zero k x h e = absurd (not_below h)
  has_upto g (suc n) k x h e =
      ⊎_elim
      (λ q. has_append_right (upto g n) (g n) x (subst (λ (m : ℕ). Has (g m) x) q e))
      (λ q. has_append_left (upto g n) (g n) x (has_upto g n k x (omega arith) e))
      (cases_eq k n)

  pub has_map : {B : Type 0} (f : A → B) (xs : List A) (x : A) → Has xs x → Has (map f xs) (f x)
  has_map f xs x h =
      let l : h.0 < length (map f xs) = omega (arith, length-map xs f, h.1) in
      (h.0, l, λ d. get_or-map f xs h.0 x d h.1 ∙ ap f (h.2 x))

-- every pair of f is one of h
abbrev pub More : (ℕ → ℕ → Bool) → (ℕ → ℕ → Bool) → Type 0
More f h = (k l : ℕ) → f k l ≡ true → h k l ≡ true

pub joins_more : (f h : ℕ → ℕ → Bool) (i j : ℕ) → Joins f i j h → More f h
joins_more f h i j w k l e =
    ⊎_elim
    (λ p. ⊎_elim
    (λ q. ap (λ z. h z l) p ∙ ap (h i) q ∙ w.here)
    (λ q. w.others k l (λ a b. q b) ∙ e)
    (cases_eq l j))
    (λ p. w.others k l (λ a b. p a) ∙ e)
    (cases_eq k i)

pair_has : (f : ℕ → ℕ → Bool) (n : ℕ) (p : Pair) → Within f n p → Has (pairs f n) p
pair_has f n p w =
    let h = w.ordered in
    let l = w.small in
    let here = subst (λ (z : List Pair). Has z p) (sym (pair_there f p.low p.high h w.there)) (has_one p) in
    has_upto (row f n) n p.low p (omega arith) (has_upto (pair f p.low) n p.high p l here)

pub plain_kept : {C : Type 0} (one : C) (n m : ℕ) (f h : ℕ → ℕ → Bool) → n ≤ m → More f h → AllByRecursion (Has (plain one m h)) (plain one n f)
plain_kept one n m f h l g =
    let wider : (p : Pair) → Within f n p → Within h m p = λ p w. record { ordered = w.ordered; small = let s = w.small in omega (arith, s); there = g p.low p.high w.there } in
    All-append (Has (plain one m h)) (upto (cubes one) n) (map (edge one) (pairs f n))
    (all_upto (Has (plain one m h)) (cubes one) n (λ k s. (has_append_left (upto (cubes one) m) (map (edge one) (pairs h m)) (cube one k) (has_upto (cubes one) m k (cube one k) (omega arith) (has_one (cube one k))), tt)))
    (All-map (Has (plain one m h)) (edge one) (pairs f n)
    (All-weaker (Within f n) (λ p. Has (plain one m h) (edge one p))
    (λ p w. has_append_right (upto (cubes one) m) (map (edge one) (pairs h m)) (edge one p) (has_map (edge one) (pairs h m) p (pair_has h m p (wider p w))))
    (pairs f n) (pairs_within f n)))

module _ {C : Type 0} (o : Ops C) where
  pub has_listed : (es : List (List (Term C))) (p : List (Term C)) → Has es p → Listed o es p
  has_listed es p h = (h.0, h.1, λ e. ap (λ z. coefficient o z e) (h.2 []))

  pub all_listed : (ps es : List (List (Term C))) → AllByRecursion (Has es) ps → AllListed o ps es
  all_listed ps es h k l = has_listed es (slice_index_or ps k []) (All-get_or (Has es) ps k [] l h)

  pub plain_vanishes : (laws : Laws o) (n : ℕ) (f : ℕ → ℕ → Bool) (c : ℕ → Color) → n ≤ 24 → Proper n f c → AllByRecursion (λ e. value o (λ i. root o (c i)) e ≡ zero_pair o) (plain o.one n f)
  plain_vanishes laws n f c h proper =
      let P : List (Term C) → Type 0 = λ e. value o (λ i. root o (c i)) e ≡ zero_pair o in
      All-append P (upto (cubes o.one) n) (map (edge o.one) (pairs f n))
      (all_upto P (cubes o.one) n (λ k l. (cube_vanishes o laws c k (omega arith), tt)))
      (All-map P (edge o.one) (pairs f n)
      (All-weaker (Within f n) (λ p. P (edge o.one p))
      (λ p w. let s = w.small in edge_vanishes o laws c p w.ordered (omega (arith, s)) (proper p.low p.high w.ordered s w.there))
      (pairs f n) (pairs_within f n)))

  pub plain_lawful : Laws o → Lawful o (plain o.one)
  plain_lawful laws = record {
    lists = λ n f h. all_listed _ _ (plain_kept o.one n n f f (omega arith) (λ k l e. e));
    vanishes = λ n f c h p k l. All-get_or (λ e. value o (λ i. root o (c i)) e ≡ zero_pair o) (plain o.one n f) k [] l (plain_vanishes laws n f c h p);
    vertex = λ n f h. all_listed _ _ (plain_kept o.one n (n + 1) f f (omega arith) (λ k l e. e));
    edge = λ n f h i j l w. all_listed _ _ (plain_kept o.one n n f h (omega arith) (joins_more f h i j w));
  }
