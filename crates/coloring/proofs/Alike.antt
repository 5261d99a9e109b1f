-- Equations over two fields with the same exponents and all coefficients one: lists of them, and the encodings that have them.
use Rattle.std.proofs.Common.{◌≡◌, ℕ, zero, suc, Bool, List, [], ◌∷◌, ◌++◌, map, sym, refl, ap, ◌∙◌, subst}
use Rattle.std.proofs.ByRecursion.{All-append, All-get_or, All-from_get_or}
use Rattle.std.proofs.lemmas.List.{map-append}
use Rattle.std.specs.List.{AllByRecursion}
use Rattle.fields.specs.Field.{Ops}
use Rattle.polynomials.specs.declared.term.Term.{Term}
use Rattle.polynomials.specs.Image.{AllOne, exponents_of, SameOnes}
use Rattle.coloring.specs.Equations.{cube, cubes, edge, plain, squares}
use Rattle.coloring.specs.Pairs.{upto, pairs}
use Rattle.coloring.specs.Theorems.{PlainAlike, TrianglesAlike}
use Rattle.coloring.specs.Triangles.{chosen, raised}

-- the exponents of each term
abbrev exponents : {C : Type 0} → List (Term C) → List (List ℕ)
exponents e = map (λ t. t.exponents) e

module _ {C : Type 0} (o : Ops C) where
  -- all coefficients of one equation are one
  abbrev Ones : List (Term C) → Type 0
  Ones e = AllByRecursion (λ t. t.coeff ≡ o.one) e

  ones_append : (es fs : List (List (Term C))) → AllOne o es → AllOne o fs → AllOne o (es ++ fs)
  ones_append es fs h q k l = All-get_or Ones (es ++ fs) k [] l (All-append Ones es fs (All-from_get_or Ones es [] h) (All-from_get_or Ones fs [] q))

module _ {C D : Type 0} (o : Ops C) (p : Ops D) where
  -- one equation over both fields
  pub record Twins (e : List (Term C)) (g : List (Term D)) : Type 0 where
    pub same : exponents e ≡ exponents g
    pub first : Ones o e
    pub second : Ones p g

  none_same : SameOnes o p [] []
  none_same = record { exponents = refl; first = λ k l. All-get_or (Ones o) [] k [] l tt; second = λ k l. All-get_or (Ones p) [] k [] l tt }

  one_same : (e : List (Term C)) (g : List (Term D)) → Twins e g → SameOnes o p (e ∷ []) (g ∷ [])
  one_same e g w = record {
    exponents = ap (λ (z : List (List ℕ)). z ∷ []) w.same;
    first = λ k l. All-get_or (Ones o) (e ∷ []) k [] l (w.first, tt);
    second = λ k l. All-get_or (Ones p) (g ∷ []) k [] l (w.second, tt);
  }

  pub append_same : (es fs : List (List (Term C))) (gs hs : List (List (Term D))) → SameOnes o p es gs → SameOnes o p fs hs → SameOnes o p (es ++ fs) (gs ++ hs)
  append_same es fs gs hs v w = record {
    exponents =
        map-append exponents es fs
        ∙ ap (λ (z : List (List (List ℕ))). z ++ exponents_of fs) v.exponents
        ∙ ap (λ (z : List (List (List ℕ))). exponents_of gs ++ z) w.exponents
        ∙ sym (map-append exponents gs hs);
    first = ones_append o es fs v.first w.first;
    second = ones_append p gs hs v.second w.second;
  }

  -- an equation for each element of a list, and a list of equations for each number
  map_same : {A : Type 0} (g : A → List (Term C)) (h : A → List (Term D)) → ((x : A) → Twins (g x) (h x)) → (xs : List A) → SameOnes o p (map g xs) (map h xs)
  map_same g h w [] = none_same
  map_same g h w (x ∷ xs) = append_same (g x ∷ []) (map g xs) (h x ∷ []) (map h xs) (one_same (g x) (h x) (w x)) (map_same g h w xs)

  upto_same : (g : ℕ → List (List (Term C))) (h : ℕ → List (List (Term D))) → ((k : ℕ) → SameOnes o p (g k) (h k)) → (n : ℕ) → SameOnes o p (upto g n) (upto h n)
  upto_same g h w zero = none_same
  upto_same g h w (suc n) = append_same (upto g n) (g n) (upto h n) (h n) (upto_same g h w n) (w n)

  pub plain_same : (n : ℕ) (f : ℕ → ℕ → Bool) → SameOnes o p (plain o.one n f) (plain p.one n f)
  plain_same n f =
      append_same (upto (cubes o.one) n) (map (edge o.one) (pairs f n)) (upto (cubes p.one) n) (map (edge p.one) (pairs f n))
      (upto_same (cubes o.one) (cubes p.one) (λ k. one_same (cube o.one k) (cube p.one k) (record { same = refl; first = (refl, (refl, tt)); second = (refl, (refl, tt)) })) n)
      (map_same (edge o.one) (edge p.one) (λ x. record { same = refl; first = (refl, (refl, (refl, tt))); second = (refl, (refl, (refl, tt))) }) (pairs f n))

  pub plain_alike : PlainAlike o p
  plain_alike = record { high = refl; lists = plain_same }

  chosen_same : (most n : ℕ) (f : ℕ → ℕ → Bool) → SameOnes o p (map (squares o.one) (chosen most n f)) (map (squares p.one) (chosen most n f))
  chosen_same most n f =
      map_same (squares o.one) (squares p.one) (λ t. record { same = refl; first = (refl, (refl, (refl, tt))); second = (refl, (refl, (refl, tt))) }) (chosen most n f)

  pub triangles_alike : (l : ℕ → (ℕ → ℕ → Bool) → List (List (Term C))) (most : ℕ) (l' : ℕ → (ℕ → ℕ → Bool) → List (List (Term D))) (most' : ℕ) → TrianglesAlike o p l most l' most'
  triangles_alike l most l' most' w = record {
    high = ap raised w.high;
    lists = λ n f.
        append_same (l n f) (map (squares o.one) (chosen most n f)) (l' n f) (map (squares p.one) (chosen most' n f)) (w.lists n f)
        (let P : ℕ → Type 0 = λ k. SameOnes o p (map (squares o.one) (chosen most n f)) (map (squares p.one) (chosen k n f)) in
        subst P w.high (chosen_same most n f));
  }
