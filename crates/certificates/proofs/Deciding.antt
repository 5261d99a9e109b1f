-- Elimination of the filled matrix decides whether a certificate exists, and finds the one on independent products.
-- Assumes nothing.
use Rattle.std.proofs.Common.{◌≡◌, ℕ, suc, ◌+◌, ◌-◌, ◌*◌, ◌<◌, ◌≤◌, Bool, true, List, [], ◌∷◌, length, get_or, sym, ap, ◌∙◌, subst, arith}
use Rattle.fields.specs.Field.{Ops, Laws}
use Rattle.algebra.specs.Grid.{cell}
use Rattle.algebra.specs.Linear.{Represents, ColumnComb, Dependent, OnIndependent}
use Rattle.algebra.specs.Reduced.{Solved}
use Rattle.algebra.proofs.Sums.{sum_same}
use Rattle.coloring.specs.Absent.{absent}
use Rattle.coloring.specs.Encoding.{Sound, Bounded}
use Rattle.polynomials.specs.declared.term.Term.{Term}
use Rattle.polynomials.specs.Monomial.{Within, Formed, count}
use Rattle.polynomials.specs.Product.{products, DependentProduct, entry, target}
use Rattle.polynomials.proofs.Certificates.{matrix_decides}
use Rattle.certificates.specs.Matrix.{Filled}
use Rattle.certificates.specs.Outcome.{Chosen, Decided}
use Rattle.certificates.proofs.Terms.{sound_monomial}

-- the equations that an encoding lists are in the vertices' variables and of degree at most three
sound_within : {F : Type 0} (o : Ops F) (n : ℕ) (e : List (Term F)) → ((k : ℕ) → k < length e → Sound o n (get_or e k (absent o))) → Within n 3 e
sound_within o n [] h = tt
sound_within o n (t ∷ e) h = (sound_monomial n t (h 0 (omega arith)), sound_within o n e (λ k l. h (suc k) (omega (arith, l))))

pub formed : {F : Type 0} (o : Ops F) (l : ℕ → (ℕ → ℕ → Bool) → List (List (Term F))) (most n : ℕ) (f : ℕ → ℕ → Bool) → Bounded o l most → n ≤ 24 → Formed n (l n f)
formed o l most n f b few = record { few = few; terms = λ k h. sound_within o n (get_or (l n f) k []) (b.equations n f few k h).terms }

module _ {F : Type 0} {o : Ops F} (laws : Laws o) (rows : ℕ) where
  -- a representation by columns that are the same
  same_columns : (k : ℕ) (m m' : ℕ → ℕ → F) (x v v' : ℕ → F) → ((r c : ℕ) → r < rows → c < k → m r c ≡ m' r c) → ((r : ℕ) → r < rows → v r ≡ v' r)
      → Represents o rows k m x v → Represents o rows k m' x v'
  same_columns k m m' x v v' p q rep r h =
      sym (q r h) ∙ rep r h ∙ sum_same laws k (λ c. o.mul (x c) (m r c)) (λ c. o.mul (x c) (m' r c)) (λ c l. ap (o.mul (x c)) (p r c h l))

module _ {F : Type 0} {o : Ops F} (laws : Laws o) (n d : ℕ) (eqs : List (List (Term F))) (ok : Formed n eqs) (xs ys : List F) (answer : Bool) (filled : Filled o n d eqs xs) (solved : Solved o (count n (d + 3)) (products n d eqs + 1) xs ys answer) where
  abbrev N : ℕ
  N = count n (d + 3)

  abbrev P : ℕ
  P = products n d eqs

  abbrev m : ℕ → ℕ → F
  m = cell o xs (P + 1)

  abbrev front : ℕ → F
  front = cell o ys (P + 1) 0

  less : P + 1 - 1 ≡ P
  less = omega arith

  back : (r c : ℕ) → r < N → c < P → entry o n d eqs r c ≡ m r c
  back r c h l = sym (filled.columns r c h l)

  -- the matrix in the list, in place of the products' coefficients, and the other way
  to_list : (x : ℕ → F) → Represents o N P (entry o n d eqs) x (target o) → Represents o N P m x (λ r. m r P)
  to_list x = same_columns laws N P (entry o n d eqs) m x (target o) (λ r. m r P) back (λ r h. sym (filled.last r h))

  from_list : (x : ℕ → F) → Represents o N P m x (λ r. m r P) → Represents o N P (entry o n d eqs) x (target o)
  from_list x = same_columns laws N P m (entry o n d eqs) x (λ r. m r P) (target o) filled.columns filled.last

  depends : (p : ℕ) → p < P → DependentProduct o n d eqs p → Dependent o N m p
  depends p h w =
      let e = (matrix_decides laws).dependent n d p eqs ok h w in
      (e.0, same_columns laws N p (entry o n d eqs) m e.0 (λ r. entry o n d eqs r p) (λ r. m r p) (λ r c a b. back r c a (omega arith)) (λ r a. back r p a h) e.1)

  depends_back : (p : ℕ) → p < P → Dependent o N m p → DependentProduct o n d eqs p
  depends_back p h e =
      (matrix_decides laws).is_dependent n d p eqs ok h
      (e.0, same_columns laws N p m (entry o n d eqs) e.0 (λ r. m r p) (λ r. entry o n d eqs r p) (λ r c a b. filled.columns r c a (omega arith)) (λ r a. filled.columns r p a h) e.1)

  chosen : answer ≡ true → Chosen o n d eqs front
  chosen e =
      let given : Represents o N P m front (λ r. m r P) = subst (λ (k : ℕ). Represents o N k m front (λ r. m r k)) less (solved.given e) in
      let independent : OnIndependent o N P m front = subst (λ (k : ℕ). OnIndependent o N k m front) less (solved.independent e) in
      record {
        sums = (matrix_decides laws).is_one n d eqs front ok (from_list front given);
        independent = λ p h w. independent p h (depends p h w);
        only = λ y one uses p h.
            subst (λ (k : ℕ). Represents o N k m y (λ r. m r k) → OnIndependent o N k m y → (c : ℕ) → c < k → y c ≡ front c) less (solved.only e y)
            (to_list y ((matrix_decides laws).one n d eqs y ok one)) (λ c l w. uses c l (depends_back c l w)) p h;
      }

  -- the first row begins the list
  lead : (p : ℕ) → 0 * (P + 1) + p ≡ p
  lead p = omega arith

  in_front : front ≡ (λ p. get_or ys p o.zero)
  in_front t = λ p. get_or ys (lead p t) o.zero

  pub decided : Decided o n d eqs ys answer
  decided = record {
    found = λ e. subst (Chosen o n d eqs) in_front (chosen e);
    none = λ e c.
        let w = (matrix_decides laws).certified n d eqs ok c in
        subst (λ (k : ℕ). ColumnComb o N k m (λ r. m r k) → ⊥) less (solved.unsolvable e) (w.0, to_list w.0 w.1);
  }
