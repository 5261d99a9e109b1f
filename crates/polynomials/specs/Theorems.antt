-- What is proved of polynomials, certificates and products, over any field in which one plus one is zero.
-- Each statement stands on the contract of a public function of `src/theorems.rt`. Assumes nothing.
use Rattle.std.specs.Prelude.{◌≡◌, ℕ, ◌+◌, ◌<◌, ◌≤◌, List, length}
use Rattle.std.specs.List.{AllByRecursion}
use Rattle.fields.specs.Field.{Ops}
use Rattle.algebra.specs.Linear.{sum, Represents, ColumnComb, Dependent}
use Rattle.fields.specs.Bit.{bit_ops}
use Rattle.fields.specs.declared.bit.Bit.{Bit}
use Rattle.polynomials.specs.declared.term.Term.{Term}
use Rattle.polynomials.specs.Polynomial.{coefficient, Equal, IsOne, unity}
use Rattle.polynomials.specs.Monomial.{Within, Formed, Ranked, monomial_at, count}
use Rattle.polynomials.specs.Certificate.{Multiple, Allowed, total, Certified, AllListed}
use Rattle.polynomials.specs.Product.{product, products, combination, DependentProduct, UsesIndependent, entry, target}
use Rattle.polynomials.specs.Evaluation.{Pair, Solves, zero_pair, one_pair, alpha, add_pairs, mul_pairs}
use Rattle.polynomials.specs.Image.{image, AllOne, exponents_of, SameOnes}

module _ {F : Type 0} (o : Ops F) where
  -- the pairs are a commutative ring, in which one is not zero and α·α = α + 1
  pub record PairsAreRing : Type 0 where
    pub add_comm : (x y : Pair F) → add_pairs o x y ≡ add_pairs o y x
    pub add_assoc : (x y z : Pair F) → add_pairs o (add_pairs o x y) z ≡ add_pairs o x (add_pairs o y z)
    pub zero-add : (x : Pair F) → add_pairs o (zero_pair o) x ≡ x
    pub add_self : (x : Pair F) → add_pairs o x x ≡ zero_pair o
    pub mul_comm : (x y : Pair F) → mul_pairs o x y ≡ mul_pairs o y x
    pub mul_assoc : (x y z : Pair F) → mul_pairs o (mul_pairs o x y) z ≡ mul_pairs o x (mul_pairs o y z)
    pub one-mul : (x : Pair F) → mul_pairs o (one_pair o) x ≡ x
    pub mul-add : (x y z : Pair F) → mul_pairs o x (add_pairs o y z) ≡ add_pairs o (mul_pairs o x y) (mul_pairs o x z)
    pub one_not_zero : one_pair o ≡ zero_pair o → ⊥
    pub square : mul_pairs o (alpha o) (alpha o) ≡ add_pairs o (alpha o) (one_pair o)

  -- where the equations have a solution in pairs a + bα, no certificate of any degree exists
  abbrev pub CertificatesExclude : Type 0
  CertificatesExclude =
      (n d : ℕ) (equations : List (List (Term F))) (x : ℕ → Pair F) → Solves o x equations → Certified o n d equations → ⊥

  -- a certificate stays one where there are more variables and each equation is still listed
  abbrev pub CertificatesStay : Type 0
  CertificatesStay =
      (n n' d : ℕ) (equations others : List (List (Term F))) → n ≤ n' → AllListed o equations others →
      Certified o n d equations → Certified o n' d others

  -- a certificate is one of every higher degree too
  abbrev pub CertificatesRise : Type 0
  CertificatesRise = (n d d' : ℕ) (equations : List (List (Term F))) → d ≤ d' → Certified o n d equations → Certified o n d' equations

  -- being one is being equal to the term one
  abbrev pub OneIsUnity : Type 0
  OneIsUnity = (p : List (Term F)) → (IsOne o p → Equal o p (unity o)) × (Equal o p (unity o) → IsOne o p)

  -- the coefficients agree at the monomials in n variables of degree at most d
  abbrev pub Agree : ℕ → ℕ → List (Term F) → List (Term F) → Type 0
  Agree n d p q = (r : ℕ) → r < count n d → coefficient o p (monomial_at n d r) ≡ coefficient o q (monomial_at n d r)

  -- the ranks suffice: two polynomials in the first n variables of degree at most d are equal exactly when their coefficients
  -- agree at the monomial of every rank, and combinations of products and the polynomial one are such polynomials
  pub record RanksSuffice : Type 0 where
    pub equal : (n d : ℕ) (p q : List (Term F)) → n ≤ 24 → Within n d p → Within n d q →
        (Equal o p q → Agree n d p q) × (Agree n d p q → Equal o p q)
    pub ranked : (n d p : ℕ) (equations : List (List (Term F))) → Formed n equations → p < products n d equations →
        AllByRecursion (λ t. Ranked n (d + 3) t.exponents) (product n d equations p)
    pub combinations : (n d : ℕ) (equations : List (List (Term F))) (x : ℕ → F) → Formed n equations →
        Within n (d + 3) (combination o n d equations x)
    pub one : (n d : ℕ) → Within n d (unity o)

  -- a coefficient for each product number says what a list of multiples does
  pub record ProductsSuffice : Type 0 where
    pub sums : (n d : ℕ) (equations : List (List (Term F))) (ms : List (Multiple F)) → n ≤ 24 → AllByRecursion (Allowed n d equations) ms →
        (x : ℕ → F) × Equal o (total o equations ms) (combination o n d equations x)
    pub lists : (n d : ℕ) (equations : List (List (Term F))) (x : ℕ → F) → n ≤ 24 →
        (ms : List (Multiple F)) × AllByRecursion (Allowed n d equations) ms × Equal o (total o equations ms) (combination o n d equations x)
    pub forth : (n d : ℕ) (equations : List (List (Term F))) → n ≤ 24 →
        Certified o n d equations → (x : ℕ → F) × IsOne o (combination o n d equations x)
    pub back : (n d : ℕ) (equations : List (List (Term F))) (x : ℕ → F) → n ≤ 24 →
        IsOne o (combination o n d equations x) → Certified o n d equations

  -- the matrix of the products decides: a column for each product, a row for each rank. The coefficients of a combination are the
  -- matrix times x; the combination is one exactly when that is the target; a certificate exists exactly when the target is
  -- a combination of columns; and a product is one of lower-numbered products exactly when its column is one of earlier columns
  pub record MatrixDecides : Type 0 where
    pub coefficients : (n d : ℕ) (equations : List (List (Term F))) (x : ℕ → F) (r : ℕ) →
        coefficient o (combination o n d equations x) (monomial_at n (d + 3) r)
        ≡ sum o (products n d equations) (λ p. o.mul (x p) (entry o n d equations r p))
    pub one : (n d : ℕ) (equations : List (List (Term F))) (x : ℕ → F) → Formed n equations →
        IsOne o (combination o n d equations x) →
        Represents o (count n (d + 3)) (products n d equations) (entry o n d equations) x (target o)
    pub is_one : (n d : ℕ) (equations : List (List (Term F))) (x : ℕ → F) → Formed n equations →
        Represents o (count n (d + 3)) (products n d equations) (entry o n d equations) x (target o) →
        IsOne o (combination o n d equations x)
    pub certified : (n d : ℕ) (equations : List (List (Term F))) → Formed n equations →
        Certified o n d equations →
        ColumnComb o (count n (d + 3)) (products n d equations) (entry o n d equations) (target o)
    pub is_certified : (n d : ℕ) (equations : List (List (Term F))) → Formed n equations →
        ColumnComb o (count n (d + 3)) (products n d equations) (entry o n d equations) (target o) →
        Certified o n d equations
    pub dependent : (n d p : ℕ) (equations : List (List (Term F))) → Formed n equations → p < products n d equations →
        DependentProduct o n d equations p → Dependent o (count n (d + 3)) (entry o n d equations) p
    pub is_dependent : (n d p : ℕ) (equations : List (List (Term F))) → Formed n equations → p < products n d equations →
        Dependent o (count n (d + 3)) (entry o n d equations) p → DependentProduct o n d equations p

  -- a certificate can do with independent products, and by them in one way only
  pub record CertificatesIndependent : Type 0 where
    pub some : (n d : ℕ) (equations : List (List (Term F))) → Formed n equations → Certified o n d equations →
        (x : ℕ → F) × IsOne o (combination o n d equations x) × UsesIndependent o n d equations x
    pub only : (n d : ℕ) (equations : List (List (Term F))) (x y : ℕ → F) → Formed n equations →
        IsOne o (combination o n d equations x) → UsesIndependent o n d equations x →
        IsOne o (combination o n d equations y) → UsesIndependent o n d equations y →
        (p : ℕ) → p < products n d equations → x p ≡ y p

  -- equations over bits, and over the field with the same exponents, all coefficients one: there are as many equations and
  -- products, and each entry over the field is the image of the one over bits
  pub record EntriesAreImages : Type 0 where
    pub zero : image o bit_ops.zero ≡ o.zero
    pub one : image o bit_ops.one ≡ o.one
    pub add : (a b : Bit) → image o (bit_ops.add a b) ≡ o.add (image o a) (image o b)
    pub mul : (a b : Bit) → image o (bit_ops.mul a b) ≡ o.mul (image o a) (image o b)
    pub targets : (r : ℕ) → target o r ≡ image o (target bit_ops r)
    pub lengths : (bits : List (List (Term Bit))) (equations : List (List (Term F))) → exponents_of bits ≡ exponents_of equations →
        length bits ≡ length equations
    pub counts : (n d : ℕ) (bits : List (List (Term Bit))) (equations : List (List (Term F))) → exponents_of bits ≡ exponents_of equations →
        products n d bits ≡ products n d equations
    pub entries : (n d : ℕ) (bits : List (List (Term Bit))) (equations : List (List (Term F))) →
        exponents_of bits ≡ exponents_of equations → AllOne bit_ops bits → AllOne o equations →
        (r p : ℕ) → entry o n d equations r p ≡ image o (entry bit_ops n d bits r p)

-- Over two fields, equations with the same exponents and all coefficients one agree: on which products lower-numbered ones make,
-- on whether a certificate of a degree exists, and on the codes of the one that uses independent products only.
pub record CertificatesAgree {F G : Type 0} (o : Ops F) (p : Ops G) : Type 0 where
  pub dependent : (n d q : ℕ) (equations : List (List (Term F))) (others : List (List (Term G))) →
      Formed n equations → Formed n others → SameOnes o p equations others → q < products n d equations →
      DependentProduct o n d equations q → DependentProduct p n d others q
  pub certified : (n d : ℕ) (equations : List (List (Term F))) (others : List (List (Term G))) →
      Formed n equations → Formed n others → SameOnes o p equations others →
      Certified o n d equations → Certified p n d others
  pub codes : (n d : ℕ) (equations : List (List (Term F))) (others : List (List (Term G))) (x : ℕ → F) (y : ℕ → G) →
      Formed n equations → Formed n others → SameOnes o p equations others →
      IsOne o (combination o n d equations x) → UsesIndependent o n d equations x →
      IsOne p (combination p n d others y) → UsesIndependent p n d others y →
      (q : ℕ) → q < products n d equations → o.code (x q) ≡ p.code (y q)
