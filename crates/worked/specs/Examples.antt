-- Worked examples of the definitions: a rank, sizes, three sums and products of codes, a polynomial in factors, and calls on four vertices that
-- are all joined: checks of a certificate, whole and spoiled, and refusals. Assumes nothing.
use Rattle.std.specs.Prelude.{◌≡◌, ℕ, ◌<◌, ◌≤◌, Bool, true, false, List, [], ◌∷◌, ◌++◌, length, replicate, slice_set, Ok, Err}
use Rattle.fields.specs.declared.four.Four.{Four}
use Rattle.fields.specs.Field.{Ops}
use Rattle.fields.specs.Bit.{bit_ops}
use Rattle.fields.specs.Four.{four_add, four_mul, four_code, four_ops}
use Rattle.monomials.specs.Order.{rank_of}
use Rattle.polynomials.specs.declared.term.Term.{Term}
use Rattle.polynomials.specs.Polynomial.{zeros, Equal, times}
use Rattle.polynomials.specs.Product.{combination}
use Rattle.coloring.specs.Pairs.{two}
use Rattle.coloring.specs.Equations.{mono, edge, plain}
use Rattle.certificates.specs.declared.refusal.Refusal.{Refusal}
use Rattle.certificates.specs.declared.refusal.Refusal.TheVariants.{SameVertex, TableTooSmall, OutputTooSmall, MalformedBody, NotOne, NoSuchVertex}
use Rattle.layout.specs.Length.{certificate_bytes}
use Rattle.certificates.specs.Sizes.{products, rows, cells}
use Rattle.layout.specs.Reading.{Means}
use Rattle.certificates.specs.Outcome.{Memory}
use Rattle.nulla.specs.Replies.{Reply}
use Rattle.nulla.specs.declared.reply.Answer.TheVariants.{Passed}
use Rattle.nulla.specs.Requests.{Request, add_edge, raise_degree, check_certificate}
use Rattle.nulla.specs.State.{State, state}
use Rattle.nulla.specs.Steps.{summed, Step}

-- the exponents of v_i^k
abbrev pub power : ℕ → ℕ → List ℕ
power i k = slice_set zeros i k

-- the first four vertices are all joined
abbrev pub Complete : (ℕ → ℕ → Bool) → Type 0
Complete f = (i j : ℕ) → i < j → j < 4 → f i j ≡ true

-- a certificate of degree 1 for four vertices and ten equations, over a field of so many elements: the head, a map of 50 bits of which the
-- first byte and the last are given, and the codes
abbrev pub certificate : ℕ → ℕ → ℕ → List ℕ → List ℕ
certificate order first last codes = 1 ∷ order ∷ 4 ∷ 1 ∷ 0 ∷ 10 ∷ first ∷ 0 ∷ 224 ∷ 189 ∷ 39 ∷ 16 ∷ last ∷ codes

-- sixteen products, each with the coefficient one
abbrev pub whole : ℕ → List ℕ
whole order = certificate order 1 1 (replicate 16 1)

-- the same without product 48, v_2 times the equation of the edge between v_2 and v_3
abbrev pub without_last : ℕ → List ℕ
without_last order = certificate order 1 0 (replicate 15 1)

-- the same without product 0, the equation v_0^3 + 1
abbrev pub without_first : ℕ → List ℕ
without_first order = certificate order 0 1 (replicate 15 1)

-- the whole one, but its last code is 2
abbrev pub last_two : ℕ → List ℕ
last_two order = certificate order 1 1 (replicate 15 1 ++ 2 ∷ [])

module _ {F : Type 0} (o : Ops F) where
  -- v_i^3
  abbrev pub cubed : ℕ → Term F
  cubed i = mono o.one (power i 3)

  -- v_0 and v_1, each times the equation of the edge between the vertices 0 and 1, added up
  abbrev pub factored : List (Term F)
  factored = times (power 0 1) (edge o.one (two 0 1)) ++ times (power 1 1) (edge o.one (two 0 1))

  -- a call on a solver with the plain encoding
  abbrev pub Called : Request → State → Memory F → Reply → State → Memory F → Type 0
  Called q s m a t k = Step o (plain o.one) q s m a t k

  -- a call is refused on a ground, and changes nothing
  abbrev pub Refuses : Request → State → Memory F → Refusal → Type 0
  Refuses q s m r = Called q s m (Err r) s m

  -- a check of the bytes on any such graph, with any table of at least 70 elements, answers a, leaves zeros in the first 70, and else changes nothing
  abbrev pub Checked : List ℕ → Reply → Type 0
  Checked bytes a =
      (f : ℕ → ℕ → Bool) (d : ℕ) (b : Bool) (m : Memory F) → Complete f → 70 ≤ length m.table →
      Called (check_certificate bytes) (state 4 f d b) m a (state 4 f d b) (summed o (plain o.one) bytes (state 4 f d b) m)

  -- a check of the bytes on any such graph, with any memory, is refused on a ground before its sum is taken
  abbrev pub Rejected : List ℕ → Refusal → Type 0
  Rejected bytes r = (f : ℕ → ℕ → Bool) (d : ℕ) (b : Bool) (m : Memory F) → Complete f → Refuses (check_certificate bytes) (state 4 f d b) m r

  -- on any such graph, the products with the coefficients that the bytes stand for add up to p
  abbrev pub Sums : List ℕ → List (Term F) → Type 0
  Sums bytes p = (f : ℕ → ℕ → Bool) (x : ℕ → F) → Complete f → Means o 50 bytes x → Equal o (combination o 4 1 (plain o.one 4 f) x) p

  -- Examples over a field.
  pub record FieldExamples : Type 0 where
    -- (v_0 + v_1)(v_0^2 + v_0 v_1 + v_1^2) = v_0^3 + v_1^3
    pub factors : Equal o factored (cubed 0 ∷ cubed 1 ∷ [])
    -- four vertices that are all joined have ten equations
    pub ten : (f : ℕ → ℕ → Bool) → Complete f → length (plain o.one 4 f) ≡ 10
    -- the whole certificate passes
    pub passes : Checked (whole o.size) (Ok Passed)
    -- without product 48 the sum is not one
    pub no_last : Checked (without_last o.size) (Err NotOne)
    -- without product 0 it is not one either
    pub no_first : Checked (without_first o.size) (Err NotOne)
    -- but v_0^3
    pub cube : Sums (without_first o.size) (cubed 0 ∷ [])
    -- a raise to degree 1 on such a graph wants a table of 3,570 elements
    pub small_table : (f : ℕ → ℕ → Bool) (m : Memory F) → Complete f → length m.table ≡ 3569 → Refuses raise_degree (state 4 f 0 false) m TableTooSmall
    -- and 63 bytes for the certificate
    pub small_output : (f : ℕ → ℕ → Bool) (m : Memory F) → Complete f → 3570 ≤ length m.table → length m.certificate ≡ 62 →
        Refuses raise_degree (state 4 f 0 false) m OutputTooSmall
    -- where three vertices are open, an edge from 3 to 3 is refused for want of a vertex 3
    pub no_vertex : (f : ℕ → ℕ → Bool) (d : ℕ) (b : Bool) (m : Memory F) → Refuses (add_edge 3 3) (state 3 f d b) m NoSuchVertex
    -- and where four are, because its ends are one vertex
    pub same_vertex : (f : ℕ → ℕ → Bool) (d : ℕ) (b : Bool) (m : Memory F) → Refuses (add_edge 3 3) (state 4 f d b) m SameVertex

-- The examples.
pub record Examples : Type 0 where
  -- with two vertices, v_0 v_1 has rank 4
  pub rank : rank_of (1 ∷ 1 ∷ []) ≡ 4
  -- and the matrix of degree 1 has 15 rows
  pub fifteen : rows 2 1 ≡ 15
  -- of the four values, by their codes: 2 times 2 is 3
  pub square : (x : Four) → four_code x ≡ 2 → four_code (four_mul x x) ≡ 3
  -- 2 times 3 is 1
  pub product : (x y : Four) → four_code x ≡ 2 → four_code y ≡ 3 → four_code (four_mul x y) ≡ 1
  -- 2 plus 3 is 1
  pub sum : (x y : Four) → four_code x ≡ 2 → four_code y ≡ 3 → four_code (four_add x y) ≡ 1
  -- four vertices and ten equations at degree 1: 70 rows
  pub seventy : rows 4 1 ≡ 70
  -- 50 products
  pub fifty : products 10 4 1 ≡ 50
  -- a table of 3,570 elements
  pub table : cells 10 4 1 ≡ 3570
  -- 63 bytes for a certificate
  pub memory : certificate_bytes (products 10 4 1) ≡ 63
  -- polynomials, certificates and calls over bits
  pub bits : FieldExamples bit_ops
  -- the same over the four values
  pub four_values : FieldExamples four_ops
  -- over bits no code is 2
  pub no_code : Rejected bit_ops (last_two 2) MalformedBody
