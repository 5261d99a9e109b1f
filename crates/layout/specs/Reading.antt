-- Reading a certificate: which products have a coefficient that is not zero, where its code stands, and which coefficients the
-- bytes stand for; and that writing and reading are inverse. Assumes nothing.
use Rattle.std.specs.Prelude.{◌≡◌, ℕ, zero, suc, ◌+◌, ◌*◌, ◌/◌, ◌%◌, ◌^◌, ◌<◌, ◌≤◌, Bool, true, false, cond, List, length, take, ◌==◌, slice_index}
use Rattle.fields.specs.Field.{Ops}
use Rattle.layout.specs.Length.{map_bytes}
use Rattle.layout.specs.Certificate.{head_of, bytes_of}

module _ (bytes : List ℕ) where
  -- the byte at a place
  abbrev pub byte : ℕ → ℕ
  byte place = slice_index bytes place

  -- product k has a coefficient that is not zero: bit k mod 8 of byte k div 8 of the map is 1, bit 0 the least
  unfoldable pub stands : ℕ → Bool
  stands k = byte (6 + k / 8) / 2 ^ (k % 8) % 2 == 1

  -- how many products before product k have one
  unfoldable pub before : ℕ → ℕ
  before zero = 0
  before (suc k) = before k + cond (stands k) 1 0

  -- the code of product k's coefficient, where it has one, among p products: behind head and map, and those before it
  abbrev pub code_at : ℕ → ℕ → ℕ
  code_at p k = byte (6 + map_bytes p + before k)

module _ {F : Type 0} (o : Ops F) where
  -- the bytes stand for the coefficients x of p products: zero where the bit is 0, else the element that has the code
  pub record Means (p : ℕ) (bytes : List ℕ) (x : ℕ → F) : Type 0 where
    pub zeros : (k : ℕ) → k < p → stands bytes k ≡ false → x k ≡ o.zero
    pub others : (k : ℕ) → k < p → stands bytes k ≡ true → o.code (x k) ≡ code_at bytes p k

  -- the bytes are a certificate for n vertices, degree d, e equations and p products: the head says so, no bit past the
  -- products is 1, each code is that of an element that is not zero, and there is one for each bit that is 1
  pub record WellFormed (n d e p : ℕ) (bytes : List ℕ) : Type 0 where
    pub small : (place : ℕ) → place < length bytes → byte bytes place < 256
    pub head : take 6 bytes ≡ head_of o.size n d e
    pub long : length bytes ≡ 6 + map_bytes p + before bytes p
    pub unused : (k : ℕ) → p ≤ k → k < 8 * map_bytes p → stands bytes k ≡ false
    pub codes : (k : ℕ) → k < p → stands bytes k ≡ true → (0 < code_at bytes p k) × (code_at bytes p k < o.size)

  -- What is written is well-formed and stands for the coefficients it was written for. Bytes that are well-formed stand for
  -- coefficients, for no others, and are what is written for these.
  pub record BytesInverse : Type 0 where
    pub written : (n d e p : ℕ) (x : ℕ → F) → n < 256 → d < 256 → e < 65536 → WellFormed n d e p (bytes_of o p x n d e)
    pub means : (n d e p : ℕ) (x : ℕ → F) → Means p (bytes_of o p x n d e) x
    pub one : (n d e p : ℕ) (bytes : List ℕ) → WellFormed n d e p bytes → (x : ℕ → F) × Means p bytes x
    pub agree : (p : ℕ) (bytes : List ℕ) (x y : ℕ → F) → Means p bytes x → Means p bytes y → (k : ℕ) → k < p → x k ≡ y k
    pub back : (n d e p : ℕ) (bytes : List ℕ) (x : ℕ → F) → WellFormed n d e p bytes → Means p bytes x → bytes_of o p x n d e ≡ bytes
