-- Elements of a field as bytes, the code of each. Assumes nothing.
use Rattle.std.specs.Prelude.{◌≡◌, ℕ, ◌<◌, ◌≤◌, ◌⊎◌, List, map, length, slice_index, slice_index_or}
use Rattle.fields.specs.Field.{Ops}

module _ {F : Type 0} (o : Ops F) where
  -- The element that a byte counts as: the one of that code, and zero where the byte is no code.
  abbrev pub CountsAs : ℕ → F → Type 0
  CountsAs byte x = (o.code x ≡ byte) ⊎ ((o.size ≤ byte) × (x ≡ o.zero))

  -- Bytes, and the elements that they count as.
  pub record Read (bytes : List ℕ) (elements : List F) : Type 0 where
    pub long : length elements ≡ length bytes
    pub each : (k : ℕ) → k < length bytes → CountsAs (slice_index bytes k) (slice_index_or elements k o.zero)

  -- The codes of elements.
  abbrev pub codes_of : List F → List ℕ
  codes_of elements = map o.code elements
