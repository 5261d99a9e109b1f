-- What a writer that goes from front to back has done, and when a certificate is stored. Assumes nothing.
use Rattle.std.specs.Prelude.{◌≡◌, ℕ, ◌<◌, ◌⊎◌, List, length, take, drop, Some, None, Option, slice_index_or}
use Rattle.fields.specs.Field.{Ops}
use Rattle.layout.specs.Length.{certificate_bytes}
use Rattle.layout.specs.Certificate.{bytes_of, over}

-- the bytes stand in front, what follows is as it was before, and nothing was added or lost
pub record Wrote (bytes before after : List ℕ) : Type 0 where
  pub front : take (length bytes) after ≡ bytes
  pub back : drop (length bytes) after ≡ drop (length bytes) before
  pub long : length after ≡ length before

-- the same, and the place behind the bytes
pub record Ended (end : ℕ) (bytes before after : List ℕ) : Type 0 where
  pub place : end ≡ length bytes
  pub wrote : Wrote bytes before after

module _ {F : Type 0} (o : Ops F) (xs : List F) (n d e : ℕ) (before : List ℕ) where
  -- what stands in the way of a certificate with the coefficients xs: too many, too many equations, too few bytes
  abbrev pub Hindered : Type 0
  Hindered = (1000000 < length xs) ⊎ (65535 < e) ⊎ (length before < certificate_bytes (length xs))

  -- the certificate stands in front and its length is told; or something stood in the way, and nothing is changed
  abbrev pub Stored : Option ℕ → List ℕ → Type 0
  Stored (Some k) after =
      let bytes = bytes_of o (length xs) (λ p. slice_index_or xs p o.zero) n d e in
      (Hindered → ⊥) × (k ≡ length bytes) × (after ≡ over bytes before)
  Stored None after = Hindered × (after ≡ before)
