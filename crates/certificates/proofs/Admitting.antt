-- Which ground a check is refused on, and what is known of the bytes where none holds. Assumes nothing.
use Rattle.std.proofs.Common.{◌≡◌, ℕ, ◌+◌, ◌<◌, ◌≤◌, true, ◌⊎◌, List, length, refl, ap, subst, inl, inr, arith}
use Rattle.std.proofs.lemmas.Bool.{cases_eq, cases_lt}
use Rattle.certificates.specs.declared.refusal.Refusal.TheVariants.{MalformedBody}
use Rattle.certificates.specs.declared.sizes.Sizes.{Sizes}
use Rattle.certificates.specs.Checking.{degree_of, BitPast, BadCode, heads, checking, Admitted}
use Rattle.certificates.specs.Grounds.{First, Clear}
use Rattle.certificates.specs.Measures.{Measured}
use Rattle.layout.specs.Reading.{stands, before, code_at}
use Rattle.layout.specs.Length.{map_bytes}
use Rattle.certificates.specs.Sizes.{products, rows}
use Rattle.certificates.proofs.Fitting.{not_excess}
use Rattle.certificates.proofs.Standing.{codes_below}

-- the same head at other names
pub heads_at : {a b n m e f : ℕ} (bytes : List ℕ) → a ≡ b → n ≡ m → e ≡ f → Clear (heads a n e bytes) → Clear (heads b m f bytes)
heads_at {a} {b} {n} {m} {e} {f} bytes p q r c =
    subst (λ (k : ℕ). Clear (heads b m k bytes)) r (subst (λ (k : ℕ). Clear (heads b k e bytes)) q (subst (λ (k : ℕ). Clear (heads k n e bytes)) p c))

module _ (order n e : ℕ) (bytes : List ℕ) (elements : ℕ) (z : Sizes) where
  abbrev p : ℕ
  p = products e n (degree_of bytes)

  module _ (head : Clear (heads order n e bytes)) (is : Measured e n (degree_of bytes) z) (long : length bytes ≡ 6 + z.map + before bytes z.products) where
    no_other_length : (length bytes ≡ 6 + map_bytes p + before bytes p → ⊥) → ⊥
    no_other_length other = other (subst (λ (s : Sizes). length bytes ≡ 6 + s.map + before bytes s.products) is.is long)

    pub malformed : BitPast z.products bytes ⊎ BadCode order z.products bytes → First (checking order n e bytes elements) MalformedBody
    malformed b =
        inr (head.0, inr (head.1.0, inr (not_excess e n (degree_of bytes) z is, inr (no_other_length, inl (subst (λ (s : Sizes). BitPast s.products bytes ⊎ BadCode order s.products bytes) is.is b, refl)))))

  module _ (a : Admitted order n e bytes elements z) where
    pub degree_is : z.degree ≡ degree_of bytes
    degree_is = ap (λ (s : Sizes). s.degree) a.measured.is

    pub rows_inside : z.rows ≤ elements
    rows_inside = elim (cases_lt elements (rows n (degree_of bytes))) [
      | inl h ↦ absurd (a.clear.1.1.1.1.1.0 h)
      | inr h ↦ omega (arith, ap (λ (s : Sizes). s.rows) a.measured.is)
    ]

    -- each product that stands has the code of an element
    pub codes_read : (k : ℕ) → k < p → stands bytes k ≡ true → code_at bytes p k < order
    codes_read = elim (cases_eq (length bytes) (6 + map_bytes p + before bytes p)) [
      | inl long ↦ codes_below bytes order p long (λ b. a.clear.1.1.1.1.0 (inr b))
      | inr other ↦ absurd (a.clear.1.1.1.0 other)
    ]
