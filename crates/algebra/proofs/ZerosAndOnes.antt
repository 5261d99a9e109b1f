-- Zeros and ones: from the bits to any field, back by a witness, and so between any two fields.
use Rattle.std.proofs.Common.{◌≡◌, ℕ, zero, suc, ◌<◌, Bool, true, false, ◌&&◌, sym, refl, ap, ◌∙◌, inl, inr}
use Rattle.fields.specs.declared.bit.Bit.{Bit}
use Rattle.fields.specs.Field.{Ops, Laws}
use Rattle.fields.specs.Bools.{xor}
use Rattle.fields.specs.Bit.{bit_ops, bit_laws}
use Rattle.algebra.specs.Linear.{sum, Represents, ColumnComb, OnIndependent, Witness}
use Rattle.algebra.specs.ZeroOne.{digit, digits, Agree}
use Rattle.algebra.proofs.Sums.{sum_same, zero-add, one-mul, zero-mul}
use Rattle.algebra.proofs.ColumnCombinations.{unique}
use Rattle.algebra.proofs.Alternatives.{alternative, never_both, independent_suffice}

module _ {F : Type 0} {o : Ops F} (laws : Laws o) where
  -- a bit as an element of the field
  abbrev pub image : Bit → F
  image x = digit o x.set

  sum_digit : (a b : Bool) → digit o (xor a b) ≡ o.add (digit o a) (digit o b)
  sum_digit true true = sym (laws.add_self o.one)
  sum_digit true false = sym (laws.add-zero o.one)
  sum_digit false b = sym (zero-add laws (digit o b))

  product_digit : (a b : Bool) → digit o (a && b) ≡ o.mul (digit o a) (digit o b)
  product_digit true b = sym (one-mul laws (digit o b))
  product_digit false b = sym (zero-mul laws (digit o b))

  image_digit : (t : Bool) → image (digit bit_ops t) ≡ digit o t
  image_digit true = refl
  image_digit false = refl

  image_sum : (n : ℕ) (f : ℕ → Bit) → image (sum bit_ops n f) ≡ sum o n (λ i. image (f i))
  image_sum zero f = refl
  image_sum (suc n) f = sum_digit (sum bit_ops n f).set (f n).set ∙ ap (λ s. o.add s (image (f n))) (image_sum n f)

  -- the image of a sum of products with zeros and ones
  image_dot : (n : ℕ) (x : ℕ → Bit) (t : ℕ → Bool) → image (sum bit_ops n (λ i. bit_ops.mul (x i) (digit bit_ops (t i)))) ≡ sum o n (λ i. o.mul (image (x i)) (digit o (t i)))
  image_dot n x t =
      image_sum n (λ i. bit_ops.mul (x i) (digit bit_ops (t i)))
      ∙ sum_same laws n (λ i. image (bit_ops.mul (x i) (digit bit_ops (t i)))) (λ i. o.mul (image (x i)) (digit o (t i)))
      (λ i h. product_digit (x i).set (digit bit_ops (t i)).set ∙ ap (o.mul (image (x i))) (image_digit (t i)))

  module _ (rows : ℕ) (m : ℕ → ℕ → Bool) where
    represents_image : (k : ℕ) (b : ℕ → Bool) (x : ℕ → Bit) → Represents bit_ops rows k (digits bit_ops m) x (λ r. digit bit_ops (b r))
        → Represents o rows k (digits o m) (λ c. image (x c)) (λ r. digit o (b r))
    represents_image k b x p r h = sym (image_digit (b r)) ∙ ap image (p r h) ∙ image_dot k x (λ c. m r c)

    witness_image : (k : ℕ) (b : ℕ → Bool) (w : ℕ → Bit) → Witness bit_ops rows k (digits bit_ops m) (λ r. digit bit_ops (b r)) w
        → Witness o rows k (digits o m) (λ r. digit o (b r)) (λ r. image (w r))
    witness_image k b w p = record {
      orthogonal = λ c h. sym (image_dot rows w (λ r. m r c)) ∙ ap image (p.orthogonal c h);
      one = sym (image_dot rows w b) ∙ ap image p.one;
    }

    pub from_bits : (k : ℕ) (b : ℕ → Bool) → ColumnComb bit_ops rows k (digits bit_ops m) (λ r. digit bit_ops (b r)) → ColumnComb o rows k (digits o m) (λ r. digit o (b r))
    from_bits k b p = ((λ c. image (p.0 c)), represents_image k b p.0 p.1)

    pub to_bits : (k : ℕ) (b : ℕ → Bool) → ColumnComb o rows k (digits o m) (λ r. digit o (b r)) → ColumnComb bit_ops rows k (digits bit_ops m) (λ r. digit bit_ops (b r))
    to_bits k b p =
        elim (alternative bit_laws rows k (digits bit_ops m) (λ r. digit bit_ops (b r))) [
          | inl q ↦ q
          | inr w ↦ absurd (never_both laws rows k (digits o m) (λ r. digit o (b r)) p (λ r. image (w.0 r)) (witness_image k b w.0 w.1))
        ]

    -- the solution on independent columns is the image of that of the bits
    pub solution_image : (k : ℕ) (b : ℕ → Bool) (s : ℕ → Bit) (x : ℕ → F)
        → Represents bit_ops rows k (digits bit_ops m) s (λ r. digit bit_ops (b r)) → OnIndependent bit_ops rows k (digits bit_ops m) s
        → Represents o rows k (digits o m) x (λ r. digit o (b r)) → OnIndependent o rows k (digits o m) x
        → (c : ℕ) → c < k → x c ≡ image (s c)
    solution_image k b s x p a q d =
        unique laws rows (digits o m) k (λ r. digit o (b r)) x (λ c. image (s c)) q (represents_image k b s p) d
        (λ c h e. ap image (a c h (to_bits c (λ r. m r c) e)))

pub agree : {F G : Type 0} {o : Ops F} {p : Ops G} (first : Laws o) (second : Laws p) (rows k : ℕ) (m : ℕ → ℕ → Bool) (b : ℕ → Bool) → Agree o p rows k m b
agree {o = o} {p = p} first second rows k m b = record {
  columns = λ c d. from_bits second rows m c (λ r. m r c) (to_bits first rows m c (λ r. m r c) d);
  columns_back = λ c d. from_bits first rows m c (λ r. m r c) (to_bits second rows m c (λ r. m r c) d);
  side = λ d. from_bits second rows m k b (to_bits first rows m k b d);
  side_back = λ d. from_bits first rows m k b (to_bits second rows m k b d);
  solutions = λ x y xs xi ys yi.
      let s = independent_suffice bit_laws rows k (digits bit_ops m) (λ r. digit bit_ops (b r)) (to_bits first rows m k b (x, xs)) in (
        (λ c. (s.0 c).set),
        λ c h. (
          solution_image first rows m k b s.0 x s.1.0 s.1.1 xs xi c h,
          solution_image second rows m k b s.0 y s.1.0 s.1.1 ys yi c h,
        ),
      );
}
