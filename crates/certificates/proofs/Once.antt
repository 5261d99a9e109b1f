-- Working a degree has one verdict, and leaves one memory. Assumes nothing.
use Rattle.std.proofs.Common.{◌≡◌, ℕ, zero, suc, ◌+◌, ◌*◌, ◌^◌, ◌<◌, ◌≤◌, Bool, cond, not, ◌&&◌, eqb, ltb, List, [], ◌∷◌, ◌++◌, length, sym, refl, ap, ◌∙◌, inl, inr, arith, le-ltb}
use Rattle.std.proofs.lemmas.Bool.{cases_lt}
use Rattle.fields.specs.Field.{Ops, Laws}
use Rattle.polynomials.specs.declared.term.Term.{Term}
use Rattle.polynomials.specs.Product.{products}
use Rattle.polynomials.proofs.Certificates.{products_suffice}
use Rattle.certificates.specs.declared.verdict.Verdict.{Verdict}
use Rattle.certificates.specs.declared.verdict.Verdict.TheVariants.{Infeasible}
use Rattle.layout.specs.Certificate.{upto, present, bits, map_of, code_of, codes_of, bytes_of, head_of, over}
use Rattle.certificates.specs.Outcome.{Memory, memory, cleared, written, Worked, certified, uncertified}
use Rattle.layout.specs.Length.{map_bytes}

-- the bytes depend on the coefficients of the products alone
upto_same : (g h : ℕ → List ℕ) (n : ℕ) → ((k : ℕ) → k < n → g k ≡ h k) → upto g n ≡ upto h n
unfolding upto
upto_same g h zero e = refl
upto_same g h (suc n) e = ap (λ (xs : List ℕ). xs ++ g n) (upto_same g h n (λ k l. e k (omega arith))) ∙ ap (λ (xs : List ℕ). upto h n ++ xs) (e n (omega arith))

-- over two fields: they depend on the codes alone
module _ {F G : Type 0} (o : Ops F) (q : Ops G) (p : ℕ) (x : ℕ → F) (y : ℕ → G) (same : (k : ℕ) → k < p → o.code (x k) ≡ q.code (y k)) where
  present_same : (k : ℕ) → present o p x k ≡ present q p y k
  present_same k =
      elim (cases_lt k p) [
        | inl l ↦ ap (λ (c : ℕ). ltb k p && not (eqb c 0)) (same k l)
        | inr l ↦ ap (λ (b : Bool). b && not (eqb (o.code (x k)) 0)) (le-ltb k p l) ∙ sym (ap (λ (b : Bool). b && not (eqb (q.code (y k)) 0)) (le-ltb k p l))
      ]

  bits_same : (b k : ℕ) → bits o p x b k ≡ bits q p y b k
  unfolding bits
  bits_same b zero = refl
  bits_same b (suc k) = ap (λ (n : ℕ). n + cond (present o p x (8 * b + k)) (2 ^ k) 0) (bits_same b k) ∙ ap (λ (v : Bool). bits q p y b k + cond v (2 ^ k) 0) (present_same (8 * b + k))

  pub tail_same : map_of o p x ++ codes_of o p x ≡ map_of q p y ++ codes_of q p y
  tail_same =
      ap (λ (xs : List ℕ). xs ++ codes_of o p x) (upto_same (λ b. bits o p x b 8 ∷ []) (λ b. bits q p y b 8 ∷ []) (map_bytes p) (λ b l. ap (λ (n : ℕ). n ∷ []) (bits_same b 8)))
      ∙ ap (λ (xs : List ℕ). map_of q p y ++ xs) (upto_same (code_of o p x) (code_of q p y) p (λ k l. ap (λ (c : ℕ). cond (eqb c 0) [] (c ∷ [])) (same k l)))

pub bytes_same : {F : Type 0} (o : Ops F) (p : ℕ) (x y : ℕ → F) → ((k : ℕ) → k < p → x k ≡ y k) → (n d e : ℕ) → bytes_of o p x n d e ≡ bytes_of o p y n d e
bytes_same o p x y same n d e = ap (λ (xs : List ℕ). head_of o.size n d e ++ xs) (tail_same o o p x y (λ k l. ap o.code (same k l)))

module _ {F : Type 0} {o : Ops F} (laws : Laws o) where
  pub worked_once : {n d : ℕ} {eqs : List (List (Term F))} {m k j : Memory F} {v w : Verdict} → n ≤ 24 → Worked o n d eqs m v k → Worked o n d eqs m w j → (v ≡ w) × (k ≡ j)
  worked_once {n} {d} {eqs} {m} few (certified x c) (certified y e) =
      let agree = λ (p : ℕ) (l : p < products n d eqs). e.only x c.sums c.independent p l in
      let same : written o n d eqs x ≡ written o n d eqs y = bytes_same o (products n d eqs) x y agree n d (length eqs) in
      (ap (λ (b : List ℕ). Infeasible d (length b)) same, ap (λ (b : List ℕ). memory (cleared o n d eqs m.table) (over b m.certificate)) same)
  worked_once {n} {d} {eqs} few (certified x c) (uncertified h) = absurd (h ((products_suffice laws).back n d eqs x few c.sums))
  worked_once {n} {d} {eqs} few (uncertified h) (certified x c) = absurd (h ((products_suffice laws).back n d eqs x few c.sums))
  worked_once few (uncertified h) (uncertified k) = (refl, refl)
