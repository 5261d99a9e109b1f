-- When two states are one, and what marking a pair does to one. Assumes nothing.
use Rattle.std.proofs.Common.{◌≡◌, ℕ, ◌+◌, ◌<◌, ◌≤◌, Bool, true, false, cond, ◌&&◌, eqb, sym, refl, ap, ◌∙◌, subst, inl, inr, arith}
use native.Mathlib.Bridge.{le_prop}
use Rattle.std.proofs.Math.Nat.{lt_of_not-le}
use Rattle.std.proofs.lemmas.Bool.{cases_eq, eq-eqb, ne_eqb}
use Rattle.fields.specs.Field.{Ops}
use Rattle.certificates.specs.Outcome.{Memory}
use Rattle.graphs.specs.declared.graph.Graph.{Graph}
use Rattle.graphs.specs.Graph.{joined, Marked}
use Rattle.nulla.specs.Requests.{Request}
use Rattle.nulla.specs.Replies.{Reply}
use Rattle.nulla.specs.declared.solver.Solver.{Solver}
use Rattle.nulla.specs.Standing.{reached}
use Rattle.nulla.specs.State.{State, state, with_pair}
use Rattle.nulla.specs.Steps.{Lists, Step}

-- an order that is denied
pub not_over : (a b : ℕ) → (b < a → ⊥) → a ≤ b
not_over a b h = let l : a < b + 1 = lt_of_not-le (λ m. h (omega arith)) in omega arith

-- true is not false
pub differ : true ≡ false → ⊥
differ e = let z : ◌≡◌ {A = ℕ} 0 1 = cc in omega arith

pub same_state : {n m d e : ℕ} {f g : ℕ → ℕ → Bool} {a b : Bool} → n ≡ m → ((i j : ℕ) → f i j ≡ g i j) → d ≡ e → a ≡ b → state n f d a ≡ state m g e b
same_state p q r s t = record { vertices = p t; joins = λ i j. q i j t; degree = r t; infeasible = s t }

pub here : (f : ℕ → ℕ → Bool) (i j : ℕ) (v : Bool) → with_pair f i j v i j ≡ v
here f i j v =
    ap (λ (b : Bool). cond (b && eqb j j) v (f i j)) (eq-eqb i i refl) ∙ ap (λ (b : Bool). cond b v (f i j)) (eq-eqb j j refl)

pub elsewhere : (f : ℕ → ℕ → Bool) (i j : ℕ) (v : Bool) (k l : ℕ) → (k ≡ i → l ≡ j → ⊥) → with_pair f i j v k l ≡ f k l
elsewhere f i j v k l n =
    elim (cases_eq k i) [
      | inl p ↦
          ap (λ (b : Bool). cond (b && eqb l j) v (f k l)) (eq-eqb k i p) ∙ ap (λ (b : Bool). cond b v (f k l)) (ne_eqb l j (n p))
      | inr p ↦ ap (λ (b : Bool). cond (b && eqb l j) v (f k l)) (ne_eqb k i p)
    ]

pub marked_pairs : (g h : Graph) (i j : ℕ) (v : Bool) → Marked g i j v h → (k l : ℕ) → joined h k l ≡ with_pair (joined g) i j v k l
marked_pairs g h i j v p k l =
    elim (cases_eq k i) [
      | inl a ↦ elim (cases_eq l j) [
        | inl b ↦
            ap (λ (x : ℕ). joined h x l) a ∙ ap (joined h i) b ∙ p.here ∙ sym (here (joined g) i j v)
            ∙ ap (with_pair (joined g) i j v i) (sym b) ∙ ap (λ (x : ℕ). with_pair (joined g) i j v x l) (sym a)
        | inr b ↦ p.others k l (λ _ e. b e) ∙ sym (elsewhere (joined g) i j v k l (λ _ e. b e))
      ]
      | inr a ↦ p.others k l (λ e _. a e) ∙ sym (elsewhere (joined g) i j v k l (λ e _. a e))
    ]

-- a solver whose graph is put back is the solver that it was
pub solver_back : {E : Type 0} (s : Solver E) (h : Graph) (low : reached s.standing ≤ 48) → h ≡ s.graph → ◌≡◌ {A = Solver E} (record { encoding = s.encoding; graph = h; standing = s.standing; low = low }) s
solver_back s h low e t = record { encoding = s.encoding; graph = e t; standing = s.standing; low = le_prop low s.low t }

-- a step, at another name for its reply and its end
pub step_as : {F : Type 0} {o : Ops F} {l : Lists F} {c : Request} {s t u : State} {m k : Memory F} {a b : Reply} → Step o l c s m a t k → a ≡ b → t ≡ u → Step o l c s m b u k
step_as {o = o} {l} {c} {s} {t} {u} {m} {k} {a} {b} h e f = subst (λ (x : State). Step o l c s m b x k) f (subst (λ (x : Reply). Step o l c s m x t k) e h)
