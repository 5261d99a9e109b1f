-- What opening a vertex and adding an edge do to a solver on which the graph of a family is built. Assumes nothing.
use Rattle.std.proofs.Common.{◌≡◌, ℕ, ◌+◌, ◌<◌, ◌≤◌, min, max, Bool, true, false, cond, ◌⊎◌, Ok, Err, sym, refl, ap, ◌∙◌, subst, inl, inr, arith}
use Rattle.std.proofs.Math.Nat.{min-eq_left, max-eq_right}
use Rattle.std.proofs.lemmas.Bool.{cases_eq, cases_lt}
use Rattle.fields.specs.Field.{Ops}
use Rattle.certificates.specs.declared.refusal.Refusal.{Refusal}
use Rattle.certificates.specs.declared.refusal.Refusal.TheVariants.{NoVertexLeft}
use Rattle.certificates.specs.Grounds.{First}
use Rattle.certificates.specs.Outcome.{Memory}
use Rattle.nulla.specs.Replies.{opened, done}
use Rattle.nulla.specs.Requests.{open_vertex, add_edge}
use Rattle.nulla.specs.State.{State, fresh, with_vertex, with_edge, with_pair}
use Rattle.nulla.specs.Steps.{Lists, grounds, Step, refuses, answers, opens, adds}
use Rattle.nulla.proofs.States.{here, elsewhere, differ}
use Rattle.families.specs.Building.{Stands, Reaches}
use Rattle.families.specs.Family.{vertices_of, joins_of}
use Rattle.families.specs.declared.family.Family.{Family}

-- the pairs that are done without the last, and those that are not
earlier : (i j v k : ℕ) → (i ≡ k → j ≡ v → ⊥) → (j < v) ⊎ ((j ≡ v) × (i < k + 1)) → (j < v) ⊎ ((j ≡ v) × (i < k))
earlier i j v k n (inl h) = inl h
earlier i j v k n (inr (e, h)) = elim (cases_eq i k) [ inl a ↦ absurd (n a e) | inr b ↦ inr (e, omega arith) ]

later : (i j v k : ℕ) → (v < j) ⊎ ((j ≡ v) × (k + 1 ≤ i)) → (v < j) ⊎ ((j ≡ v) × (k ≤ i))
later i j v k (inl h) = inl h
later i j v k (inr (e, h)) = inr (e, omega arith)

apart : (i j v k : ℕ) → (v < j) ⊎ ((j ≡ v) × (k + 1 ≤ i)) → i ≡ k → j ≡ v → ⊥
apart i j v k (inl h) a b = omega arith
apart i j v k (inr (e, h)) a b = omega arith

not_before : (i j : ℕ) → (j < 0) ⊎ ((j ≡ 0) × (i < 0)) → ⊥
not_before i j (inl h) = omega arith
not_before i j (inr (e, h)) = omega arith

in_row : (i j v : ℕ) → i < j → (j < v + 1) ⊎ ((j ≡ v + 1) × (i < 0)) → (j < v) ⊎ ((j ≡ v) × (i < v))
in_row i j v h (inl x) = elim (cases_lt j v) [ inl y ↦ inl y | inr y ↦ inr (omega arith, omega arith) ]
in_row i j v h (inr (e, x)) = absurd (let z : ⊥ = omega arith in z)

past_row : (i j v : ℕ) → (v + 1 < j) ⊎ ((j ≡ v + 1) × (0 ≤ i)) → v < j
past_row i j v (inl x) = omega arith
past_row i j v (inr (e, x)) = omega arith

beyond : (i j n : ℕ) → n ≤ j → (n < j) ⊎ ((j ≡ n) × (0 ≤ i))
beyond i j n h = elim (cases_lt n j) [ inl x ↦ inl x | inr x ↦ inr (omega arith, omega arith) ]

module _ {family : Family} where
  pub starts : Reaches family 0 0 0 fresh
  starts = record {
    vertices = refl;
    joined = λ i j h x. absurd (not_before i j x);
    others = λ i j h x. refl;
    unworked = refl;
    unknown = refl;
  }

  pub skips : {n v k : ℕ} {s : State} → Reaches family n v k s → joins_of family k v ≡ false → Reaches family n v (k + 1) s
  skips {n} {v} {k} {s} p none = record {
    vertices = p.vertices;
    joined = λ i j h x.
        elim (cases_eq i k) [
          | inl a ↦ elim (cases_eq j v) [
            | inl b ↦ p.others i j h (inr (b, omega arith)) ∙ sym (ap (λ (y : ℕ). joins_of family y j) a ∙ ap (joins_of family k) b ∙ none)
            | inr b ↦ p.joined i j h (earlier i j v k (λ _ e. b e) x)
          ]
          | inr a ↦ p.joined i j h (earlier i j v k (λ e _. a e) x)
        ];
    others = λ i j h x. p.others i j h (later i j v k x);
    unworked = p.unworked;
    unknown = p.unknown;
  }

  enters_here : {n v k : ℕ} {s : State} → Reaches family n v k s → joins_of family k v ≡ true → Reaches family n v (k + 1) (with_edge s k v)
  enters_here {n} {v} {k} {s} p some = record {
    vertices = p.vertices;
    joined = λ i j h x.
        elim (cases_eq i k) [
          | inl a ↦ elim (cases_eq j v) [
            | inl b ↦
                ap (λ (y : ℕ). with_pair s.joins k v true y j) a ∙ ap (with_pair s.joins k v true k) b ∙ here s.joins k v true
                ∙ sym (ap (λ (y : ℕ). joins_of family y j) a ∙ ap (joins_of family k) b ∙ some)
            | inr b ↦ elsewhere s.joins k v true i j (λ _ e. b e) ∙ p.joined i j h (earlier i j v k (λ _ e. b e) x)
          ]
          | inr a ↦ elsewhere s.joins k v true i j (λ e _. a e) ∙ p.joined i j h (earlier i j v k (λ e _. a e) x)
        ];
    others = λ i j h x. elsewhere s.joins k v true i j (apart i j v k x) ∙ p.others i j h (later i j v k x);
    unworked = ap (λ (b : Bool). cond b s.degree 0) p.unknown;
    unknown = p.unknown;
  }

  pub ends_row : {n v : ℕ} {s : State} → Reaches family n v v s → Reaches family n (v + 1) 0 s
  ends_row {n} {v} p = record {
    vertices = p.vertices;
    joined = λ i j h x. p.joined i j h (in_row i j v h x);
    others = λ i j h x. p.others i j h (inl (past_row i j v x));
    unworked = p.unworked;
    unknown = p.unknown;
  }

  opens_here : {n v : ℕ} {s : State} → Reaches family n v 0 s → Reaches family (n + 1) v 0 (with_vertex s)
  opens_here {s = s} p = record {
    vertices = ap (λ (x : ℕ). x + 1) p.vertices;
    joined = p.joined;
    others = p.others;
    unworked = ap (λ (b : Bool). cond b s.degree 0) p.unknown;
    unknown = p.unknown;
  }

  pub ends : {n : ℕ} {s : State} → Reaches family n n 0 s → n ≡ vertices_of family → Stands family s
  ends {n} p e = record {
    vertices = p.vertices ∙ e;
    joins = λ i j h x. p.joined i j h (inl (omega (arith, e)));
    others = λ i j h x. p.others i j h (beyond i j n (omega (arith, e, x)));
    unworked = p.unworked;
    unknown = p.unknown;
  }

-- an edge between two open vertices that are not joined is not refused
not_grounds : {F : Type 0} (o : Ops F) (l : Lists F) (i j : ℕ) (s : State) (m : Memory F) (r : Refusal) → i < j → j < 24 → j < s.vertices → s.joins (min i j) (max i j) ≡ false
    → First (grounds o l (add_edge i j) s m) r → ⊥
not_grounds o l i j s m r a b c d (inl (inl x, _)) = omega arith
not_grounds o l i j s m r a b c d (inl (inr x, _)) = omega arith
not_grounds o l i j s m r a b c d (inr (_, inl (inl x, _))) = omega arith
not_grounds o l i j s m r a b c d (inr (_, inl (inr x, _))) = omega arith
not_grounds o l i j s m r a b c d (inr (_, inr (_, inl (x, _)))) = omega arith
not_grounds o l i j s m r a b c d (inr (_, inr (_, inr (_, inl (x, _))))) = differ (sym x ∙ d)
not_grounds o l i j s m r a b c d (inr (_, inr (_, inr (_, inr (_, x))))) = x

module _ {F : Type 0} {o : Ops F} {l : Lists F} where
  opens_next : {n : ℕ} {s t : State} {m k : Memory F} → Step o l open_vertex s m (opened (Ok n)) t k → t ≡ with_vertex s
  opens_next (answers c opens) = refl

  pub opens_below : {n : ℕ} {s t : State} {m k : Memory F} → Step o l open_vertex s m (opened (Ok n)) t k → s.vertices < 24
  opens_below {s = s} (answers c opens) = elim (cases_lt s.vertices 24) [ inl x ↦ x | inr x ↦ absurd (c.0 x) ]

  pub opens_not : {r : Refusal} {s t : State} {m k : Memory F} → Step o l open_vertex s m (opened (Err r)) t k → (24 ≤ s.vertices) × (r ≡ NoVertexLeft)
  opens_not (refuses (inl f)) = f
  opens_not (refuses (inr f)) = absurd f.1
  opens_not (answers c x) = elim x [ ]

  adds_next : {i j : ℕ} {s t : State} {m k : Memory F} → Step o l (add_edge i j) s m (done {A = ℕ} (Ok 0)) t k → t ≡ with_edge s (min i j) (max i j)
  adds_next (answers c adds) = refl

  adds_always : {i j : ℕ} {s t : State} {m k : Memory F} {r : Refusal} → i < j → j < 24 → j < s.vertices → s.joins (min i j) (max i j) ≡ false
      → Step o l (add_edge i j) s m (done {A = ℕ} (Err r)) t k → ⊥
  adds_always {i} {j} {s} {m = m} {r = r} a b c d (refuses f) = not_grounds o l i j s m r a b c d f
  adds_always a b c d (answers e x) = elim x [ ]

  module _ {family : Family} where
    pub opens_vertex : {n v e : ℕ} {s t : State} {m k : Memory F} → Reaches family n v 0 s → Step o l open_vertex s m (opened (Ok e)) t k → Reaches family (n + 1) v 0 t
    opens_vertex {n} {v} p step = subst (Reaches family (n + 1) v 0) (sym (opens_next step)) (opens_here p)

    pub accepts : {n v k : ℕ} {s t : State} {m j : Memory F} {r : Refusal} → Reaches family n v k s → k < v → v < n → v < 24 → Step o l (add_edge k v) s m (done {A = ℕ} (Err r)) t j → ⊥
    accepts {n} {v} {k} {s} p h w few step =
        adds_always h few (omega (arith, p.vertices))
        (ap (λ (x : ℕ). s.joins x (max k v)) (min-eq_left (omega arith)) ∙ ap (s.joins k) (max-eq_right (omega arith)) ∙ p.others k v h (inr (refl, omega arith)))
        step

    pub enters : {n v k : ℕ} {s t : State} {m j : Memory F} → Reaches family n v k s → k < v → joins_of family k v ≡ true → Step o l (add_edge k v) s m (done {A = ℕ} (Ok 0)) t j → Reaches family n v (k + 1) t
    enters {n} {v} {k} {s} p h some step =
        let e = adds_next step ∙ ap (λ (x : ℕ). with_edge s x (max k v)) (min-eq_left (omega arith)) ∙ ap (with_edge s k) (max-eq_right (omega arith)) in
        subst (Reaches family n v (k + 1)) (sym e) (enters_here p some)
