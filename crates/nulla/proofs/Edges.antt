-- The steps of opening a vertex, and of adding, removing and trying an edge, from what the graph's calls promise. Assumes nothing.
use Rattle.std.proofs.Common.{◌≡◌, ℕ, ◌+◌, ◌<◌, ◌≤◌, min, max, Bool, true, false, cond, ◌⊎◌, List, ◌++◌, length, sym, refl, ap, ◌∙◌, subst, inl, inr, arith, ltb-false, ltb-true, nat_lt, Option, Some, None, Result, Err, Ok}
use Rattle.std.specs.Option.{ok_or}
use Rattle.fields.specs.Field.{Ops}
use Rattle.graphs.specs.declared.graph.Graph.{Graph}
use Rattle.graphs.specs.Graph.{joined, Opened, Marked}
use Rattle.nulla.specs.Requests.{open_vertex, add_edge, remove_edge, try_edge}
use Rattle.certificates.specs.declared.refusal.Refusal.{Refusal}
use Rattle.certificates.specs.declared.refusal.Refusal.TheVariants.{OutOfRange, NoVertexLeft, AlreadyJoined, NotJoined}
use Rattle.certificates.specs.declared.verdict.Verdict.{Verdict}
use Rattle.nulla.specs.declared.reply.Answer.TheVariants.{Done}
use Rattle.nulla.specs.declared.reply.Answer.TheVariants.{Opened as Numbered}
use Rattle.certificates.specs.Verdicts.{infeasible}
use Rattle.nulla.specs.declared.solver.Solver.{Solver}
use Rattle.nulla.specs.Standing.{reached, Kept}
use Rattle.nulla.specs.State.{State, state}
use Rattle.certificates.specs.Outcome.{Memory, Worked}
use Rattle.certificates.specs.Grounds.{Ground, First, Clear, limit, room, Works}
use Rattle.nulla.specs.Replies.{told, said}
use Rattle.nulla.specs.Steps.{Lists, ends, ends_at, standing, lacking, joined_too, Step, refuses, answers, opens, adds, removes, tries}
use Rattle.certificates.proofs.Grounds.{first_front, first_back, clear_both}
use Rattle.nulla.proofs.States.{differ, same_state, marked_pairs, step_as}

-- what a number that is told under a test says of the test
none_told : (t : Bool) (v : ℕ) → None ≡ cond t (Some v) None → t ≡ false
none_told true v e = cc
none_told false v e = refl

some_told : (t : Bool) (v n : ℕ) → Some n ≡ cond t (Some v) None → (t ≡ true) × (n ≡ v)
some_told true v n e = (refl, cc)
some_told false v n e = cc

module _ {E F : Type 0} (o : Ops F) (lists : E → Lists F) (s : Solver E) where
  -- the equations, the graph, the degree reached and the word of the solver
  abbrev l : Lists F
  l = lists s.encoding

  abbrev g : Graph
  g = s.graph

  abbrev d : ℕ
  d = reached s.standing

  abbrev b : Bool
  b = infeasible s.standing

  abbrev here : State
  here = state g.vertices (joined g) d b

  pub opening_refused : (h : Graph) (a : Option ℕ) (r : Refusal) → ok_or a NoVertexLeft ≡ Err r → Opened g a h → (m : Memory F)
      → Step o l open_vertex here m (Err r) (state h.vertices (joined h) d b) m
  opening_refused h (Some n) r x p m = cc
  opening_refused h None r x p m =
      let e : nat_lt g.vertices 24 ≡ false = none_told (nat_lt g.vertices 24) g.vertices p.told in
      let same : NoVertexLeft ≡ r = cc in
      step_as (refuses (inl (ltb-false g.vertices 24 e, refl))) (ap (λ (k : Refusal). Err k) same)
      (same_state (sym (p.vertices ∙ ap (λ (t : Bool). cond t (g.vertices + 1) g.vertices) e)) (λ i j. sym (p.pairs i j)) refl refl)

  pub opening : (h : Graph) (w : Verdict) (a : Option ℕ) (n : ℕ) → ok_or a NoVertexLeft ≡ Ok n → Opened g a h → Kept s.standing w → (m : Memory F) → Step o l open_vertex here m (Ok (Numbered n)) (state h.vertices (joined h) (reached w) (infeasible w)) m
  opening h w None n x p k m = cc
  opening h w (Some v) n x p k m =
      let t = some_told (nat_lt g.vertices 24) g.vertices v p.told in
      let few : g.vertices < 24 = ltb-true g.vertices 24 t.0 in
      step_as (answers ((λ full. omega arith), tt) opens) (let e : v ≡ n = cc in ap (λ (i : ℕ). Ok (Numbered i)) (sym t.1 ∙ e))
      (same_state (sym (p.vertices ∙ ap (λ (t : Bool). cond t (g.vertices + 1) g.vertices) t.0)) (λ i j. sym (p.pairs i j)) (sym k.degree) (sym k.word))

  module _ (i j : ℕ) where
    pub adding_refused : (r : Refusal) → First (ends i j here) r → (m : Memory F) → Step o l (add_edge i j) here m (Err r) here m
    adding_refused r f m = refuses (first_front (ends i j here) (standing i j here) r f)

    pub removing_refused : (r : Refusal) → First (ends i j here) r → (m : Memory F) → Step o l (remove_edge i j) here m (Err r) here m
    removing_refused r f m = refuses (first_front (ends i j here) (lacking i j here) r f)

    -- what a trial is refused on beside its ends and its degree
    abbrev room_too : ℕ → Memory F → List Ground
    room_too degree m = room (length (l g.vertices (joined_too here i j))) g.vertices degree (length m.table) (length m.certificate)

    abbrev later : ℕ → Memory F → List Ground
    later degree m = standing i j here ++ room_too degree m

    pub try_unranged : (degree : ℕ) → (degree < 1) ⊎ ((1 ≤ degree) × (48 < degree)) → (m : Memory F) → Step o l (try_edge i j degree) here m (Err OutOfRange) here m
    try_unranged degree (inl x) m = refuses (inl (inr (inr (inl x)), refl))
    try_unranged degree (inr x) m = refuses (inl (inr (inr (inr x.1)), refl))

    -- at a degree from 1 to 48 the ends of a trial are refused as those of any edge
    module _ (degree : ℕ) (low : 1 ≤ degree) (high : degree ≤ 48) where
      wider : (23 < i) ⊎ (23 < j) → (23 < i) ⊎ (23 < j) ⊎ (degree < 1) ⊎ (48 < degree)
      wider (inl x) = inl x
      wider (inr x) = inr (inl x)

      in_range : ((23 < i) ⊎ (23 < j) → ⊥) → (23 < i) ⊎ (23 < j) ⊎ (degree < 1) ⊎ (48 < degree) → ⊥
      in_range h (inl x) = h (inl x)
      in_range h (inr (inl x)) = h (inr x)
      in_range h (inr (inr (inl x))) = omega arith
      in_range h (inr (inr (inr x))) = omega arith

      clear_at : Clear (ends i j here) → Clear (ends_at i j degree here)
      clear_at c = (in_range c.0, c.1)

      first_at : (r : Refusal) → First (ends i j here) r → First (ends_at i j degree here) r
      first_at r (inl x) = inl (wider x.0, x.1)
      first_at r (inr x) = inr (in_range x.0, x.1)

      pub try_refused : (r : Refusal) → First (ends i j here) r → (m : Memory F) → Step o l (try_edge i j degree) here m (Err r) here m
      try_refused r f m = refuses (first_front (ends_at i j degree here) (later degree m) r (first_at r f))

    module _ (lower higher : ℕ) (p : lower ≡ min i j) (q : higher ≡ max i j) (clear : Clear (ends i j here)) where
      stands : {v : Bool} → joined g lower higher ≡ v → joined g (min i j) (max i j) ≡ v
      stands e = ap (λ (x : ℕ). joined g x (max i j)) (sym p) ∙ ap (joined g lower) (sym q) ∙ e

      marked : {v : Bool} {h : Graph} → Marked g lower higher v h → Marked g (min i j) (max i j) v h
      marked {v} {h} r = subst (λ (x : ℕ). Marked g (min i j) x v h) q (subst (λ (x : ℕ). Marked g x higher v h) p r)

      pub already : joined g lower higher ≡ true → (m : Memory F) → Step o l (add_edge i j) here m (Err AlreadyJoined) here m
      already e m = refuses (first_back (ends i j here) (standing i j here) AlreadyJoined clear (inl (stands e, refl)))

      pub adding : (h : Graph) (w : Verdict) → joined g lower higher ≡ false → Marked g lower higher true h → Kept s.standing w → (m : Memory F) → Step o l (add_edge i j) here m (Ok Done) (state h.vertices (joined h) (reached w) (infeasible w)) m
      adding h w free r k m =
          let t = marked r in
          step_as (answers (clear_both (ends i j here) (standing i j here) clear ((λ e. differ (sym e ∙ stands free)), tt)) adds) refl
          (same_state (sym t.vertices) (λ x y. sym (marked_pairs g h (min i j) (max i j) true t x y)) (sym k.degree) (sym k.word))

      pub missing : joined g lower higher ≡ false → (m : Memory F) → Step o l (remove_edge i j) here m (Err NotJoined) here m
      missing e m = refuses (first_back (ends i j here) (lacking i j here) NotJoined clear (inl (stands e, refl)))

      pub removing : (h : Graph) → joined g lower higher ≡ true → Marked g lower higher false h → (m : Memory F) → Step o l (remove_edge i j) here m (Ok Done) (state h.vertices (joined h) 0 false) m
      removing h there r m =
          let t = marked r in
          step_as (answers (clear_both (ends i j here) (lacking i j here) clear ((λ e. differ (sym (stands there) ∙ e)), tt)) removes) refl
          (same_state (sym t.vertices) (λ x y. sym (marked_pairs g h (min i j) (max i j) false t x y)) refl refl)

      -- an edge on trial at a degree from 1 to 48
      module _ (degree : ℕ) (low : 1 ≤ degree) (high : degree ≤ 48) where
        pub try_already : joined g lower higher ≡ true → (m : Memory F) → Step o l (try_edge i j degree) here m (Err AlreadyJoined) here m
        try_already e m =
            refuses (first_back (ends_at i j degree here) (later degree m) AlreadyJoined (clear_at degree low high clear) (first_front (standing i j here) (room_too degree m) AlreadyJoined (inl (stands e, refl))))

        module _ (h : Graph) (r : Marked g lower higher true h) (m : Memory F) where
          -- the pairs of the graph with the edge
          with_edge_pairs : joined h ≡ joined_too here i j
          with_edge_pairs t x y = marked_pairs g h (min i j) (max i j) true (marked r) x y t

          -- what holds of the graph with the edge holds of its vertices and pairs
          there : (P : ℕ → (ℕ → ℕ → Bool) → Type 0) → P h.vertices (joined h) → P g.vertices (joined_too here i j)
          there P x = subst (λ (f : ℕ → ℕ → Bool). P g.vertices f) with_edge_pairs (subst (λ (n : ℕ). P n (joined h)) r.vertices x)

          -- what working the degree is refused on, and is not
          abbrev next : ℕ → (ℕ → ℕ → Bool) → List Ground
          next n f = limit degree ++ room (length (l n f)) n degree (length m.table) (length m.certificate)

          try_unworked : (a : Refusal) (k : Memory F) → joined g lower higher ≡ false → First (next h.vertices (joined h)) a → k ≡ m → Step o l (try_edge i j degree) here m (Err a) here k
          try_unworked a k free x q =
              let f = there (λ n f. First (next n f) a) x in
              subst (λ (z : Memory F). Step o l (try_edge i j degree) here m (Err a) here z) (sym q)
              (refuses (first_back (ends_at i j degree here) (later degree m) a (clear_at degree low high clear) (inr ((λ t. differ (sym t ∙ stands free)), within f))))
            where
              within : First (next g.vertices (joined_too here i j)) a → First (room_too degree m) a
              within (inl y) = absurd (omega (arith, y.0, high))
              within (inr y) = y.1

          try_worked : (v : Verdict) (k : Memory F) → joined g lower higher ≡ false → Clear (next h.vertices (joined h)) → Worked o h.vertices degree (l h.vertices (joined h)) m v k → Step o l (try_edge i j degree) here m (told v) here k
          try_worked v k free x w =
              answers (clear_both (ends_at i j degree here) (later degree m) (clear_at degree low high clear) ((λ t. differ (sym t ∙ stands free)), (there (λ n f. Clear (next n f)) x).1)) (tries (there (λ n f. Worked o n degree (l n f) m v k) w))

          pub try_works : (x : Result Verdict Refusal) (k : Memory F) → joined g lower higher ≡ false → Works o h.vertices degree (l h.vertices (joined h)) m x k → Step o l (try_edge i j degree) here m (said x) here k
          try_works (Ok v) k free w = try_worked v k free w.0 w.1
          try_works (Err a) k free w = try_unworked a k free w.0 w.1
