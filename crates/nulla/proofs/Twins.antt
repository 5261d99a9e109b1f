-- Two solvers over two fields that get the same calls answer alike. Assumes nothing.
use Rattle.std.proofs.Common.{◌≡◌, ℕ, zero, suc, ◌*◌, ◌/◌, ◌%◌, ◌<◌, ◌≤◌, Bool, List, ◌∷◌, ◌++◌, length, get_or, drop, sym, refl, ap, ◌∙◌, subst, arith, Err}
use lib.ListN.{length-map}
use Rattle.std.proofs.lemmas.List.{get_or_append_left}
use Rattle.fields.specs.Field.{Ops, Laws}
use Rattle.coloring.specs.Encoding.{Bounded}
use Rattle.polynomials.specs.declared.term.Term.{Term}
use Rattle.polynomials.specs.Image.{SameOnes}
use Rattle.polynomials.specs.Monomial.{Formed, count}
use Rattle.polynomials.specs.Product.{products}
use Rattle.polynomials.proofs.Certificates.{products_suffice}
use Rattle.polynomials.proofs.Independence.{certificates_agree}
use Rattle.nulla.specs.Requests.{Request, open_vertex, add_edge, remove_edge, raise_degree, try_edge, check_certificate, SameRequest, same as one-request, checks, IsCheck}
use Rattle.certificates.specs.declared.verdict.Verdict.{Verdict}
use Rattle.certificates.specs.declared.verdict.Verdict.TheVariants.{Infeasible}
use Rattle.layout.specs.Certificate.{map_of, codes_of}
use Rattle.certificates.specs.Outcome.{Memory, Chosen, Worked, certified, uncertified, written}
use Rattle.certificates.specs.Verdicts.{infeasible}
use Rattle.nulla.specs.Replies.{told, Reply}
use Rattle.nulla.specs.State.{State, raised}
use Rattle.certificates.specs.Grounds.{First, Clear, room}
use Rattle.nulla.specs.Steps.{Lists, ends_at, standing, raising, joined_too, grounds, Answers, opens, adds, removes, works, tries, passes, fails, Step, refuses, answers}
use Rattle.nulla.specs.Runs.{Asked, Answered, Runs, done, next, SameCalls, SameBytes, SameAnswers, no_more, one_more, TwoSolvers}
use Rattle.certificates.proofs.Deciding.{formed}
use Rattle.certificates.proofs.Grounds.{first_one, not_both}
use Rattle.certificates.proofs.Once.{tail_same}
use Rattle.nulla.proofs.Once.{step_few}

-- bytes that agree but for the second
but_second : (a b c : ℕ) (xs ys : List ℕ) → xs ≡ ys → (i : ℕ) → (i ≡ 1 → ⊥) → get_or (a ∷ b ∷ xs) i 0 ≡ get_or (a ∷ c ∷ ys) i 0
but_second a b c xs ys e zero n = refl
but_second a b c xs ys e (suc zero) n = absurd (n refl)
but_second a b c xs ys e (suc (suc i)) n = ap (λ (zs : List ℕ). get_or zs i 0) e

module _ {F G : Type 0} {o : Ops F} {p : Ops G} (first : Laws o) (second : Laws p) where
  same_length : (eqs : List (List (Term F))) (others : List (List (Term G))) → SameOnes o p eqs others → length eqs ≡ length others
  same_length eqs others s = sym (length-map eqs _) ∙ ap length s.exponents ∙ length-map others _

  module _ (n d : ℕ) (eqs : List (List (Term F))) (others : List (List (Term G))) (few : n ≤ 24) (ok : Formed n eqs) (ok' : Formed n others) (same : SameOnes o p eqs others) where
    many : length eqs ≡ length others
    many = same_length eqs others same

    -- what follows the order in the two certificates
    rest_same : (x : ℕ → F) (y : ℕ → G) → Chosen o n d eqs x → Chosen p n d others y
        → n ∷ d ∷ length eqs / 256 ∷ length eqs % 256 ∷ (map_of o (products n d eqs) x ++ codes_of o (products n d eqs) x) ≡ n ∷ d ∷ length others / 256 ∷ length others % 256 ∷ (map_of p (products n d others) y ++ codes_of p (products n d others) y)
    rest_same x y c e =
        ap (λ (zs : List ℕ). n ∷ d ∷ length eqs / 256 ∷ length eqs % 256 ∷ zs)
        (tail_same o p (products n d eqs) x y ((certificates_agree first second).codes n d eqs others x y ok ok' same c.sums c.independent e.sums e.independent))
        ∙ ap (λ (k : ℕ). n ∷ d ∷ k / 256 ∷ k % 256 ∷ (map_of p (k * count n d) y ++ codes_of p (k * count n d) y)) many

    lengths_same : (x : ℕ → F) (y : ℕ → G) → Chosen o n d eqs x → Chosen p n d others y → length (written o n d eqs x) ≡ length (written p n d others y)
    lengths_same x y c e = ap (λ (zs : List ℕ). suc (suc (length zs))) (rest_same x y c e)

    worked_alike : {m k : Memory F} {m' k' : Memory G} {v w : Verdict} → Worked o n d eqs m v k → Worked p n d others m' w k' → (v ≡ w) × SameBytes (told v) k.certificate k'.certificate
    worked_alike {m} {m' = m'} (certified x c) (certified y e) = (
      ap (Infeasible d) (lengths_same x y c e),
      λ i h ne.
          get_or_append_left (written o n d eqs x) (drop (length (written o n d eqs x)) m.certificate) 0 i h
          ∙ but_second 1 o.size p.size _ _ (rest_same x y c e) i ne
          ∙ sym (get_or_append_left (written p n d others y) (drop (length (written p n d others y)) m'.certificate) 0 i (subst (λ (k : ℕ). i < k) (lengths_same x y c e) h)),
    )
    worked_alike (certified x c) (uncertified h) = absurd (h ((certificates_agree first second).certified n d eqs others ok ok' same ((products_suffice first).back n d eqs x few c.sums)))
    worked_alike (uncertified h) (certified y e) = absurd (h ((certificates_agree second first).certified n d others eqs ok' ok (record { exponents = sym same.exponents; first = same.second; second = same.first }) ((products_suffice second).back n d others y few e.sums)))
    worked_alike (uncertified h) (uncertified k) = (refl, tt)

  module _ (l : Lists F) (k : Lists G) (a-most b-most : ℕ) (bounded : Bounded o l a-most) (bounded' : Bounded p k b-most) (same : (n : ℕ) (f : ℕ → ℕ → Bool) → SameOnes o p (l n f) (k n f)) where
    same_many : (n : ℕ) (f : ℕ → ℕ → Bool) → length (l n f) ≡ length (k n f)
    same_many n f = same_length (l n f) (k n f) (same n f)

    -- the grounds but for those of a check depend on the number of equations and the sizes of memory
    same_grounds : (q : Request) (s : State) (m : Memory F) (m' : Memory G) → (IsCheck q → ⊥) → length m.table ≡ length m'.table → length m.certificate ≡ length m'.certificate → grounds o l q s m ≡ grounds p k q s m'
    same_grounds open_vertex s m m' c q r = refl
    same_grounds (add_edge i j) s m m' c q r = refl
    same_grounds (remove_edge i j) s m m' c q r = refl
    same_grounds raise_degree s m m' c q r =
        ap (λ (e : ℕ). raising s e (length m.table) (length m.certificate)) (same_many s.vertices s.joins)
        ∙ ap (λ (t : ℕ). raising s (length (k s.vertices s.joins)) t (length m.certificate)) q
        ∙ ap (raising s (length (k s.vertices s.joins)) (length m'.table)) r
    same_grounds (try_edge i j d) s m m' c q r =
        let f = joined_too s i j in
        let rest = λ (e t b : ℕ). ends_at i j d s ++ (standing i j s ++ room e s.vertices d t b) in
        ap (λ (e : ℕ). rest e (length m.table) (length m.certificate)) (same_many s.vertices f)
        ∙ ap (λ (t : ℕ). rest (length (k s.vertices f)) t (length m.certificate)) q
        ∙ ap (rest (length (k s.vertices f)) (length m'.table)) r
    same_grounds (check_certificate bytes) s m m' c q r = absurd (c tt)

    worked_both : {n d : ℕ} {f : ℕ → ℕ → Bool} {m j : Memory F} {m' j' : Memory G} {v w : Verdict} → n ≤ 24 → Worked o n d (l n f) m v j → Worked p n d (k n f) m' w j' → (v ≡ w) × SameBytes (told v) j.certificate j'.certificate
    worked_both {n} {d} {f} few v w = worked_alike n d (l n f) (k n f) few (formed o l a-most n f bounded few) (formed p k b-most n f bounded' few) (same n f) v w

    answers_alike : {q : Request} {s t u : State} {m j : Memory F} {m' j' : Memory G} {a b : Reply} → s.vertices ≤ 24 → (IsCheck q → ⊥) → Answers o l q s m a t j → Answers p k q s m' b u j'
        → (t ≡ u) × (a ≡ b) × SameBytes a j.certificate j'.certificate
    answers_alike few c opens opens = (refl, refl, tt)
    answers_alike few c adds adds = (refl, refl, tt)
    answers_alike few c removes removes = (refl, refl, tt)
    answers_alike {s = s} few c (works v) (works w) =
        let e = worked_both few v w in
        (ap (λ (z : Verdict). raised s (infeasible z)) e.0, ap told e.0, e.1)
    answers_alike few c (tries v) (tries w) =
        let e = worked_both few v w in
        (refl, ap told e.0, e.1)
    answers_alike few c (passes h) g = absurd (c tt)
    answers_alike few c (fails h) g = absurd (c tt)

    step_alike : {q : Request} {s t u : State} {m j : Memory F} {m' j' : Memory G} {a b : Reply} → s.vertices ≤ 24 → (IsCheck q → ⊥) → length m.table ≡ length m'.table → length m.certificate ≡ length m'.certificate
        → Step o l q s m a t j → Step p k q s m' b u j' → (t ≡ u) × (a ≡ b) × SameBytes a j.certificate j'.certificate
    step_alike {q} {s} {m = m} {m' = m'} few c e r (refuses {r = x} f) (refuses {r = y} g) =
        (refl, ap Err (first_one (grounds p k q s m') x y (subst (λ gs. First gs x) (same_grounds q s m m' c e r) f) g), tt)
    step_alike {q} {s} {m = m} {m' = m'} few c e r (refuses {r = x} f) (answers d g) = absurd (not_both (grounds p k q s m') x (subst (λ gs. First gs x) (same_grounds q s m m' c e r) f) d)
    step_alike {q} {s} {m = m} {m' = m'} few c e r (answers d f) (refuses {r = y} g) = absurd (not_both (grounds p k q s m') y g (subst Clear (same_grounds q s m m' c e r) d))
    step_alike few c e r (answers d f) (answers h g) = answers_alike few c f g

    -- a check leaves the state, and writes no certificate
    checked : {H : Type 0} {h : Ops H} {i : Lists H} {bytes : List ℕ} {s t : State} {m j : Memory H} {a : Reply} → Step h i (check_certificate bytes) s m a t j → (t ≡ s) × ((xs ys : List ℕ) → SameBytes a xs ys)
    checked (refuses f) = (refl, λ xs ys. tt)
    checked (answers c (passes f)) = (refl, λ xs ys. tt)
    checked (answers c (fails f)) = (refl, λ xs ys. tt)

    -- what two steps of one call come to
    abbrev Alike : Request → State → State → Reply → Reply → Memory F → Memory G → Type 0
    Alike q t u a b j j' = (t ≡ u) × ((IsCheck q → ⊥) → a ≡ b) × SameBytes a j.certificate j'.certificate

    checks_alike : {c d : List ℕ} {s t u : State} {m j : Memory F} {m' j' : Memory G} {a b : Reply} → Step o l (check_certificate c) s m a t j → Step p k (check_certificate d) s m' b u j' → Alike (check_certificate c) t u a b j j'
    checks_alike {j = j} {j' = j'} f g = ((checked f).0 ∙ sym (checked g).0, (λ n. absurd (n tt)), (checked f).1 j.certificate j'.certificate)

    same_alike : (q : Request) {s t u : State} {m j : Memory F} {m' j' : Memory G} {a b : Reply} → s.vertices ≤ 24 → length m.table ≡ length m'.table → length m.certificate ≡ length m'.certificate
        → Step o l q s m a t j → Step p k q s m' b u j' → Alike q t u a b j j'
    same_alike open_vertex few e r f g = let h = step_alike few (λ c. c) e r f g in (h.0, (λ n. h.1), h.2)
    same_alike (add_edge i j) few e r f g = let h = step_alike few (λ c. c) e r f g in (h.0, (λ n. h.1), h.2)
    same_alike (remove_edge i j) few e r f g = let h = step_alike few (λ c. c) e r f g in (h.0, (λ n. h.1), h.2)
    same_alike raise_degree few e r f g = let h = step_alike few (λ c. c) e r f g in (h.0, (λ n. h.1), h.2)
    same_alike (try_edge i j d) few e r f g = let h = step_alike few (λ c. c) e r f g in (h.0, (λ n. h.1), h.2)
    same_alike (check_certificate bytes) few e r f g = checks_alike f g

    call_alike : {q q' : Request} {s t u : State} {m j : Memory F} {m' j' : Memory G} {a b : Reply} → SameRequest q q' → s.vertices ≤ 24 → length m.table ≡ length m'.table → length m.certificate ≡ length m'.certificate
        → Step o l q s m a t j → Step p k q' s m' b u j' → Alike q t u a b j j'
    call_alike (one-request {q = q}) few e r f g = same_alike q few e r f g
    call_alike checks few e r f g = checks_alike f g

    runs_alike : {qs : List (Asked F)} {rs : List (Asked G)} {gs : List (Answered F)} {hs : List (Answered G)} {s t u : State} → s.vertices ≤ 24 → SameCalls qs rs → Runs o l qs s gs t → Runs p k rs s hs u → (t ≡ u) × SameAnswers qs gs hs
    runs_alike few c done done = (refl, no_more)
    runs_alike few c done (next step rest) = absurd c
    runs_alike few c (next step rest) done = absurd c
    runs_alike {u = u} few c (next step rest) (next {qs = rs} {gs = hs} step' rest') =
        let e = call_alike c.0.call few c.0.table c.0.certificate step step' in
        let back = subst (λ (z : State). Runs p k rs z hs u) (sym e.0) rest' in
        let more = runs_alike (step_few few step) c.1 rest back in
        (more.0, one_more (record { reply = e.1; bytes = e.2 }) more.1)

pub two_solvers : {F G : Type 0} {o : Ops F} {p : Ops G} → Laws o → Laws p → (l : Lists F) (k : Lists G) (most most' : ℕ) → Bounded o l most → Bounded p k most' → TwoSolvers o p l k
two_solvers first second l k most most' bounded bounded' same qs rs gs hs t u c h j = runs_alike first second l k most most' bounded bounded' same (omega arith) c h j
