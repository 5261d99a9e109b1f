-- Calls made one after the other in the same memory are a run. Assumes nothing.
use Rattle.std.proofs.Common.{◌≡◌, ℕ, suc, ◌+◌, ◌<◌, List, [], ◌∷◌, ◌++◌, map, length, get_or, take, set, sym, refl, ap, ◌∙◌, subst, arith}
use Rattle.std.proofs.lemmas.List.{map_more, take_more_set}
use Rattle.fields.specs.Field.{Ops}
use Rattle.certificates.specs.Outcome.{Memory}
use Rattle.nulla.specs.Replies.{Reply}
use Rattle.nulla.specs.Replays.{lending, last, Replayed}
use Rattle.nulla.specs.Requests.{Request}
use Rattle.nulla.specs.Runs.{Answered, Runs, done, next}
use Rattle.nulla.specs.State.{State}
use Rattle.nulla.specs.Steps.{Lists, Step}

module _ {F : Type 0} (o : Ops F) (l : Lists F) where
  -- each call from the state and the memory that the one before it left
  pub data Makes : List Request → State → Memory F → List Reply → State → Memory F → Type 0 where
    none : {s : State} {m : Memory F} → Makes [] s m [] s m
    more : {q : Request} {qs : List Request} {s u t : State} {m j k : Memory F} {a : Reply} {bs : List Reply} → Step o l q s m a u j → Makes qs u j bs t k → Makes (q ∷ qs) s m (a ∷ bs) t k

  makes_then : {q : Request} {qs : List Request} {s u t : State} {m j k : Memory F} {a : Reply} {bs : List Reply} → Makes qs s m bs u j → Step o l q u j a t k → Makes (qs ++ q ∷ []) s m (bs ++ a ∷ []) t k
  makes_then none step = more step none
  makes_then (more first rest) step = more first (makes_then rest step)

  -- the calls from place k on, when the reply is written at its place
  pub makes_next : {A : Type 0} (f : A → Request) (calls : List A) (d : A) (replies : List Reply) (k : ℕ) {s u t : State} {m j p : Memory F} {a : Reply} → k < length calls → k < length replies
      → Makes (map f (take k calls)) s m (take k replies) u j → Step o l (f (get_or calls k d)) u j a t p → Makes (map f (take (k + 1) calls)) s m (take (k + 1) (set replies k a)) t p
  makes_next f calls d replies k {s} {u} {t} {m} {j} {p} {a} inside room made step =
      subst (λ (qs : List Request). Makes qs s m (take (k + 1) (set replies k a)) t p) (sym (map_more f calls k d inside))
      (subst (λ (bs : List Reply). Makes (map f (take k calls) ++ f (get_or calls k d) ∷ []) s m bs t p) (sym (take_more_set replies k a room)) (makes_then made step))

  -- the same, on a solver whose encoding is the one that it had
  pub makes_next_by : {A E : Type 0} (lists : E → Lists F) (e e' : E) → lists e ≡ l → e' ≡ e → (f : A → Request) (calls : List A) (d : A) (replies : List Reply) (k : ℕ) {s u t : State} {m j p : Memory F} {a : Reply} → k < length calls → k < length replies
      → Makes (map f (take k calls)) s m (take k replies) u j → Step o (lists e') (f (get_or calls k d)) u j a t p → Makes (map f (take (k + 1) calls)) s m (take (k + 1) (set replies k a)) t p
  makes_next_by lists e e' is same f calls d replies k {s} {u} {t} {m} {j} {p} {a} inside room made step =
      makes_next f calls d replies k inside room made (subst (λ (i : Lists F). Step o i (f (get_or calls k d)) u j a t p) (ap lists same ∙ is) step)

  pub replayed : {qs : List Request} {s t : State} {m k : Memory F} {bs : List Reply} → Makes qs s m bs t k → Replayed o l qs s m bs t k
  replayed none = record { answered = []; each = refl; ran = done; replied = refl; left = refl }
  replayed (more {j = j} {a = a} step rest) =
      let r = replayed rest in
      record { answered = record { reply = a; left = j } ∷ r.answered; each = ap suc r.each; ran = next step r.ran; replied = ap (λ (bs : List Reply). a ∷ bs) r.replied; left = r.left }

-- a run of the calls in one memory makes them
module _ {F : Type 0} (o : Ops F) (l : Lists F) where
  runs_make : (qs : List Request) (gs : List (Answered F)) {s t : State} {m : Memory F} → length gs ≡ length qs → Runs o l (lending qs m gs) s gs t → Makes o l qs s m (map (λ a. a.reply) gs) t (last m gs)
  runs_make [] [] e done = none
  runs_make [] (a ∷ gs) e h = absurd (omega (arith, e))
  runs_make (q ∷ qs) [] e h = absurd (omega (arith, e))
  runs_make (q ∷ qs) (a ∷ gs) e (next step rest) = more step (runs_make qs gs (omega (arith, e)) rest)

  pub replayed_makes : {qs : List Request} {s t : State} {m k : Memory F} {bs : List Reply} → Replayed o l qs s m bs t k → Makes o l qs s m bs t k
  replayed_makes {qs} {s} {t} {m} {k} {bs} r =
      subst (λ (z : Memory F). Makes o l qs s m bs t z) r.left (subst (λ (z : List Reply). Makes o l qs s m z t (last m r.answered)) r.replied (runs_make qs r.answered r.each r.ran))
