-- The step of a check, from what checking a certificate comes to. Assumes nothing.
use Rattle.std.proofs.Common.{◌≡◌, ℕ, List, Ok, Err, Result, sym, subst, inl, inr, Err, Ok}
use Rattle.fields.specs.Field.{Ops}
use Rattle.certificates.specs.declared.refusal.Refusal.{Refusal}
use Rattle.certificates.specs.Checking.{Checks}
use Rattle.certificates.specs.Outcome.{memory}
use Rattle.nulla.specs.declared.reply.Answer.TheVariants.{Passed}
use Rattle.nulla.specs.Replies.{passed}
use Rattle.nulla.specs.Requests.{check_certificate}
use Rattle.nulla.specs.State.{State}
use Rattle.nulla.specs.Steps.{Lists, summed, Step, refuses, answers, passes, fails}

module _ {F : Type 0} (o : Ops F) (l : Lists F) (s : State) (bytes : List ℕ) (table : List F) (c : List ℕ) where
  -- a step, at another name for the table that it leaves
  left : {r : Refusal} {after other : List F} → after ≡ other → Step o l (check_certificate bytes) s (memory table c) (Err r) s (memory other c) → Step o l (check_certificate bytes) s (memory table c) (Err r) s (memory after c)
  left {r} e h = subst (λ (t : List F). Step o l (check_certificate bytes) s (memory table c) (Err r) s (memory t c)) (sym e) h

  pub checked : {A : Type 0} (r : Result A Refusal) (after : List F) → Checks o s.vertices (l s.vertices s.joins) bytes table r after → Step o l (check_certificate bytes) s (memory table c) (passed r) s (memory after c)
  checked (Ok a) after h =
      subst (λ (t : List F). Step o l (check_certificate bytes) s (memory table c) (Ok Passed) s (memory t c)) (sym h.2) (answers h.0 (passes h.1))
  checked (Err r) after (inl h) = left h.1 (refuses h.0)
  checked (Err r) after (inr h) =
      left h.3 (subst (λ (x : Refusal). Step o l (check_certificate bytes) s (memory table c) (Err x) s (summed o l bytes s (memory table c))) (sym h.2) (answers h.0 (fails h.1)))
