-- What a raise's verdict means. Assumes nothing.
use Rattle.std.proofs.Common.{◌≡◌, ℕ, ◌+◌, ◌≤◌, Bool, List, sym, refl, subst, arith, Err, Ok}
use Rattle.fields.specs.Field.{Ops, Laws}
use Rattle.coloring.specs.Encoding.{Lawful}
use Rattle.coloring.proofs.Certified.{no_coloring}
use Rattle.polynomials.specs.Certificate.{Certified}
use Rattle.polynomials.proofs.Certificates.{products_suffice}
use Rattle.nulla.specs.Requests.{raise_degree, try_edge, check_certificate}
use Rattle.certificates.specs.declared.refusal.Refusal.{Refusal}
use Rattle.nulla.specs.declared.reply.Answer.TheVariants.{Passed}
use Rattle.certificates.specs.declared.verdict.Verdict.{Verdict}
use Rattle.certificates.specs.Checking.{degree_of}
use Rattle.certificates.specs.Outcome.{Memory, Worked, certified, uncertified}
use Rattle.nulla.specs.Replies.{told, Reply}
use Rattle.nulla.specs.State.{State}
use Rattle.nulla.specs.Steps.{Lists, joined_too, Answers, works, tries, passes, fails, Step, refuses, answers}
use Rattle.nulla.specs.Theorems.{Meaning, VerdictsMean}
use Rattle.nulla.proofs.States.{differ}

module _ {F : Type 0} {o : Ops F} (laws : Laws o) (l : Lists F) (lawful : Lawful o l) where
  pub worked_means : {n d : ℕ} {f : ℕ → ℕ → Bool} {m k : Memory F} {v : Verdict} → n ≤ 24 → Worked o n d (l n f) m v k → Meaning o l n d f v
  worked_means {n} {d} {f} few (certified x c) =
      let some : Certified o n d (l n f) = (products_suffice laws).back n d (l n f) x few c.sums in
      record { certified = λ e. some; uncolorable = λ e. no_coloring laws l lawful n d f few some; uncertified = λ e. absurd (differ e) }
  worked_means few (uncertified h) = record { certified = λ e. absurd (differ (sym e)); uncolorable = λ e. absurd (differ (sym e)); uncertified = λ e. h }

  same_verdict : (w v : Verdict) → told w ≡ told v → w ≡ v
  same_verdict w v e = cc

  raised_means : {s t : State} {m k : Memory F} {a : Reply} (v : Verdict) → s.vertices ≤ 24 → a ≡ told v → Answers o l raise_degree s m a t k → Meaning o l s.vertices (s.degree + 1) s.joins v
  raised_means {s} v few e (works {v = w} h) = subst (Meaning o l s.vertices (s.degree + 1) s.joins) (same_verdict w v e) (worked_means few h)

  tried_means : {i j d : ℕ} {s t : State} {m k : Memory F} {a : Reply} (v : Verdict) → s.vertices ≤ 24 → a ≡ told v → Answers o l (try_edge i j d) s m a t k → Meaning o l s.vertices d (joined_too s i j) v
  tried_means {i} {j} {d} {s} v few e (tries {v = w} h) = subst (Meaning o l s.vertices d (joined_too s i j)) (same_verdict w v e) (worked_means few h)

  not_told : (r : Refusal) (v : Verdict) → Err r ≡ told v → ⊥
  not_told r v e = cc

  raise_means : {s t : State} {m k : Memory F} {a : Reply} (v : Verdict) → s.vertices ≤ 24 → a ≡ told v → Step o l raise_degree s m a t k → Meaning o l s.vertices (s.degree + 1) s.joins v
  raise_means v few e (refuses {r = r} f) = absurd (not_told r v e)
  raise_means v few e (answers c h) = raised_means v few e h

  try_means : {i j d : ℕ} {s t : State} {m k : Memory F} {a : Reply} (v : Verdict) → s.vertices ≤ 24 → a ≡ told v → Step o l (try_edge i j d) s m a t k → Meaning o l s.vertices d (joined_too s i j) v
  try_means v few e (refuses {r = r} f) = absurd (not_told r v e)
  try_means v few e (answers c h) = tried_means v few e h

  -- a certificate that passes is one
  pub passed_certified : {bytes : List ℕ} {s t : State} {m k : Memory F} {a : Reply} → s.vertices ≤ 24 → a ≡ Ok Passed → Step o l (check_certificate bytes) s m a t k → Certified o s.vertices (degree_of bytes) (l s.vertices s.joins)
  passed_certified few e (refuses {r = r} f) = let z : ◌≡◌ {A = ℕ} 0 1 = cc in absurd (omega arith)
  passed_certified {bytes} {s} few e (answers c (passes h)) = (products_suffice laws).back s.vertices (degree_of bytes) (l s.vertices s.joins) h.0 few h.2
  passed_certified few e (answers c (fails h)) = let z : ◌≡◌ {A = ℕ} 0 1 = cc in absurd (omega arith)

  pub verdicts_mean : VerdictsMean o l
  verdicts_mean = record {
    raises = λ s t m k v few h. raise_means v few refl h;
    trials = λ i j d s t m k v few h. try_means v few refl h;
    checks = λ bytes s t m k few h.
        let some = passed_certified few refl h in
        (some, no_coloring laws l lawful s.vertices (degree_of bytes) s.joins few some);
  }
