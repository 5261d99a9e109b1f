-- The reply to a line, put together from what the line hands over or says. Assumes nothing.
use Rattle.std.proofs.Common.{◌≡◌, ℕ, ◌*◌, ◌/◌, ◌<◌, ◌≤◌, List, ◌++◌, length, take, drop, Err, sym, ap, subst, arith}
use Rattle.std.proofs.lemmas.List.{take_at}
use Rattle.fields.specs.Field.{Ops}
use Rattle.certificates.specs.Outcome.{Memory}
use Rattle.certificates.specs.declared.refusal.Refusal.TheVariants.{OutputTooSmall}
use Rattle.nulla.specs.Replies.{Reply}
use Rattle.nulla.specs.Requests.{Request, check_certificate, IsCheck}
use Rattle.nulla.specs.State.{State}
use Rattle.nulla.specs.Steps.{Lists, Step}
use Rattle.plan.specs.Texts.{Turn, says}
use Rattle.calling.specs.Digits.{Writes}
use Rattle.calling.specs.Script.{HandsDigits, Asks, planned, tries, checks, Unchecked, Fits, Replied, turned, too_long, Holds, decoded, left}
use Rattle.calling.proofs.Reading.{pairs, pairs_written}
use Rattle.calling.proofs.Asking.{unspelled, hands, hands_long, handed_asks}

-- how many bytes a line hands over
handed_long : {line digits bytes : List ℕ} → HandsDigits line digits → Asks line (check_certificate bytes) → length bytes ≡ length digits / 2
handed_long h asks = omega (arith, hands_long (hands asks), ap length h.is)

-- a line that hands over digits asks for a check
pub handed_some : {line digits : List ℕ} → HandsDigits line digits → (bytes : List ℕ) × Asks line (check_certificate bytes)
handed_some {digits = digits} h = (pairs digits, handed_asks (pairs digits) h (pairs_written digits h.even h.each))

-- the digits, decoded at the front of the memory
module _ {line digits : List ℕ} (given bytes : List ℕ) (h : HandsDigits line digits) (w : Writes digits bytes) (room : length digits / 2 ≤ length given) where
  count : length digits / 2 ≡ length bytes
  count = omega (arith, w.twice)

  front : take (length digits / 2) (bytes ++ drop (length digits / 2) given) ≡ bytes
  front = take_at bytes (drop (length digits / 2) given) (length digits / 2) (sym count)

  fits : Fits line (length given)
  fits other asks = omega (arith, handed_long h asks)

  pub checked_turn : {F : Type 0} {o : Ops F} {l : Lists F} {s t : State} {m k : Memory F} {r : Reply} → Step o l (check_certificate (take (length digits / 2) (bytes ++ drop (length digits / 2) given))) s m r t k → Replied o l line (length given) s m r t k
  checked_turn {o = o} {l = l} {s = s} {t = t} {m = m} {k = k} {r = r} step =
      turned fits (says (handed_asks bytes h w) (subst (λ b. Step o l (check_certificate b) s m r t k) front step))

  pub checked_holds : Holds line given (bytes ++ drop (length digits / 2) given)
  checked_holds =
      subst (λ n. Holds line given (bytes ++ drop n given)) (sym count) (decoded (handed_asks bytes h w) (omega (arith, w.twice)))

-- the memory is too short for them
pub refused_turn : {F : Type 0} {o : Ops F} {l : Lists F} {line digits : List ℕ} {s : State} {m : Memory F} (given : List ℕ) → HandsDigits line digits → length given < length digits / 2 → Replied o l line (length given) s m (Err OutputTooSmall) s m
refused_turn given h short = too_long (handed_some h).1 (omega (arith, handed_long h (handed_some h).1))

pub refused_holds : {line digits : List ℕ} (given : List ℕ) → HandsDigits line digits → length given < length digits / 2 → Holds line given given
refused_holds given h short = left (λ bytes asks. omega (arith, handed_long h asks))

-- a line that asks for no check
pub unchecked_fits : {line : List ℕ} (most : ℕ) → Unchecked line → Fits line most
unchecked_fits most none bytes asks = absurd (none bytes asks)

pub unchecked_holds : {line : List ℕ} (given : List ℕ) → Unchecked line → Holds line given given
unchecked_holds given none = left (λ bytes asks. absurd (none bytes asks))

-- and that says no other call says nothing
pub unchecked_unsaid : {line : List ℕ} → Unchecked line → ((q : Request) → Asks line q → IsCheck q) → (q : Request) → Asks line q → ⊥
unchecked_unsaid none others q (planned s) = unspelled s (others q (planned s))
unchecked_unsaid none others _ (tries n) = others _ (tries n)
unchecked_unsaid none others _ (checks {bytes = bytes} h) = none bytes (checks h)

-- where the memory is half as long as the line, the reply is the line's turn
pub replied_turn : {F : Type 0} {o : Ops F} {l : Lists F} {line : List ℕ} {most : ℕ} {s t : State} {m k : Memory F} {r : Reply} → length line ≤ 2 * most → Replied o l line most s m r t k → Turn Asks o l line s m r t k
replied_turn room (turned fits turn) = turn
replied_turn room (too_long asks long) = absurd (omega (arith, hands_long (hands asks)))
