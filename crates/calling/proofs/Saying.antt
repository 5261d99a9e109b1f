-- The text for a line, put together. Assumes nothing.
use Rattle.std.proofs.Common.{◌≡◌, ℕ, List, sym, subst}
use Rattle.nulla.specs.Replies.{Reply}
use Rattle.nulla.specs.Requests.{check_certificate}
use Rattle.calling.specs.Script.{Asks}
use Rattle.calling.specs.Text.{checked_of, Text, check}

-- a check's text
pub in_check : (line : List ℕ) (r q : Reply) (bits four text : List ℕ) → (bytes : List ℕ) → Asks line (check_certificate bytes) → text ≡ checked_of r q → Text line r q bits four text
in_check line r q bits four text bytes asks is = subst (Text line r q bits four) (sym is) (check asks)
