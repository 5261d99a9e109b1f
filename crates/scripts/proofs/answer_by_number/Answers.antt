use Rattle.std.proofs.Common.{◌≡◌, ◌≤◌, Err, sym, subst, arith, rules}
use Rattle.scripts.specs.declared.kind.Kind.{Kind}
use Rattle.scripts.specs.declared.kind.Kind.TheVariants.{Bits, BitsTriangles, Four, FourTriangles}
use Rattle.scripts.specs.declared.kind.Fault.TheVariants.{NoSuchKind}
use Rattle.scripts.specs.Entries.{RanAs, no_kind, too_long, no_room, too_large, ran}
use Rattle.scripts.specs.Kinds.{kind_number}
use Rattle.scripts.proofs.answer_by_number.Goals as goal

named : (kind : Kind) → kind_number kind ≤ 3
named Bits = omega arith
named BitsTriangles = omega arith
named Four = omega arith
named FourTriangles = omega arith

pub returns-in_err-kind : goal.returns-in_err-kind
returns-in_err-kind c =
    let ground : c.from_residual.result ≡ Err NoSuchKind = search rules in
    rw ground (no_kind c.in_err-kind.ensures.0)

pub returns-then-script-gt-LONGEST_SCRIPT : goal.returns-then-script-gt-LONGEST_SCRIPT
returns-then-script-gt-LONGEST_SCRIPT c =
    too_long (omega (arith, c.in_ok-kind.ensures, named c.in_ok-kind.kind)) c.if-script-gt-LONGEST_SCRIPT.true

pub returns-then-text-room : goal.returns-then-text-room
returns-then-text-room c =
    no_room (omega (arith, c.in_ok-kind.ensures, named c.in_ok-kind.kind)) c.if-script-gt-LONGEST_SCRIPT.false (omega arith)

pub returns-then-table-gt-LARGEST_TABLE : goal.returns-then-table-gt-LARGEST_TABLE
returns-then-table-gt-LARGEST_TABLE c =
    too_large (omega (arith, c.in_ok-kind.ensures, named c.in_ok-kind.kind)) c.if-script-gt-LONGEST_SCRIPT.false (omega arith) c.if-table-gt-LARGEST_TABLE.true

pub returns : goal.returns
returns c =
    ran c.if-script-gt-LONGEST_SCRIPT.false (omega arith) c.if-table-gt-LARGEST_TABLE.false (subst (RanAs _ _ _ _) (sym c.in_ok-kind.ensures) c.answer_as.ensures)
