use Rattle.std.proofs.Common.{◌≡◌, take, string_bytes}
use Rattle.certifying.specs.Hexadecimal.{hex_of}
use Rattle.certifying.proofs.hexadecimal.hexadecimal.Given as goal

abbrev pub invariant-loop-byte : goal.invariant-loop-byte
invariant-loop-byte l = string_bytes l.text ≡ hex_of (take l.byte-index l.bytes)
