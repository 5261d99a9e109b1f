-- What answering the lines of a script one after the other is. Assumes nothing.
use Rattle.std.specs.Prelude.{ℕ, List, Option, Result, Ok, String, string_bytes}
use Rattle.std.specs.List.{FoldsTo}
use Rattle.std.specs.Fn.{CalledAt}
use Rattle.std.specs.Io.KnownBytes.{Appends}
use denote.Param.Members.{Mut}
use denote.Ref.{Bor}

module _ {F W Z E : Type 0} (g : Mut F (Bor (List ℕ) × Unit {0}) (Result (String Z) E)) (contents : W → Option (List ℕ)) where
  -- A call of the closure at the line gives a text, and the writer gets it.
  pub record Answers (before : F × W) (line : List ℕ) (after : F × W) : Type 0 where
    pub text : String Z
    pub given : CalledAt g before.0 line (Ok text) after.0
    pub got : Appends (contents before.1) (contents after.1) (string_bytes text)

  -- The same for each line, in order.
  abbrev pub AnswersEach : F × W → List (List ℕ) → Type 0
  AnswersEach start lines = (last : F × W) × FoldsTo Answers start lines last
