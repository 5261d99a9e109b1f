-- A line that names two numbers is cut in one way only, at its first space after the letter's. Assumes nothing.
use Rattle.std.proofs.Common.{◌≡◌, ℕ, ◌+◌, ◌-◌, ◌<◌, ◌≤◌, List, [], ◌∷◌, ◌++◌, length, get_or, take, drop, sym, refl, ap, ◌∙◌, subst, Some, None, Option, codes, ⊎_elim, arith}
use Rattle.std.proofs.lemmas.List.{length-append, get_or_at, get_or_append_left, get_or-append_right, take_at, drop_at, drop_more, append_assoc, drop_all}
use Rattle.std.proofs.lemmas.Bool.{cases_lt, cases_order}
use Rattle.plan.specs.Lines.{Found}
use Rattle.plan.specs.Spelling.{Decimal, Names, opens, adds, removes, raises, Malformed, Valued, Named, Parsed, SpelledOnce}
use Rattle.nulla.specs.declared.call.Call.TheVariants.{AddEdge, RemoveEdge}
use Rattle.std.specs.Option.{option_map}

-- A byte's first place is one place only.
not_before : (text : List ℕ) (byte from p q : ℕ) → Found text byte from p → Found text byte from q → p < q → ⊥
not_before text byte from p q f g less =
    ⊎_elim (λ h. g.absent p f.after less (f.there h)) (λ h. omega (arith, f.after, g.within)) (cases_lt p (length text))

pub found_once : (text : List ℕ) (byte from p q : ℕ) → Found text byte from p → Found text byte from q → p ≡ q
found_once text byte from p q f g =
    ⊎_elim (λ e. e) (⊎_elim (λ h. absurd (not_before text byte from p q f g h)) (λ h. absurd (not_before text byte from q p g f h))) (cases_order p q)

-- A line cut at a space: what stands before it and after it.
pub record Cut (letter : ℕ) (line : List ℕ) (space i j : ℕ) : Type 0 where
  pub long : 2 ≤ length line
  pub letter_is : get_or line 0 0 ≡ letter
  pub spaced : get_or line 1 0 ≡ 32
  pub inside : space < length line
  pub first_is : Decimal (take (space - 2) (drop 2 line)) i
  pub second_is : Decimal (drop (space + 1) line) j

module _ (letter : ℕ) (line : List ℕ) (i j : ℕ) (n : Names letter line i j) where
  split : line ≡ (letter ∷ 32 ∷ n.first) ++ (32 ∷ n.second)
  split = n.is

  front : length (letter ∷ 32 ∷ n.first) ≡ 2 + length n.first
  front = omega arith

  long_line : length line ≡ 3 + length n.first + length n.second
  long_line = ap length split ∙ simp length-append (omega arith)

  digit_at : (k : ℕ) → 2 ≤ k → k < 2 + length n.first → get_or line k 0 ≡ get_or n.first (k - 2) 0
  digit_at k low high =
      let less : k - 2 < length n.first = omega arith in
      ap (λ t. get_or t k 0) n.is ∙ get_or-append_right (letter ∷ 32 ∷ []) (n.first ++ (32 ∷ n.second)) 2 k 0 refl low ∙ get_or_append_left n.first (32 ∷ n.second) 0 (k - 2) less

  pub names_found : Found line 32 2 (2 + length n.first)
  names_found = record {
    after = omega arith;
    within = let l = long_line in omega arith;
    absent = λ k low high e. let l : k - 2 < length n.first = omega arith in omega (arith, n.first_is.each (k - 2) l, digit_at k low high);
    there = λ _. ap (λ t. get_or t (2 + length n.first) 0) split ∙ get_or_at (letter ∷ 32 ∷ n.first) 32 n.second 0 (2 + length n.first) front;
  }

  pub names_cut : (space : ℕ) → Found line 32 2 space → Cut letter line space i j
  names_cut space f =
      let at : space ≡ 2 + length n.first = found_once line 32 2 space (2 + length n.first) f names_found in
      let l = long_line in
      let less : space - 2 ≡ length n.first = omega arith in
      let more : length ((letter ∷ 32 ∷ n.first) ++ (32 ∷ [])) ≡ space + 1 = simp length-append (omega arith) in
      let first : take (space - 2) (drop 2 line) ≡ n.first = ap (λ t. take (space - 2) (drop 2 t)) n.is ∙ take_at n.first (32 ∷ n.second) (space - 2) (sym less) in
      let second : drop (space + 1) line ≡ n.second = ap (drop (space + 1)) (split ∙ sym (append_assoc (letter ∷ 32 ∷ n.first) (32 ∷ []) n.second)) ∙ drop_at ((letter ∷ 32 ∷ n.first) ++ (32 ∷ [])) n.second (space + 1) more in
      record {
        long = omega arith;
        letter_is = ap (λ t. get_or t 0 0) n.is;
        spaced = ap (λ t. get_or t 1 0) n.is;
        inside = omega arith;
        first_is = subst (λ t. Decimal t i) (sym first) n.first_is;
        second_is = subst (λ t. Decimal t j) (sym second) n.second_is;
      }

-- A line with no number before the space that was found, or none after it, names no two numbers.
pub unnamed_first : (line : List ℕ) (space : ℕ) → Found line 32 2 space → Valued (take (space - 2) (drop 2 line)) None → Named line None
unnamed_first line space f none letter i j names = none i (names_cut letter line i j names space f).first_is

pub unnamed_second : (line : List ℕ) (space : ℕ) → Found line 32 2 space → Valued (drop (space + 1) line) None → Named line None
unnamed_second line space f none letter i j names = none j (names_cut letter line i j names space f).second_is

decimal_once : (digits : List ℕ) (m n : ℕ) → Decimal digits m → Decimal digits n → m ≡ n
decimal_once digits m n d e = d.value ∙ sym e.value

pub record Same (letter letter' i i' j j' : ℕ) : Type 0 where
  pub letters : letter ≡ letter'
  pub firsts : i ≡ i'
  pub seconds : j ≡ j'

-- A line names two numbers in one way only.
pub names_once : (line : List ℕ) (letter letter' i i' j j' : ℕ) → Names letter line i j → Names letter' line i' j' → Same letter letter' i i' j j'
names_once line letter letter' i i' j j' m n =
    let space = 2 + length m.first in
    let found = names_found letter line i j m in
    let c = names_cut letter line i j m space found in
    let d = names_cut letter' line i' j' n space found in
    record {
      letters = sym c.letter_is ∙ d.letter_is;
      firsts = decimal_once _ i i' c.first_is d.first_is;
      seconds = decimal_once _ j j' c.second_is d.second_is;
    }

-- A line that names two numbers is longer than a letter.
pub names_long : (line : List ℕ) (letter i j : ℕ) → Names letter line i j → 2 ≤ length line
names_long line letter i j n = (names_cut letter line i j n (2 + length n.first) (names_found letter line i j n)).long

one_letter : (line : List ℕ) (letter only i j : ℕ) → line ≡ only ∷ [] → Names letter line i j → ⊥
one_letter line letter only i j e n = omega (arith, names_long line letter i j n, ap length e)

letters_apart : (line : List ℕ) (i i' j j' : ℕ) → Names 67 line i j → Names 87 line i' j' → ⊥
letters_apart line i i' j j' m n = omega (arith, (names_once line 67 87 i i' j j' m n).letters)

pub spelled_once : SpelledOnce
spelled_once line _ _ (opens e) (opens f) = refl
spelled_once line _ _ (opens e) (adds {i = i} {j = j} n) = absurd (one_letter line 67 66 i j e n)
spelled_once line _ _ (opens e) (removes {i = i} {j = j} n) = absurd (one_letter line 87 66 i j e n)
spelled_once line _ _ (opens e) (raises f) = absurd (omega (arith, ap (λ t. get_or t 0 0) (sym e ∙ f)))
spelled_once line _ _ (adds {i = i} {j = j} n) (opens e) = absurd (one_letter line 67 66 i j e n)
spelled_once line _ _ (adds {i = i} {j = j} m) (adds {i = i'} {j = j'} n) =
    let same = names_once line 67 67 i i' j j' m n in cc (same.firsts, same.seconds)
spelled_once line _ _ (adds {i = i} {j = j} m) (removes {i = i'} {j = j'} n) = absurd (letters_apart line i i' j j' m n)
spelled_once line _ _ (adds {i = i} {j = j} n) (raises e) = absurd (one_letter line 67 82 i j e n)
spelled_once line _ _ (removes {i = i} {j = j} n) (opens e) = absurd (one_letter line 87 66 i j e n)
spelled_once line _ _ (removes {i = i} {j = j} m) (adds {i = i'} {j = j'} n) = absurd (letters_apart line i' i j' j n m)
spelled_once line _ _ (removes {i = i} {j = j} m) (removes {i = i'} {j = j'} n) =
    let same = names_once line 87 87 i i' j j' m n in cc (same.firsts, same.seconds)
spelled_once line _ _ (removes {i = i} {j = j} n) (raises e) = absurd (one_letter line 87 82 i j e n)
spelled_once line _ _ (raises e) (opens f) = absurd (omega (arith, ap (λ t. get_or t 0 0) (sym e ∙ f)))
spelled_once line _ _ (raises e) (adds {i = i} {j = j} n) = absurd (one_letter line 67 82 i j e n)
spelled_once line _ _ (raises e) (removes {i = i} {j = j} n) = absurd (one_letter line 87 82 i j e n)
spelled_once line _ _ (raises e) (raises f) = refl

-- A line that is no letter alone and names no two numbers after `C` or `W` says nothing.
pub malformed_by : (line : List ℕ) → (line ≡ codes "B" → ⊥) → (line ≡ codes "R" → ⊥) → ((i j : ℕ) → Names 67 line i j → ⊥) → ((i j : ℕ) → Names 87 line i j → ⊥) → Malformed line
malformed_by line opened raised added removed _ (opens e) = opened e
malformed_by line opened raised added removed _ (adds {i = i} {j = j} n) = added i j n
malformed_by line opened raised added removed _ (removes {i = i} {j = j} n) = removed i j n
malformed_by line opened raised added removed _ (raises e) = raised e

-- A line of one byte is that byte.
pub only : (line : List ℕ) (byte : ℕ) → length line ≡ 1 → get_or line 0 0 ≡ byte → line ≡ byte ∷ []
only line byte one is = drop_more line 0 0 (omega arith) ∙ ap (λ t. get_or line 0 0 ∷ t) (drop_all 1 line (omega arith)) ∙ ap (λ b. b ∷ []) is

-- What a line says whose letter is `C` or `W`: the two numbers that it names, if it does.
pub parsed_add : (line : List ℕ) (named : Option (ℕ × ℕ)) → get_or line 0 0 ≡ 67 → Named line named → Parsed line (option_map (λ e. AddEdge e.0 e.1) named)
parsed_add line (Some e) first n = adds (subst (λ letter. Names letter line e.0 e.1) first n)
parsed_add line None first n = malformed_by line (λ e. omega (arith, ap (λ t. get_or t 0 0) e)) (λ e. omega (arith, ap (λ t. get_or t 0 0) e)) (n 67) (n 87)

pub parsed_remove : (line : List ℕ) (named : Option (ℕ × ℕ)) → get_or line 0 0 ≡ 87 → Named line named → Parsed line (option_map (λ e. RemoveEdge e.0 e.1) named)
parsed_remove line (Some e) first n = removes (subst (λ letter. Names letter line e.0 e.1) first n)
parsed_remove line None first n = malformed_by line (λ e. omega (arith, ap (λ t. get_or t 0 0) e)) (λ e. omega (arith, ap (λ t. get_or t 0 0) e)) (n 67) (n 87)
