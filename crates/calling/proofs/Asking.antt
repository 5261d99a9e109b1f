-- A line of a script is cut in one way only, and its letter tells what it asks. Assumes nothing.
use Rattle.std.proofs.Common.{◌≡◌, ℕ, true, false, nat_eq, ◌+◌, ◌-◌, ◌*◌, ◌<◌, ◌≤◌, List, [], ◌∷◌, ◌++◌, length, get_or, take, drop, Some, None, Option, sym, refl, ap, ◌∙◌, subst, arith}
use Rattle.std.specs.Cmp.Lexicographic.{pointwise, same_text, other_text}
use Rattle.std.proofs.lemmas.List.{length-append, get_or_at, get_or_append_left, get_or-append_right, get_or-take, take_at, drop_at, drop_more, take-append-drop, append_assoc, same_lists, get_or_default}
use Rattle.nulla.specs.declared.call.Call.{Call}
use Rattle.nulla.specs.Requests.{Request, try_edge, check_certificate, IsCheck}
use Rattle.plan.specs.Lines.{Found}
use Rattle.plan.specs.Spelling.{Decimal, Names, Spells, opens, adds, removes, raises, Malformed, Parsed as PlanParsed}
use Rattle.plan.proofs.Spelled.{found_once, names_found, names_once, spelled_once}
use Rattle.calling.specs.Digits.{Writes}
use Rattle.calling.specs.Script.{NamesThree, Hands, HandsDigits, Asks, planned, tries, checks, AskedOnce, Parsed}

-- A line cut at its second space after the letter's.
pub record Cut (letter : ℕ) (line : List ℕ) (space i j d : ℕ) : Type 0 where
  pub inside : space < length line
  pub front_is : Names letter (take space line) i j
  pub third_is : Decimal (drop (space + 1) line) d

module _ (letter : ℕ) (line : List ℕ) (i j d : ℕ) (n : NamesThree letter line i j d) where
  long_front : length n.front ≡ 3 + length n.front_is.first + length n.front_is.second
  long_front = ap length n.front_is.is ∙ simp length-append (omega arith)

  long_line : length line ≡ length n.front + 1 + length n.third
  long_line = ap length n.is ∙ simp length-append (omega arith)

  at_front : (k : ℕ) → k < length n.front → get_or line k 0 ≡ get_or n.front k 0
  at_front k h = ap (λ t. get_or t k 0) n.is ∙ get_or_append_left n.front (32 ∷ n.third) 0 k h

  at_second : (k : ℕ) → 3 + length n.front_is.first ≤ k → get_or n.front k 0 ≡ get_or n.front_is.second (k - (3 + length n.front_is.first)) 0
  at_second k low =
      let first = n.front_is.first in
      let second = n.front_is.second in
      let split : n.front ≡ ((letter ∷ 32 ∷ first) ++ (32 ∷ [])) ++ second = n.front_is.is ∙ sym (append_assoc (letter ∷ 32 ∷ first) (32 ∷ []) second) in
      let long : length ((letter ∷ 32 ∷ first) ++ (32 ∷ [])) ≡ 3 + length first = simp length-append (omega arith) in
      ap (λ t. get_or t k 0) split ∙ get_or-append_right ((letter ∷ 32 ∷ first) ++ (32 ∷ [])) second (3 + length first) k 0 long low

  pub first_found : Found line 32 2 (2 + length n.front_is.first)
  first_found =
      let f = names_found letter n.front i j n.front_is in
      let long = long_front in
      let whole = long_line in
      let there : 2 + length n.front_is.first < length n.front = omega arith in
      record {
        after = omega arith;
        within = omega arith;
        absent = λ k low high e. f.absent k low high (sym (at_front k (omega arith)) ∙ e);
        there = λ _. at_front (2 + length n.front_is.first) there ∙ f.there there;
      }

  pub second_found : Found line 32 (3 + length n.front_is.first) (length n.front)
  second_found =
      let long = long_front in
      let whole = long_line in
      record {
        after = omega arith;
        within = omega arith;
        absent = λ k low high e. let less : k - (3 + length n.front_is.first) < length n.front_is.second = omega arith in omega (arith, n.front_is.second_is.each (k - (3 + length n.front_is.first)) less, at_front k high, at_second k low);
        there = λ _. ap (λ t. get_or t (length n.front) 0) n.is ∙ get_or_at n.front 32 n.third 0 (length n.front) refl;
      }

  pub three_cut : (first second : ℕ) → Found line 32 2 first → Found line 32 (first + 1) second → Cut letter line second i j d
  three_cut first second f g =
      let place : first ≡ 2 + length n.front_is.first = found_once line 32 2 first (2 + length n.front_is.first) f first_found in
      let next : first + 1 ≡ 3 + length n.front_is.first = omega arith in
      let at : second ≡ length n.front = found_once line 32 (3 + length n.front_is.first) second (length n.front) (subst (λ k. Found line 32 k second) next g) second_found in
      let whole = long_line in
      let front : take second line ≡ n.front = ap (take second) n.is ∙ take_at n.front (32 ∷ n.third) second (sym at) in
      let more : length (n.front ++ (32 ∷ [])) ≡ second + 1 = simp length-append (omega arith) in
      let third : drop (second + 1) line ≡ n.third = ap (drop (second + 1)) (n.is ∙ sym (append_assoc n.front (32 ∷ []) n.third)) ∙ drop_at (n.front ++ (32 ∷ [])) n.third (second + 1) more in
      record {
        inside = omega arith;
        front_is = subst (λ t. Names letter t i j) (sym front) n.front_is;
        third_is = subst (λ t. Decimal t d) (sym third) n.third_is;
      }

  pub three_letter : get_or line 0 0 ≡ letter
  three_letter =
      let long = long_front in
      let some : 0 < length n.front = omega arith in
      at_front 0 some ∙ ap (λ t. get_or t 0 0) n.front_is.is

-- A line that is cut so names the three numbers.
pub cut_three : (line : List ℕ) (from space i j d : ℕ) → Found line 32 (from + 1) space → space < length line → Names (get_or (take space line) 0 0) (take space line) i j → Decimal (drop (space + 1) line) d → NamesThree (get_or line 0 0) line i j d
cut_three line from space i j d f inside names third =
    let some : 0 < space = omega (arith, f.after) in
    record {
      front = take space line;
      third = drop (space + 1) line;
      is = sym (take-append-drop space line) ∙ ap (λ t. take space line ++ t) (drop_more line space 0 inside ∙ ap (λ b. b ∷ drop (space + 1) line) (f.there inside));
      front_is = subst (λ b. Names b (take space line) i j) (get_or-take space line 0 0 some) names;
      third_is = third;
    }

-- The letter of a plan's line.
pub spelled_letter : {line : List ℕ} {q : Request} → Spells line q → (get_or line 0 0 ≡ 84 → ⊥) × (get_or line 0 0 ≡ 75 → ⊥)
spelled_letter (opens e) = let z = ap (λ t. get_or t 0 0) e in ((λ h. omega arith), (λ h. omega arith))
spelled_letter (adds n) = let z = ap (λ t. get_or t 0 0) n.is in ((λ h. omega arith), (λ h. omega arith))
spelled_letter (removes n) = let z = ap (λ t. get_or t 0 0) n.is in ((λ h. omega arith), (λ h. omega arith))
spelled_letter (raises e) = let z = ap (λ t. get_or t 0 0) e in ((λ h. omega arith), (λ h. omega arith))

pub hands_letter : {line bytes : List ℕ} → Hands line bytes → get_or line 0 0 ≡ 75
hands_letter h = ap (λ t. get_or t 0 0) h.is

pub hands_long : {line bytes : List ℕ} → Hands line bytes → length line ≡ 2 + 2 * length bytes
hands_long h = ap length h.is ∙ omega (arith, h.digits_are.twice)

-- A plan's line asks for no check.
pub unspelled : {line : List ℕ} {q : Request} → Spells line q → IsCheck q → ⊥
unspelled (opens e) is-check = is-check
unspelled (adds n) is-check = is-check
unspelled (removes n) is-check = is-check
unspelled (raises e) is-check = is-check

pub hands : {line bytes : List ℕ} → Asks line (check_certificate bytes) → Hands line bytes
hands (planned s) = absurd (unspelled s tt)
hands (checks h) = h

unplanned : (line : List ℕ) → (get_or line 0 0 ≡ 84 → ⊥) → Malformed line → (q : Request) → Asks line q → IsCheck q
unplanned line other malformed q (planned s) = absurd (malformed q s)
unplanned line other malformed _ (tries {i = i} {j = j} {d = d} n) = absurd (other (three_letter 84 line i j d n))
unplanned line other malformed _ (checks h) = tt

-- What a line of another letter than `T` says as a plan's line, it says as a script's.
pub as_planned : (line : List ℕ) (r : Option Call) → (get_or line 0 0 ≡ 84 → ⊥) → PlanParsed line r → Parsed line r
as_planned line (Some call) other s = (planned s, unspelled s)
as_planned line None other malformed = unplanned line other malformed

-- A line with the letter `T` that names no three numbers says nothing.
pub no_trial : (line : List ℕ) → get_or line 0 0 ≡ 84 → ((letter i j d : ℕ) → NamesThree letter line i j d → ⊥) → (q : Request) → Asks line q → IsCheck q
no_trial line letter none q (planned s) = absurd ((spelled_letter s).0 letter)
no_trial line letter none _ (tries {i = i} {j = j} {d = d} n) = absurd (none 84 i j d n)
no_trial line letter none _ (checks h) = tt

-- Digits write one row of bytes.
writes_once : (digits a b : List ℕ) → Writes digits a → Writes digits b → a ≡ b
writes_once digits a b v w =
    let long : length a ≡ length b = omega (arith, v.twice, w.twice) in
    same_lists a b long (λ k e h.
    let h' : k < length b = omega arith in
    get_or_default a k e 0 h ∙ v.value k h ∙ sym (w.value k h') ∙ get_or_default b k 0 e h')

hands_once : (line a b : List ℕ) → Hands line a → Hands line b → a ≡ b
hands_once line a b v w =
    let digits : v.digits ≡ w.digits = ap (drop 2) (sym v.is ∙ w.is) in
    writes_once w.digits a b (subst (λ t. Writes t a) digits v.digits_are) w.digits_are

three_once : (line : List ℕ) (i i' j j' d d' : ℕ) → NamesThree 84 line i j d → NamesThree 84 line i' j' d' → try_edge i j d ≡ try_edge i' j' d'
three_once line i i' j j' d d' m n =
    let first = 2 + length m.front_is.first in
    let found = first_found 84 line i j d m in
    let next : 3 + length m.front_is.first ≡ first + 1 = omega arith in
    let then = subst (λ k. Found line 32 k (length m.front)) next (second_found 84 line i j d m) in
    let c = three_cut 84 line i j d m first (length m.front) found then in
    let e = three_cut 84 line i' j' d' n first (length m.front) found then in
    let same = names_once (take (length m.front) line) 84 84 i i' j j' c.front_is e.front_is in
    let third : d ≡ d' = c.third_is.value ∙ sym e.third_is.value in
    cc (same.firsts, same.seconds, third)

pub asked_once : AskedOnce
asked_once line a b (planned s) (planned t) = spelled_once line a b s t
asked_once line a _ (planned s) (tries {i = i} {j = j} {d = d} n) = absurd ((spelled_letter s).0 (three_letter 84 line i j d n))
asked_once line a _ (planned s) (checks h) = absurd ((spelled_letter s).1 (hands_letter h))
asked_once line _ b (tries {i = i} {j = j} {d = d} n) (planned s) = absurd ((spelled_letter s).0 (three_letter 84 line i j d n))
asked_once line _ _ (tries {i = i} {j = j} {d = d} m) (tries {i = i'} {j = j'} {d = d'} n) = three_once line i i' j j' d d' m n
asked_once line _ _ (tries {i = i} {j = j} {d = d} n) (checks h) = absurd (omega (arith, three_letter 84 line i j d n, hands_letter h))
asked_once line _ b (checks h) (planned s) = absurd ((spelled_letter s).1 (hands_letter h))
asked_once line _ _ (checks h) (tries {i = i} {j = j} {d = d} n) = absurd (omega (arith, three_letter 84 line i j d n, hands_letter h))
asked_once line _ _ (checks {bytes = a} v) (checks {bytes = b} w) = ap check_certificate (hands_once line a b v w)

-- The first byte of a line that begins with `T`, and of one that doesn't.
pub led : (line : List ℕ) → true ≡ pointwise nat_eq (84 ∷ []) (take 1 line) → get_or line 0 0 ≡ 84
led line e = sym (get_or-take 1 line 0 0 (omega arith)) ∙ ap (λ t. get_or t 0 0) (sym (same_text (84 ∷ []) (take 1 line) e))

pub unled : (line : List ℕ) → false ≡ pointwise nat_eq (84 ∷ []) (take 1 line) → get_or line 0 0 ≡ 84 → ⊥
unled [] e h = omega arith
unled (byte ∷ rest) e h = other_text (84 ∷ []) (take 1 (byte ∷ rest)) e (ap (λ b. b ∷ []) (sym h))

-- The bytes that the digits on a line write are what a check is asked of.
pub handed_asks : {line digits : List ℕ} (bytes : List ℕ) → HandsDigits line digits → Writes digits bytes → Asks line (check_certificate bytes)
handed_asks {digits = digits} bytes h w = checks (record { digits = digits; is = h.is; some = omega (arith, h.some, w.twice); digits_are = w })
