-- The text for a line, put together. Assumes nothing.
use Rattle.std.proofs.Common.{◌≡◌, ℕ, true, false, not, nat_eq, List, [], ◌∷◌, ◌++◌, codes, sym, ◌∙◌, subst}
use Rattle.std.specs.Cmp.Lexicographic.{pointwise, same_text, other_text}
use Rattle.std.proofs.lemmas.Bool.{not-false, not-true}
use Rattle.nulla.specs.Replies.{Reply}
use Rattle.nulla.specs.Words.{words_of}
use Rattle.certifying.specs.Text.{certificate_of, Answer, agree, differ}

-- both say w
pub in_agreement : (r q : Reply) (bits four w v below last text : List ℕ) → w ≡ words_of r → v ≡ words_of q → false ≡ not (pointwise nat_eq w v)
    → below ≡ certificate_of (codes "bits") r bits
    → last ≡ certificate_of (codes "four") q four
    → text ≡ w ++ (codes "\n" ++ (below ++ last))
    → Answer r q bits four text
in_agreement r q bits four w v below last text a b test first second is =
    let same : w ≡ v = same_text w v (sym (not-false (pointwise nat_eq w v) (sym test))) in
    let whole : text ≡ words_of r ++ (codes "\n" ++ (certificate_of (codes "bits") r bits ++ certificate_of (codes "four") q four)) = rw (a, first, second) at is in
    subst (Answer r q bits four) (sym whole) (agree (sym a ∙ same ∙ b))

-- one says w, the other v
pub in_difference : (r q : Reply) (bits four w v text : List ℕ) → w ≡ words_of r → v ≡ words_of q → true ≡ not (pointwise nat_eq w v)
    → text ≡ codes "differ: " ++ (w ++ (codes ", " ++ (v ++ (10 ∷ []))))
    → Answer r q bits four text
in_difference r q bits four w v text a b test is =
    let other = other_text w v (sym (not-true (pointwise nat_eq w v) (sym test))) in
    let whole : text ≡ codes "differ: " ++ (words_of r ++ (codes ", " ++ (words_of q ++ (10 ∷ [])))) = rw (a, b) at is in
    subst (Answer r q bits four) (sym whole) (differ (λ e. other (a ∙ e ∙ sym b)))
