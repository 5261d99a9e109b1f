-- Lists that agree at every place. Assumes nothing.
use Rattle.std.proofs.Common.{◌≡◌, ℕ, suc, ◌<◌, List, [], ◌∷◌, length, get_or, refl, arith}

-- lists of one length that agree at each place are one
pub same_places : {A : Type 0} (d : A) (xs ys : List A) → length xs ≡ length ys → ((k : ℕ) → k < length xs → get_or xs k d ≡ get_or ys k d) → xs ≡ ys
same_places d [] [] e h = refl
same_places d [] (y ∷ ys) e h = absurd (omega (arith, e))
same_places d (x ∷ xs) [] e h = absurd (omega (arith, e))
same_places d (x ∷ xs) (y ∷ ys) e h =
    let first : x ≡ y = h 0 (omega arith) in
    let rest : xs ≡ ys = same_places d xs ys (omega (arith, e)) (λ k l. h (suc k) (omega (arith, l))) in
    cc
