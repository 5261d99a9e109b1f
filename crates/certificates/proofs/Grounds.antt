-- The first ground of two lists, one after the other, and that there is one. Assumes nothing.
use Rattle.std.proofs.Common.{◌≡◌, List, [], ◌∷◌, ◌++◌, sym, ◌∙◌, inl, inr}
use Rattle.certificates.specs.declared.refusal.Refusal.{Refusal}
use Rattle.certificates.specs.Grounds.{Ground, First, Clear}

pub first_front : (gs hs : List Ground) (r : Refusal) → First gs r → First (gs ++ hs) r
first_front [] hs r f = absurd f
first_front (g ∷ gs) hs r (inl f) = inl f
first_front (g ∷ gs) hs r (inr f) = inr (f.0, first_front gs hs r f.1)

pub first_back : (gs hs : List Ground) (r : Refusal) → Clear gs → First hs r → First (gs ++ hs) r
first_back [] hs r c f = f
first_back (g ∷ gs) hs r c f = inr (c.0, first_back gs hs r c.1 f)

pub clear_both : (gs hs : List Ground) → Clear gs → Clear hs → Clear (gs ++ hs)
clear_both [] hs c d = d
clear_both (g ∷ gs) hs c d = (c.0, clear_both gs hs c.1 d)

-- the first ground is one, and where there is one the call is not clear
pub first_one : (gs : List Ground) (r q : Refusal) → First gs r → First gs q → r ≡ q
first_one [] r q h k = absurd h
first_one (g ∷ gs) r q (inl h) (inl k) = h.1 ∙ sym k.1
first_one (g ∷ gs) r q (inl h) (inr k) = absurd (k.0 h.0)
first_one (g ∷ gs) r q (inr h) (inl k) = absurd (h.0 k.0)
first_one (g ∷ gs) r q (inr h) (inr k) = first_one gs r q h.1 k.1

pub not_both : (gs : List Ground) (r : Refusal) → First gs r → Clear gs → ⊥
not_both [] r h c = h
not_both (g ∷ gs) r (inl h) c = c.0 h.0
not_both (g ∷ gs) r (inr h) c = not_both gs r h.1 c.1
