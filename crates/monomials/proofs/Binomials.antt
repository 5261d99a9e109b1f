-- Binomials: the ends of a row, Pascal's rule for counts of monomials, and that a higher degree counts no fewer.
-- Assumes nothing.
use Rattle.std.proofs.Common.{◌≡◌, ℕ, zero, suc, ◌+◌, ◌-◌, ◌<◌, ◌≤◌, sym, refl, ap, ◌∙◌, add-zero, arith}
use Rattle.monomials.specs.Choose.{choose}

pub choose_none : (a : ℕ) → choose a 0 ≡ 1
unfolding choose
choose_none zero = refl
choose_none (suc a) = refl

choose_over : (a k : ℕ) → choose a (suc (a + k)) ≡ 0
unfolding choose
choose_over zero k = refl
choose_over (suc a) k =
    let s : suc a + k ≡ suc (a + k) = omega arith in
    let t : suc (a + k) ≡ a + suc k = omega arith in
    ap (λ (m : ℕ). choose a m + choose a (suc m)) s
    ∙ ap (λ (m : ℕ). m + choose a (suc (suc (a + k)))) (choose_over a k)
    ∙ ap (λ (m : ℕ). 0 + choose a (suc m)) t
    ∙ ap (λ (m : ℕ). 0 + m) (choose_over a (suc k))

pub choose_all : (a : ℕ) → choose a a ≡ 1
unfolding choose
choose_all zero = refl
choose_all (suc a) =
    let none : choose a (suc a) ≡ 0 = ap (λ (m : ℕ). choose a (suc m)) (sym (add-zero a)) ∙ choose_over a 0 in
    omega (arith, choose_all a, none)

-- those of a lower degree, and those of degree e + 1 without the first variable's exponent
pub pascal_sum : (n e : ℕ) → choose (suc n + suc e) (suc n) ≡ choose (suc n + e) (suc n) + choose (n + suc e) n
unfolding choose
pascal_sum n e =
    let s : suc n + suc e ≡ suc (n + suc e) = omega arith in
    let t : n + suc e ≡ suc n + e = omega arith in
    ap (λ (m : ℕ). choose m (suc n)) s ∙ ap (λ (m : ℕ). choose (n + suc e) n + choose m (suc n)) t ∙ omega arith

choose_step : (n d : ℕ) → choose (n + d) n ≤ choose (n + suc d) n
choose_step zero d = omega (arith, choose_none (0 + d), choose_none (0 + suc d))
choose_step (suc n) d = omega (arith, pascal_sum n d)

-- a higher degree, by a difference
pub choose_more : (n d k : ℕ) → choose (n + d) n ≤ choose (n + d + k) n
choose_more n d zero = omega (arith, ap (λ (m : ℕ). choose m n) (add-zero (n + d)))
choose_more n d (suc k) =
    let s : n + suc (d + k) ≡ n + d + suc k = omega arith in
    let t : n + (d + k) ≡ n + d + k = omega arith in
    omega (arith, choose_more n d k, choose_step n (d + k), ap (λ (m : ℕ). choose m n) s, ap (λ (m : ℕ). choose m n) t)

-- a higher degree
pub choose_mono : (n d e : ℕ) → d ≤ e → choose (n + d) n ≤ choose (n + e) n
choose_mono n d e h =
    let s : n + d + (e - d) ≡ n + e = omega arith in
    omega (arith, choose_more n d (e - d), ap (λ (m : ℕ). choose m n) s)

pub choose_some : (n d : ℕ) → 0 < choose (n + d) n
choose_some n d =
    let s : n + 0 ≡ n = omega arith in
    omega (arith, choose_mono n 0 d (omega arith), ap (λ (m : ℕ). choose m n) s, choose_all n)

choose_widen : (n d : ℕ) → choose (n + d) n ≤ choose (suc n + d) (suc n)
choose_widen n zero = omega (arith, ap (λ (m : ℕ). choose m n) (add-zero n), choose_all n, choose_some (suc n) 0)
choose_widen n (suc d) = omega (arith, pascal_sum n d)

-- more variables, by a difference
choose_wider : (n d k : ℕ) → choose (n + d) n ≤ choose (n + k + d) (n + k)
choose_wider n d zero = omega (arith, ap (λ (m : ℕ). choose (m + d) m) (add-zero n))
choose_wider n d (suc k) =
    let s : suc (n + k) ≡ n + suc k = omega arith in
    omega (arith, choose_wider n d k, choose_widen (n + k) d, ap (λ (m : ℕ). choose (m + d) m) s)

-- more variables, and a higher degree
pub choose_most : (n m d e : ℕ) → n ≤ m → d ≤ e → choose (n + d) n ≤ choose (m + e) m
choose_most n m d e h k =
    let s : n + (m - n) ≡ m = omega arith in
    omega (arith, choose_mono n d e k, choose_wider n e (m - n), ap (λ (v : ℕ). choose (v + e) v) s)
