-- Sums and products of bits as truth values, and equations of bits from a test at each. Assumes nothing.
use Rattle.std.specs.Prelude.{◌≡◌, Bool, true, false, not, ◌&&◌, T, refl}

-- exclusive or: the sum of two bits
abbrev pub xor : Bool → Bool → Bool
xor true b = not b
xor false b = b

-- the two bits are the same
abbrev pub agree : Bool → Bool → Bool
agree true b = b
agree false b = not b

pub agree_is : (a b : Bool) → T (agree a b) → a ≡ b
agree_is true true t = refl
agree_is true false t = absurd t
agree_is false true t = absurd t
agree_is false false t = refl

pub and_first : (a b : Bool) → T (a && b) → T a
and_first true b t = tt
and_first false b t = absurd t

pub and_second : (a b : Bool) → T (a && b) → T b
and_second true b t = t
and_second false b t = absurd t

-- a test that passes at both bits
abbrev pub every : (Bool → Bool) → Bool
every f = f true && f false

pub every_at : (f : Bool → Bool) → T (every f) → (b : Bool) → T (f b)
every_at f t true = and_first (f true) (f false) t
every_at f t false = and_second (f true) (f false) t
