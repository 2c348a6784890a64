-- Division rounded up: `ceil a b` is the least q with a ≤ b × q.
-- Assumes nothing.
use Prim.Native.Nat.{ℕ, ◌+◌, ◌*◌, ◌-◌, ◌≤◌, ◌<◌}
use mathlib.Core.Path.{◌≡◌, ap}
use mathlib.Core.Logic.{⊎_elim}
use native.Mathlib.Nat.{lt-div-mul-add, div-mul-le_self, div-lt_iff_lt-mul, eq-zero-or-pos, mul-le-mul_right}
use native.Mathlib.Omega.{arith}
use Rattle.numbers.specs.Numbers.{ceil}

pub ceil_covers : (a b : ℕ) → 0 < b → a ≤ b * ceil a b
ceil_covers a b h = omega (arith, lt-div-mul-add {a = a + (b - 1)} h)

pub ceil_least : (a b q : ℕ) → 0 < b → a ≤ b * q → ceil a b ≤ q
ceil_least a b q h c = omega (arith, (div-lt_iff_lt-mul {k = b} {x = a + (b - 1)} {y = q + 1} h).1 (omega arith))

-- Rounding adds less than b.
pub ceil-over : (a b : ℕ) → 0 < b → b * ceil a b ≤ a + (b - 1)
ceil-over a b h = omega (arith, div-mul-le_self (a + (b - 1)) b)

-- The result is at most what is divided.
pub ceil_small : (a b : ℕ) → 0 < b → ceil a b ≤ a
ceil_small a b h = ceil_least a b a h (omega (arith, mul-le-mul_right a h))

pub ceil_positive : (a b : ℕ) → 0 < a → 0 < b → 1 ≤ ceil a b
ceil_positive a b p q =
    ⊎_elim
    (λ (z : ceil a b ≡ 0). absurd (omega (arith, ceil_covers a b q, ap (λ (x : ℕ). b * x) z)))
    (λ (z : 0 < ceil a b). z)
    (eq-zero-or-pos (ceil a b))

-- A larger divisor gives no larger result: a job takes no longer at a higher rate.
pub ceil_falls : (a b c : ℕ) → 0 < b → b ≤ c → ceil a c ≤ ceil a b
ceil_falls a b c h l = ceil_least a c (ceil a b) (omega arith) (omega (arith, ceil_covers a b h, mul-le-mul_right (ceil a b) l))

-- More to be divided gives no smaller result.
pub ceil_grows : (a b c : ℕ) → 0 < c → a ≤ b → ceil a c ≤ ceil b c
ceil_grows a b c h l = ceil_least a c (ceil b c) h (omega (arith, ceil_covers b c h))

-- Half the divisor at most doubles the result.
pub ceil-half : (a b : ℕ) → 0 < b → ceil a b ≤ 2 * ceil a (2 * b)
ceil-half a b h = ceil_least a b (2 * ceil a (2 * b)) h (omega (arith, ceil_covers a (2 * b) (omega arith)))
