-- Document 02, note 3: "Work out the greatest common divisor by halving and subtracting alone, at most 100 of these
-- together for each pair." What one of these does, and how many a pair takes. That they lead to the greatest common
-- divisor is the contract of common_divisor (src/lib.rt); that 100 are enough is a theorem (proofs/Halving.antt,
-- steps_most).
use Rattle.std.specs.Prelude.{ℕ, zero, suc, ◌+◌, ◌-◌, ◌/◌, ◌%◌, ◌^◌, Bool, cond, ◌&&◌, eqb, ltb}

-- How many twos a and b have in common: one for each time that both are even and are halved, at most n times; a + b are
-- enough.
unfoldable pub common_twos_in : ℕ → ℕ → ℕ → ℕ
common_twos_in zero a b = 0
common_twos_in (suc n) a b = cond (eqb (a % 2) 0 && eqb (b % 2) 0) (suc (common_twos_in n (a / 2) (b / 2))) 0

-- The largest power of two that divides both.
unfoldable pub common_power : ℕ → ℕ → ℕ
common_power a b = 2 ^ common_twos_in (a + b) a b

-- a, a multiple of u, is u an even number of times.
abbrev pub is_even : ℕ → ℕ → Bool
is_even u a = eqb (a / u % 2) 0

-- "Halving and subtracting": one of these, of a and b. An even multiple of u is halved; where neither number is one, the
-- smaller is subtracted from the larger.
abbrev pub step : ℕ → ℕ → ℕ → ℕ × ℕ
step u a b = cond (is_even u a) (a / 2, b) (cond (is_even u b) (a, b / 2) (cond (ltb b a) (a - b, b) (a, b - a)))

-- How many are made until both numbers are equal, at most n.
unfoldable pub steps_in : ℕ → ℕ → ℕ → ℕ → ℕ
steps_in zero u a b = 0
steps_in (suc n) u a b = cond (eqb a b) 0 (suc (steps_in n u (step u a b).0 (step u a b).1))

-- "These together for each pair": u is that largest power of two, and a + b steps are enough.
unfoldable pub steps : ℕ → ℕ → ℕ
steps a b = steps_in (a + b) (common_power a b) a b

-- "At most 100".
abbrev pub most_steps : ℕ
most_steps = 100
