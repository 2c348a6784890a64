-- The whole-number operations in which document 01 speaks. Each is defined here once; proofs/ has the laws that show it
-- to be the operation that its name says.
use Rattle.std.specs.Prelude.{ℕ, zero, suc, ◌+◌, ◌-◌, ◌*◌, ◌/◌, ◌%◌, ◌^◌, ◌≤◌, ◌<◌, Bool, ◌&&◌, List, [], ◌∷◌, ◌++◌, get_or, leb}

-- "c / f rounded up": a / b rounded up to a whole number, for b above 0.
abbrev pub ceil : ℕ → ℕ → ℕ
ceil a b = (a + (b - 1)) / b

-- w is low to high.
abbrev pub between : ℕ → ℕ → ℕ → Bool
between low high w = leb low w && leb w high

-- SUMS.

-- "the sums": what the first n tasks of plan P come to, where the task at place t counts f t r at rate number r.
-- Places of tasks count from 0, rate numbers from 1.
unfoldable pub total : (ℕ → ℕ → ℕ) → ℕ → List ℕ → ℕ
total f zero P = 0
total f (suc n) P = total f n P + f n (get_or P n 0)

-- The sum of f over the n ticks from t on.
abbrev pub over : (ℕ → ℕ) → ℕ → ℕ → ℕ
over f t zero = 0
over f t (suc n) = f t + over f (suc t) n

-- DIVISORS AND MULTIPLES.

-- The greatest common divisor, by Euclid's division in at most n steps; b steps are enough.
unfoldable pub gcd_in : ℕ → ℕ → ℕ → ℕ
gcd_in zero a b = a
gcd_in (suc n) a zero = a
gcd_in (suc n) a (suc b) = gcd_in n (suc b) (a % suc b)

unfoldable pub gcd : ℕ → ℕ → ℕ
gcd a b = gcd_in b a b

-- The least common multiple.
unfoldable pub lcm : ℕ → ℕ → ℕ
lcm a b = a / gcd a b * b

-- "the running multiple": the least common multiple of the first n of the numbers p 0, p 1, and so on.
unfoldable pub running : (ℕ → ℕ) → ℕ → ℕ
running p zero = 1
running p (suc n) = lcm (running p n) (p n)

-- POWERS OF TWO.

-- 2 ^ e is "the smallest power of two not below" x.
pub record LeastPower (x e : ℕ) : Type 0 where
  pub enough : x ≤ 2 ^ e
  pub smallest : (b : ℕ) → x ≤ 2 ^ b → e ≤ b

-- FIRST PLACES.

-- "the first such word", "lowest of these that applies": P holds at k, and at no number before it.
pub record Lowest (P : ℕ → Type 0) (k : ℕ) : Type 0 where
  pub here : P k
  pub before : (j : ℕ) → j < k → P j → ⊥

-- LISTS.

-- P holds of each item of a list.
abbrev pub All : {A : Type 0} → (A → Type 0) → List A → Type 0
All P [] = Unit {0}
All P (x ∷ xs) = P x × All P xs

-- f i, f (i + 1), and so on, n of them.
abbrev pub each : {A : Type 0} → (ℕ → A) → ℕ → ℕ → List A
each f i zero = []
each f i (suc n) = f i ∷ each f (suc i) n

-- What each item of a list gives, one after the other.
abbrev pub joined : {A : Type 0} → (A → List ℕ) → List A → List ℕ
joined f [] = []
joined f (x ∷ xs) = f x ++ joined f xs
