-- The running multiple: a common multiple that divides every other, and that never falls.
-- Assumes nothing.
use Prim.Native.Nat.{ℕ, zero, suc, ◌≤◌, ◌<◌, ◌∣◌}
use mathlib.Core.Path.{◌≡◌, refl, ap₂}
use mathlib.Core.Logic.{⊎_elim}
use native.Mathlib.Nat.{dvd_trans, one-dvd, le_of_dvd, eq-or-lt_of_le, le_of_suc-le-suc, le_trans}
use native.Mathlib.Omega.{arith}
use Rattle.numbers.specs.Numbers.{lcm, running}
use Rattle.numbers.proofs.Tests.{below_more}
use Rattle.numbers.proofs.Divisors.{lcm-left, lcm_right, lcm_least, lcm_positive}

-- It is known by the numbers that it is a multiple of.
pub running_same : (p q : ℕ → ℕ) (n : ℕ) → ((t : ℕ) → t < n → p t ≡ q t) → running p n ≡ running q n
unfolding running
running_same p q zero e = refl
running_same p q (suc n) e = ap₂ lcm (running_same p q n (λ t l. e t (omega arith))) (e n (omega arith))

module _ (p : ℕ → ℕ) where
  pub running_none : running p 0 ≡ 1
  unfolding running
  running_none = refl

  pub running_more : (n : ℕ) → running p (suc n) ≡ lcm (running p n) (p n)
  unfolding running
  running_more n = refl

  pub running_divides : (n t : ℕ) → t < n → p t ∣ running p n
  unfolding running
  running_divides zero t h = absurd (omega arith)
  running_divides (suc n) t h =
      below_more {P = λ t. p t ∣ running p (suc n)}
      (λ t l. dvd_trans (p t) (running_divides n t l) (lcm-left (running p n) (p n)))
      (lcm_right (running p n) (p n)) t h

  module _ (n : ℕ) (positive : (t : ℕ) → t < n → 0 < p t) where
    pub running_positive : (t : ℕ) → t ≤ n → 0 < running p t
    unfolding running
    running_positive zero h = omega arith
    running_positive (suc t) h = lcm_positive (running p t) (p t) (running_positive t (omega arith)) (positive t (omega arith))

    pub running_least : (t c : ℕ) → t ≤ n → ((i : ℕ) → i < t → p i ∣ c) → running p t ∣ c
    unfolding running
    running_least zero c h all = one-dvd c
    running_least (suc t) c h all =
        lcm_least (running p t) (p t) c (running_positive t (omega arith)) (running_least t c (omega arith) (λ i l. all i (omega arith))) (all t (omega arith))

    running-step : (t : ℕ) → suc t ≤ n → running p t ≤ running p (suc t)
    unfolding running
    running-step t h = le_of_dvd (running_positive (suc t) h) (lcm-left (running p t) (p t))

    -- It never falls.
    pub running_rises : (t k : ℕ) → k ≤ t → t ≤ n → running p k ≤ running p t
    running_rises zero k a h = let e : k ≡ 0 = omega arith in rw e (omega arith)
    running_rises (suc t) k a h =
        ⊎_elim
        (λ (e : k ≡ suc t). rw e (omega arith))
        (λ (l : k < suc t). le_trans (running_rises t k (le_of_suc-le-suc l) (omega arith)) (running-step t h))
        (eq-or-lt_of_le a)
