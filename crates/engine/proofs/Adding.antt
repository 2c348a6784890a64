-- Sums over the tasks of a plan, a task a turn.
-- Assumes nothing.
use Prim.Native.Nat.{ℕ, ◌+◌, ◌-◌, ◌*◌, ◌^◌, ◌≤◌, ◌<◌}
use mathlib.Core.Path.{◌≡◌, sym, ap, ◌∙◌}
use mathlib.Core.List.{List}
use native.Mathlib.Nat.{mul-le-mul_right}
use native.Mathlib.Numerals.{add-one}
use native.Mathlib.Omega.{arith}
use lib.ListN.{get_or, replicate, length-replicate, get_or-replicate}
use Rattle.numbers.specs.Numbers.{total}
use Rattle.numbers.proofs.Sums.{total-more, total_bound, total_same}
use Rattle.engine.specs.Arrays.{option_at, load_bound, energy_bound, Small, SumReady}

-- ---- sums
-- Of at most 32 options below a bound.
pub sum_low : (bound : ℕ) (options plan : List ℕ) (t : ℕ) → Small bound options → t ≤ 32
    → total (option_at options) t plan < 32 * bound
sum_low bound options plan t small few =
    omega (
      arith,
      total_bound (option_at options) (bound - 1) t plan (λ i l. omega (arith, small (i * 16 + get_or plan i 0))),
      mul-le-mul_right (bound - 1) few,
      small 0,
    )

-- The first unit is not above 2 ^ 63, as no sum of energies is.
pub energies_low : (energies plan : List ℕ) (t : ℕ) → Small energy_bound energies → t ≤ 32
    → total (option_at energies) t plan ≤ 2 ^ 63
energies_low energies plan t small few = omega (arith, sum_low energy_bound energies plan t small few)

-- Energies are small enough to be summed as loads are.
pub as_loads : (options : List ℕ) → Small energy_bound options → Small load_bound options
as_loads options small k = omega (arith, small k)

pub sum_turn : (f : ℕ → ℕ → ℕ) (t : ℕ) (P : List ℕ) {s : ℕ} → s ≡ total f t P → s + f t (get_or P t 0) ≡ total f (t + 1) P
sum_turn f t P e = rw (add-one t) (ap (λ (x : ℕ). x + f t (get_or P t 0)) e ∙ sym (total-more f t P))

-- A list of 32 times a rate number says of so many tasks what one of their length says.
module _ (tasks rates : ℕ) (few : tasks ≤ 32) where
  every : (t : ℕ) → t < tasks → get_or (replicate {A = ℕ} 32 rates) t 0 ≡ rates
  every t l = get_or-replicate 32 t rates 0 (omega arith)

  pub fastest_same : (f : ℕ → ℕ → ℕ) → total f tasks (replicate 32 rates) ≡ total f tasks (replicate tasks rates)
  fastest_same f =
      total_same f f tasks (replicate 32 rates) (replicate tasks rates)
      (λ t l. ap (f t) (every t l ∙ sym (get_or-replicate tasks t rates 0 l)))

  pub fastest_ready : (options : List ℕ) → rates ≤ 8 → Small load_bound options → SumReady tasks options (replicate 32 rates)
  fastest_ready options h small = record {
    few = few;
    room = omega (arith, length-replicate {A = ℕ} 32 rates);
    numbers = λ t l. rw (every t l) h;
    small = small;
  }
