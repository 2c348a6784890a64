-- What holds of the tables of every chip, and of the energies that come of them: by the law of tables, and not chip by
-- chip.
-- Assumes nothing.
use Prim.Native.Nat.{ℕ, suc, ◌+◌, ◌-◌, ◌*◌, ◌^◌, ◌≤◌, ◌<◌}
use mathlib.Core.Path.{◌≡◌, ap, ◌∙◌}
use native.Mathlib.Nat.{mul-le-mul, mul-le-mul_right}
use native.Mathlib.Omega.{arith}
use lib.ListN.{length, get_or}
use Rattle.numbers.proofs.Tests.{between_true}
use Rattle.numbers.proofs.Lists.{each-length, each_at}
use Rattle.numbers.proofs.Rounding.{ceil_falls, ceil_positive}
use Rattle.layout.specs.Words.{most_rates, most_idle}
use Rattle.taskset.specs.Quantities.{job_ticks}
use Rattle.chips.specs.Chips.{milliwatts, chip_count, chip_rate, chip_power, chip_energy, chip_rates, chip_energies}
use Rattle.chips.specs.Chips.{idle_figures, idle_entry, chip_idle}
use Rattle.chips.specs.declared.Chip.{Chip}
use Rattle.chips.proofs.Rising.{Entry, entry_at, count_in_range, powers_as_many, rates_in_order, powers_in_order}
use Rattle.chips.proofs.Rising.{idle_in_order, idle_inside, powers_above_idle}

-- ---- how many
pub count_range : (c : Chip) → (2 ≤ chip_count c) × (chip_count c ≤ most_rates)
count_range c = between_true 2 most_rates (chip_count c) (count_in_range c)

pub rates-length : (c : Chip) → length (chip_rates c) ≡ chip_count c
unfolding chip_rates
rates-length c = each-length (chip_rate c) 1 (chip_count c)

pub energies-length : (c : Chip) (cycles : ℕ) → length (chip_energies c cycles) ≡ chip_count c
unfolding chip_energies
energies-length c cycles = each-length (chip_energy c cycles) 1 (chip_count c)

-- ---- rates and powers: r is a rate number, from 1 on
-- Rate number r stands at place r - 1 of the list.
pub rate-entry : (c : Chip) (r : ℕ) → 1 ≤ r → r ≤ chip_count c → get_or (chip_rates c) (r - 1) 0 ≡ chip_rate c r
unfolding chip_rates
rate-entry c r a b =
    let there : 1 + (r - 1) ≡ r = omega arith in
    each_at (chip_rate c) 1 (chip_count c) (r - 1) (omega arith) 0 ∙ ap (chip_rate c) there

-- The law, at its place.
rate_at : (c : Chip) (r : ℕ) → 1 ≤ r → r ≤ chip_count c → Entry 10000 1000000 (chip_rates c) (r - 1)
rate_at c r a b = entry_at 10000 1000000 (chip_rates c) (rates_in_order c) (r - 1) (omega (arith, rates-length c))

power_at : (c : Chip) (r : ℕ) → 1 ≤ r → r ≤ chip_count c → Entry 1 5000 (milliwatts c) (r - 1)
power_at c r a b = entry_at 1 5000 (milliwatts c) (powers_in_order c) (r - 1) (omega (arith, powers_as_many c))

pub rate_range : (c : Chip) (r : ℕ) → 1 ≤ r → r ≤ chip_count c → (1 ≤ chip_rate c r) × (chip_rate c r ≤ 1000000)
rate_range c r a b = omega (arith, rate_at c r a b, rate-entry c r a b)

pub power_range : (c : Chip) (r : ℕ) → 1 ≤ r → r ≤ chip_count c → (1 ≤ chip_power c r) × (chip_power c r ≤ 5000)
power_range c r a b = omega (arith, power_at c r a b)

pub rates_rise : (c : Chip) (r : ℕ) → 1 ≤ r → r < chip_count c → chip_rate c r < chip_rate c (suc r)
rates_rise c r a b =
    let next : suc (r - 1) ≡ suc r - 1 = omega arith in
    let rise = rw next at ((rate_at c r a (omega arith)).below_next (omega (arith, rates-length c))) in
    omega (arith, rise, rate-entry c r a (omega arith), rate-entry c (suc r) (omega arith) b)

pub powers_rise : (c : Chip) (r : ℕ) → 1 ≤ r → r < chip_count c → chip_power c r < chip_power c (suc r)
powers_rise c r a b =
    let next : suc (r - 1) ≡ suc r - 1 = omega arith in
    rw next at ((power_at c r a (omega arith)).below_next (omega (arith, powers_as_many c)))

-- ---- idle energies
-- A chip's own is one that a list may hold.
pub idle_range : (c : Chip) → (1 ≤ chip_idle c) × (chip_idle c ≤ most_idle)
idle_range c = omega (arith, entry_at 1 most_idle idle_figures idle_in_order (idle_entry c) (idle_inside c))

-- ---- energies
-- An energy has room in a word: at 10,000 cycles per tick or more, fewer than 2^32 cycles take at most 429,497 ticks.
pub energy-word : (c : Chip) (cycles r : ℕ) → cycles < 2 ^ 32 → 1 ≤ r → r ≤ chip_count c → chip_energy c cycles r < 2 ^ 32
energy-word c cycles r w a b =
    let fast : 10000 ≤ chip_rate c r = omega (arith, rate_at c r a b, rate-entry c r a b) in
    let falls = ceil_falls cycles 10000 (chip_rate c r) (omega arith) fast in
    let time : job_ticks cycles (chip_rate c r) ≤ 429497 = omega arith in
    omega (arith, mul-le-mul {n₂ = 5000} {m₂ = 429497} (power_range c r a b).1 time)

pub energy_positive : (c : Chip) (cycles r : ℕ) → 1 ≤ cycles → 1 ≤ r → r ≤ chip_count c → 1 ≤ chip_energy c cycles r
energy_positive c cycles r w a b =
    let time = ceil_positive cycles (chip_rate c r) w (rate_range c r a b).0 in
    mul-le-mul {n₁ = 1} {m₁ = 1} (power_range c r a b).0 time

-- At no rate is it below what the chip's idle ticks draw in that time.
pub energy_above_idle : (c : Chip) (cycles r : ℕ) → 1 ≤ r → r ≤ chip_count c
    → chip_idle c * job_ticks cycles (chip_rate c r) ≤ chip_energy c cycles r
energy_above_idle c cycles r a b =
    mul-le-mul_right (job_ticks cycles (chip_rate c r))
    (entry_at (chip_idle c) 5000 (milliwatts c) (powers_above_idle c) (r - 1) (omega (arith, powers_as_many c))).least
