-- The most cycles that a job may have on each chip, so that no energy is over the largest that a list may hold: at one
-- cycle more, some energy is. On the xscale that is by its highest rate; on the ppc405lp by 266 MHz, since at 333 MHz a
-- job takes fewer of the dearer ticks.
-- Assumes nothing.
use Prim.Native.Nat.{ℕ, suc, ◌+◌, ◌-◌, ◌≤◌, ◌<◌}
use mathlib.Core.Path.{◌≡◌, refl}
use mathlib.Core.Bool.{true}
use mathlib.Core.Logic.{◌↔◌, ⊎_elim}
use native.Mathlib.Bridge.{le_by_compare, IsLe}
use native.Mathlib.Nat.{mul-le-mul_left}
use native.Mathlib.Omega.{arith}
use lib.Dec.{leb}
use borrow.Author.Tests.{leb-true}
use Rattle.numbers.proofs.Lists.{every, every_at, each_at}
use Rattle.numbers.proofs.Rounding.{ceil_grows}
use Rattle.numbers.proofs.Tests.{lt_or_le}
use Rattle.layout.specs.Words.{most_energy}
use Rattle.chips.specs.Chips.{megahertz, milliwatts, chip_count, chip_power, chip_rate, chip_energy, chip_energies}
use Rattle.chips.specs.declared.Chip.{Chip}
use Rattle.chips.specs.declared.Chip.TheVariants.{Xscale, Ppc405lp}
use Rattle.chips.proofs.Tables.{rate_range, energies-length}

-- "an energy worked out here is over 1,000,000": what must not hold at any rate.
abbrev pub AllWithin : Chip → ℕ → Type 0
AllWithin c cycles = (r : ℕ) → 1 ≤ r → r ≤ chip_count c → chip_energy c cycles r ≤ most_energy

abbrev pub most_cycles : Chip → ℕ
most_cycles Xscale = 625000000
most_cycles Ppc405lp = 443156000

-- A longer job costs no less.
pub energy_grows : (c : Chip) (a b r : ℕ) → a ≤ b → 1 ≤ r → r ≤ chip_count c → chip_energy c a r ≤ chip_energy c b r
energy_grows c a b r h low high =
    mul-le-mul_left (chip_power c r) (ceil_grows a b (chip_rate c r) (rate_range c r low high).0 h)

-- The energies of the longest job, computed, and that of one cycle more at the rate that stops it.
longest_within : (c : Chip) → every (λ e. leb e most_energy) (chip_energies c (most_cycles c)) ≡ true
unfolding megahertz milliwatts chip_energies
longest_within Xscale = refl
longest_within Ppc405lp = refl

within : (c : Chip) → AllWithin c (most_cycles c)
unfolding chip_energies
within c r low high =
    let number : 1 + (r - 1) ≡ r = omega arith in
    let at = every_at (λ e. leb e most_energy) (chip_energies c (most_cycles c)) (longest_within c) (r - 1) 0 (omega (arith, energies-length c (most_cycles c))) in
    let is = each_at (chip_energy c (most_cycles c)) 1 (chip_count c) (r - 1) (omega arith) 0 in
    leb-true (chip_energy c (most_cycles c) r) most_energy (rw (is, number) at at)

record Stops (c : Chip) : Type 0 where
  rate : ℕ
  low : 1 ≤ rate
  high : rate ≤ chip_count c
  over : most_energy < chip_energy c (suc (most_cycles c)) rate

stops : (c : Chip) → Stops c
unfolding megahertz milliwatts IsLe
stops Xscale = record { rate = 5; low = omega arith; high = omega arith; over = le_by_compare _ _ tt }
stops Ppc405lp = record { rate = 3; low = omega arith; high = omega arith; over = le_by_compare _ _ tt }

-- A longer job has an energy over the largest.
pub longer_over : (c : Chip) (cycles : ℕ) → most_cycles c < cycles
    → (r : ℕ) × (1 ≤ r) × (r ≤ chip_count c) × (most_energy < chip_energy c cycles r)
longer_over c cycles l =
    let s = stops c in
    (s.rate, s.low, s.high, omega (arith, s.over, energy_grows c (suc (most_cycles c)) cycles s.rate l s.low s.high))

pub most_cycles_lem : (c : Chip) (cycles : ℕ) → AllWithin c cycles ↔ (cycles ≤ most_cycles c)
most_cycles_lem c cycles = (few, λ h r low high. omega (arith, energy_grows c cycles (most_cycles c) r h low high, within c r low high))
  where
    few : AllWithin c cycles → cycles ≤ most_cycles c
    few all =
        ⊎_elim
        (λ (l : most_cycles c < cycles). let x = longer_over c cycles l in absurd (omega (arith, x.3, all x.0 x.1 x.2)))
        (λ (l : cycles ≤ most_cycles c). l)
        (lt_or_le (most_cycles c) cycles)
