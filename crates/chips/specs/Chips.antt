-- Two processors by name (document 02, notes 2 and 4): the rates of each, what a job costs on it, and what an idle tick
-- does.
use Rattle.std.specs.Prelude.{ℕ, ◌-◌, ◌*◌, List, [], ◌∷◌, length, get_or}
use Rattle.numbers.specs.Numbers.{each}
use Rattle.taskset.specs.Quantities.{job_ticks}
use Rattle.chips.specs.declared.Chip.{Chip}
use Rattle.chips.specs.declared.Chip.TheVariants.{Xscale, Ppc405lp}

-- "xscale 150, 400, 600, 800, 1000 MHz at 80, 170, 400, 900, 1600 mW; ppc405lp 33, 100, 266, 333 MHz at 19, 72, 600,
-- 750 mW."
unfoldable pub megahertz : Chip → List ℕ
megahertz Xscale = 150 ∷ 400 ∷ 600 ∷ 800 ∷ 1000 ∷ []
megahertz Ppc405lp = 33 ∷ 100 ∷ 266 ∷ 333 ∷ []

unfoldable pub milliwatts : Chip → List ℕ
milliwatts Xscale = 80 ∷ 170 ∷ 400 ∷ 900 ∷ 1600 ∷ []
milliwatts Ppc405lp = 19 ∷ 72 ∷ 600 ∷ 750 ∷ []

-- How many rates a chip has, and the entry of a table for rate number r, which counts from 1.
abbrev pub chip_count : Chip → ℕ
chip_count c = length (megahertz c)

abbrev pub entry : List ℕ → ℕ → ℕ
entry table r = get_or table (r - 1) 0

-- "One tick is a millisecond, so rates are MHz × 1,000"
abbrev pub chip_rate : Chip → ℕ → ℕ
chip_rate c r = entry (megahertz c) r * 1000

abbrev pub chip_power : Chip → ℕ → ℕ
chip_power c r = entry (milliwatts c) r

-- "and an energy is power in mW times the job time": of a job of so many cycles, at rate number r.
abbrev pub chip_energy : Chip → ℕ → ℕ → ℕ
chip_energy c cycles r = chip_power c r * job_ticks cycles (chip_rate c r)

-- "Chips bring H of their own unless the line is given: 12 for ppc405lp, 40 for xscale."
unfoldable pub idle_figures : List ℕ
idle_figures = 12 ∷ 40 ∷ []

-- Where a chip's figure stands in that table, counted from 0.
abbrev pub idle_entry : Chip → ℕ
idle_entry Xscale = 1
idle_entry Ppc405lp = 0

abbrev pub chip_idle : Chip → ℕ
chip_idle c = get_or idle_figures (idle_entry c) 0

-- The chip's rates, and the energies of such a job, one per rate.
unfoldable pub chip_rates : Chip → List ℕ
chip_rates c = each (chip_rate c) 1 (chip_count c)

unfoldable pub chip_energies : Chip → ℕ → List ℕ
chip_energies c cycles = each (chip_energy c cycles) 1 (chip_count c)
