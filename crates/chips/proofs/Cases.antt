-- Figures of the two chips, worked out in Python and computed here of the definitions; and the rule of tables, on
-- either side.
-- Assumes nothing.
use mathlib.Core.Path.{◌≡◌, refl}
use mathlib.Core.Bool.{true, false}
use mathlib.Core.List.{[], ◌∷◌}
use Rattle.chips.specs.Chips.{megahertz, milliwatts, chip_energy, chip_rates, chip_energies, idle_figures, chip_idle}
use Rattle.chips.specs.declared.Chip.TheVariants.{Xscale, Ppc405lp}
use Rattle.chips.proofs.Rising.{rising}

pub record Cases : Type 0 where
  -- A table from its lowest to its highest entry; equal entries, a fall, and an entry too low or too high.
  pub rises : rising 12 40 (12 ∷ 13 ∷ 40 ∷ []) ≡ true
  pub stays : rising 12 40 (12 ∷ 13 ∷ 13 ∷ []) ≡ false
  pub falls : rising 12 40 (14 ∷ 13 ∷ 40 ∷ []) ≡ false
  pub too_low : rising 12 40 (11 ∷ 13 ∷ 40 ∷ []) ≡ false
  pub too_high : rising 12 40 (12 ∷ 13 ∷ 41 ∷ []) ≡ false
  -- Rates are in cycles per tick.
  pub xscale_rates : chip_rates Xscale ≡ 150000 ∷ 400000 ∷ 600000 ∷ 800000 ∷ 1000000 ∷ []
  pub ppc405lp_rates : chip_rates Ppc405lp ≡ 33000 ∷ 100000 ∷ 266000 ∷ 333000 ∷ []
  -- A job of whole ticks at every rate: 80, 30, 20, 15 and 12 of them.
  pub whole_ticks : chip_energies Xscale 12000000 ≡ 6400 ∷ 5100 ∷ 8000 ∷ 13500 ∷ 19200 ∷ []
  -- A job of whole ticks at no rate: rounded up to 152, 51, 19 and 16 of them, each one more than rounded down.
  pub broken_ticks : chip_energies Ppc405lp 5000001 ≡ 2888 ∷ 3672 ∷ 11400 ∷ 12000 ∷ []
  -- A job of one cycle takes a tick at every rate, and costs the power; one of no cycle costs nothing.
  pub xscale_one_cycle : chip_energies Xscale 1 ≡ 80 ∷ 170 ∷ 400 ∷ 900 ∷ 1600 ∷ []
  pub ppc405lp_one_cycle : chip_energies Ppc405lp 1 ≡ 19 ∷ 72 ∷ 600 ∷ 750 ∷ []
  pub xscale_no_cycle : chip_energies Xscale 0 ≡ 0 ∷ 0 ∷ 0 ∷ 0 ∷ 0 ∷ []
  pub ppc405lp_no_cycle : chip_energies Ppc405lp 0 ≡ 0 ∷ 0 ∷ 0 ∷ 0 ∷ []
  -- An energy of exactly 1,000,000, at 12,500 ticks of 80 mW; one cycle more is one tick more.
  pub at_million : chip_energy Xscale 1875000000 1 ≡ 1000000
  pub over_million : chip_energy Xscale 1875000001 1 ≡ 1000080
  -- "12 for ppc405lp, 40 for xscale"
  pub ppc405lp_idle : chip_idle Ppc405lp ≡ 12
  pub xscale_idle : chip_idle Xscale ≡ 40

pub cases : Cases
unfolding megahertz milliwatts chip_rates chip_energies idle_figures
cases = record {
  rises = refl;
  stays = refl;
  falls = refl;
  too_low = refl;
  too_high = refl;
  xscale_rates = refl;
  ppc405lp_rates = refl;
  whole_ticks = refl;
  broken_ticks = refl;
  xscale_one_cycle = refl;
  ppc405lp_one_cycle = refl;
  xscale_no_cycle = refl;
  ppc405lp_no_cycle = refl;
  at_million = refl;
  over_million = refl;
  ppc405lp_idle = refl;
  xscale_idle = refl;
}
