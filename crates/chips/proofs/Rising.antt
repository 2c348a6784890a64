-- Constant tables: one rule, which is computed over a table as a whole, and one law, which gives what the rule says of
-- each entry; and what is computed of each chip's tables, the rule with it.
-- Assumes nothing.
use Prim.Native.Nat.{ℕ, zero, suc, ◌≤◌, ◌<◌}
use mathlib.Core.Path.{◌≡◌, refl}
use mathlib.Core.Bool.{Bool, true, ◌&&◌}
use mathlib.Core.List.{List, [], ◌∷◌}
use native.Mathlib.Omega.{arith}
use lib.ListN.{length, get_or}
use Rattle.numbers.specs.Numbers.{between}
use Rattle.numbers.proofs.Tests.{and-true, between_true}
use Rattle.layout.specs.Words.{most_rates, most_idle}
use Rattle.chips.specs.Chips.{megahertz, milliwatts, chip_count, chip_rates, idle_figures, chip_idle, idle_entry}
use Rattle.chips.specs.declared.Chip.{Chip}
use Rattle.chips.specs.declared.Chip.TheVariants.{Xscale, Ppc405lp}

-- ---- any table
-- The rule: every entry is from low to high, and each is above the one before it, so that behind x the lowest is x + 1.
abbrev pub rising : (low high : ℕ) → List ℕ → Bool
rising low high [] = true
rising low high (x ∷ xs) = between low high x && rising (suc x) high xs

-- What it says of the entry at place k, counted from 0.
pub record Entry (low high : ℕ) (table : List ℕ) (k : ℕ) : Type 0 where
  pub least : low ≤ get_or table k 0
  pub most : get_or table k 0 ≤ high
  pub below_next : suc k < length table → get_or table k 0 < get_or table (suc k) 0

-- The rule at the first entry, and of those behind it.
first_entry : (low high x : ℕ) (xs : List ℕ) → rising low high (x ∷ xs) ≡ true
    → (low ≤ x) × (x ≤ high) × (rising (suc x) high xs ≡ true)
first_entry low high x xs e =
    let h = and-true (between low high x) (rising (suc x) high xs) e in
    let range = between_true low high x h.0 in
    (range.0, range.1, h.1)

-- The law.
pub entry_at : (low high : ℕ) (table : List ℕ) → rising low high table ≡ true → (k : ℕ) → k < length table
    → Entry low high table k
entry_at low high [] e k h = absurd (omega arith)
entry_at low high (x ∷ xs) e zero h =
    let p = first_entry low high x xs e in
    record { least = p.0; most = p.1; below_next = λ more. (entry_at (suc x) high xs p.2 0 (omega arith)).least }
entry_at low high (x ∷ xs) e (suc k) h =
    let p = first_entry low high x xs e in
    let r = entry_at (suc x) high xs p.2 k (omega arith) in
    record { least = omega arith; most = r.most; below_next = λ more. r.below_next (omega arith) }

-- ---- each chip's tables, chip by chip: here and nowhere else
-- 2 to 8 rates, and as many powers.
pub count_in_range : (c : Chip) → between 2 most_rates (chip_count c) ≡ true
unfolding megahertz
count_in_range Xscale = refl
count_in_range Ppc405lp = refl

pub powers_as_many : (c : Chip) → length (milliwatts c) ≡ chip_count c
unfolding megahertz milliwatts
powers_as_many Xscale = refl
powers_as_many Ppc405lp = refl

-- Rates in cycles per tick, from 10,000 to 1,000,000; powers from 1 mW to 5,000 mW.
pub rates_in_order : (c : Chip) → rising 10000 1000000 (chip_rates c) ≡ true
unfolding megahertz chip_rates
rates_in_order Xscale = refl
rates_in_order Ppc405lp = refl

pub powers_in_order : (c : Chip) → rising 1 5000 (milliwatts c) ≡ true
unfolding milliwatts
powers_in_order Xscale = refl
powers_in_order Ppc405lp = refl

-- Idle energies from 1 microjoule to the most that a list may hold, and one for each chip.
pub idle_in_order : rising 1 most_idle idle_figures ≡ true
unfolding idle_figures
idle_in_order = refl

pub idle_inside : (c : Chip) → idle_entry c < length idle_figures
unfolding idle_figures
idle_inside Xscale = omega arith
idle_inside Ppc405lp = omega arith

-- A chip draws more at every rate than when it waits: a tick's idle energy in microjoules is a power in mW.
pub powers_above_idle : (c : Chip) → rising (chip_idle c) 5000 (milliwatts c) ≡ true
unfolding milliwatts idle_figures
powers_above_idle Xscale = refl
powers_above_idle Ppc405lp = refl

-- The rate numbers of a chip, where it is known which one it is.
pub xscale_few : {c : Chip} {r : ℕ} → c ≡ Xscale → r ≤ chip_count c → r ≤ 5
unfolding megahertz
xscale_few e h = rw e at h

pub ppc405lp_few : {c : Chip} {r : ℕ} → c ≡ Ppc405lp → r ≤ chip_count c → r ≤ 4
unfolding megahertz
ppc405lp_few e h = rw e at h
