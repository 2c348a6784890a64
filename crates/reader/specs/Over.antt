-- What the functions that look for an energy over the largest give. Not part of what a reader must believe: the call's
-- own contract names none of it.
use Rattle.std.specs.Prelude.{ℕ, ◌-◌, ◌≤◌, ◌<◌, List, length, Option, Some, None}
use Rattle.layout.specs.Words.{most_rates, most_tasks, most_energy, word, period_place, energy_place}
use Rattle.layout.specs.declared.Layout.TheVariants.{Ordinary}
use Rattle.forms.specs.declared.Clock.{Clock}
use Rattle.forms.specs.declared.Clock.TheVariants.{Rates, Named}
use Rattle.forms.specs.declared.Said.{Said}

-- The energy of the task at t at rate number r, in a list of m rates, is over the largest; and the task has such an
-- energy.
abbrev pub OverAt : List ℕ → ℕ → ℕ → ℕ → Type 0
OverAt d m t r = most_energy < word d (energy_place Ordinary m t r)

abbrev pub OverIn : List ℕ → ℕ → ℕ → Type 0
OverIn d m t = (r : ℕ) × (1 ≤ r) × (r ≤ m) × OverAt d m t r

-- The list has the words of n tasks behind m rates.
pub record Holds (d : List ℕ) (m n : ℕ) : Type 0 where
  pub rates : m ≤ most_rates
  pub tasks : n ≤ most_tasks
  pub room : period_place Ordinary m n ≤ length d

-- Energies are worked out under a chip alone.
abbrev pub NamesChip : Clock → Type 0
NamesChip (Rates m) = ⊥
NamesChip (Named c) = Unit {0}

-- k is the number, from 1, of the first of n tasks of which P holds; or P holds of none.
pub record IsFirst (P : ℕ → Type 0) (n k : ℕ) : Type 0 where
  pub from : 1 ≤ k
  pub few : k ≤ n
  pub here : P (k - 1)
  pub before : (t : ℕ) → t < k - 1 → P t → ⊥

abbrev pub FirstNumber : (ℕ → Type 0) → ℕ → Option ℕ → Type 0
FirstNumber P n (Some k) = IsFirst P n k
FirstNumber P n None = (t : ℕ) → t < n → P t → ⊥

abbrev pub OverTask : List ℕ → Said → Option ℕ → Type 0
OverTask d v = FirstNumber (λ t. NamesChip v.clock × OverIn d v.rates t) v.tasks
