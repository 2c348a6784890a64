-- What a list without a fault is: it has just the words that it must have, each in its range. Not part of what a reader
-- must believe: proofs/Whole.antt shows that it is so exactly where there is no fault.
use Rattle.std.specs.Prelude.{ℕ, ◌+◌, ◌≤◌, ◌<◌, ◌≡◌, true, List, length}
use Rattle.layout.specs.Words.{head_size, extra_kinds, extra_size, most_rates, most_tasks, longest_period, longest_job}
use Rattle.layout.specs.Words.{rate_count, task_count, period_place, word_count, rate, period, cycles, energy}
use Rattle.layout.specs.Words.{most_energy, kind_in, head_kind, allows}
use Rattle.layout.specs.declared.Layout.{Layout}

pub record IsWhole (layout : Layout) (s : List ℕ) : Type 0 where
  pub size : length s ≡ word_count layout s
  pub rates_range : (2 ≤ rate_count layout s) × (rate_count layout s ≤ most_rates)
  pub tasks_range : (1 ≤ task_count layout s) × (task_count layout s ≤ most_tasks)
  pub head_word : (q : ℕ) → q < head_size layout → allows s q (head_kind layout q) ≡ true
  pub rate_range : (r : ℕ) → 1 ≤ r → r ≤ rate_count layout s → (1 ≤ rate layout s r) × (rate layout s r ≤ 1000000)
  pub period_range : (t : ℕ) → t < task_count layout s → (1 ≤ period layout s t) × (period layout s t ≤ longest_period)
  pub cycles_range : (t : ℕ) → t < task_count layout s → (1 ≤ cycles layout s t) × (cycles layout s t ≤ longest_job)
  pub extra_word : (t k : ℕ) → t < task_count layout s → k < extra_size layout
      → allows s (period_place layout (rate_count layout s) t + (2 + k)) (kind_in (extra_kinds layout) k) ≡ true
  pub energy_range : (t r : ℕ) → t < task_count layout s → 1 ≤ r → r ≤ rate_count layout s
      → (1 ≤ energy layout s t r) × (energy layout s t r ≤ most_energy)
