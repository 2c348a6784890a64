-- What is handed to the choice of a plan: arrays with an option for each task and rate number. Not part of what a
-- reader must believe: the calls' contracts speak of the set's own loads and energies.
use Rattle.std.specs.Prelude.{ℕ, ◌+◌, ◌*◌, ◌≤◌, ◌<◌, ◌≡◌, List, length, get_or}
use Rattle.engine.specs.Arrays.{option_at, load_bound, energy_bound, Small}
use Rattle.layout.specs.declared.Layout.{Layout}
use Rattle.taskset.specs.Quantities.{task_load, task_net}

-- The place k is that of no rate number 1 to m of a task before place t, and of none before r of the task at place t.
pub record NoOption (m t r k : ℕ) : Type 0 where
  pub before : (u q : ℕ) → u < t → 1 ≤ q → q ≤ m → k ≡ u * 16 + q → ⊥
  pub here : (q : ℕ) → 1 ≤ q → q < r → k ≡ t * 16 + q → ⊥

-- The array d of 512 words holds f at every rate number 1 to m of the tasks before place t, and at those before r of
-- the task at place t, and 0 elsewhere; and every word is below a bound.
pub record Laid (f : ℕ → ℕ → ℕ) (bound m t r : ℕ) (d : List ℕ) : Type 0 where
  pub size : length d ≡ 512
  pub small : Small bound d
  pub before : (u q : ℕ) → u < t → 1 ≤ q → q ≤ m → option_at d u q ≡ f u q
  pub here : (q : ℕ) → 1 ≤ q → q < r → option_at d t q ≡ f t q
  pub elsewhere : (k : ℕ) → NoOption m t r k → get_or d k 0 ≡ 0

-- The set's loads and the energies that selection goes by, so far.
pub record LaidBoth (layout : Layout) (s : List ℕ) (m t r : ℕ) (ls es : List ℕ) : Type 0 where
  pub loads : Laid (task_load layout s) load_bound m t r ls
  pub energies : Laid (task_net layout s) energy_bound m t r es
