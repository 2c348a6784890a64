-- A task set as a list of words (document 01, 'A task set'): which words there are, what stands where, and what each
-- word may be. A list has the words of its head, the first of them the slack; the rate count; the rates; the task
-- count; then for each task its period, its cycles, what else its layout has there, and its energies. Places are
-- functions of the layout, the rate count m, the task's place t (from 0) and the rate number r (from 1); nothing
-- outside this crate knows a place or a size by its number.
use Rattle.std.specs.Prelude.{ℕ, zero, suc, ◌+◌, ◌-◌, ◌*◌, ◌%◌, ◌<◌, ◌≡◌, Bool, false, cond, List, [], ◌∷◌, ◌⊎◌, ltb, eqb, length, get_or}
use Rattle.numbers.specs.Numbers.{between}
use Rattle.layout.specs.declared.Kind.{Kind}
use Rattle.layout.specs.declared.Kind.TheVariants.{Slack, Idle, RateCount, Rate, TaskCount, Period, Cycles, First, Energy, LeftOver}
use Rattle.layout.specs.declared.Layout.{Layout}
use Rattle.layout.specs.declared.Layout.TheVariants.{Ordinary}

-- WHICH LIST. A layout is the kinds of the words of its head, in order, and of the words between a task's cycles and
-- its energies. Document 01's list is the ordinary one: "the slack G" before "the rate count M", and energies after the
-- cycles; of document 02's note 4, "the set list gains H as a word after the slack"; of its note 6, "the task record gains
-- A after the cycles".
unfoldable pub head_kinds : Layout → List Kind
head_kinds Ordinary = Slack ∷ Idle ∷ []

unfoldable pub extra_kinds : Layout → List Kind
extra_kinds Ordinary = First ∷ []

-- How many words these are.
abbrev pub head_size : Layout → ℕ
head_size layout = length (head_kinds layout)

abbrev pub extra_size : Layout → ℕ
extra_size layout = length (extra_kinds layout)

-- The most rates, tasks and words of the ordinary list, the largest idle energy of a tick, the longest period, the
-- longest job in cycles and the largest energy of a job.
abbrev pub most_rates : ℕ
most_rates = 8

abbrev pub most_tasks : ℕ
most_tasks = 32

abbrev pub most_words : ℕ
most_words = 364

abbrev pub most_idle : ℕ
most_idle = 1000

abbrev pub longest_period : ℕ
longest_period = 10000000

abbrev pub longest_job : ℕ
longest_job = 4000000000

abbrev pub most_energy : ℕ
most_energy = 1000000

-- PLACES. "Tasks and rates are numbered from 1, places in lists and texts from 0."

-- The word at a place; 0 past the end.
abbrev pub word : List ℕ → ℕ → ℕ
word s q = get_or s q 0

-- The slack is the first word of every head, and H the second.
abbrev pub slack_place : ℕ
slack_place = 0

abbrev pub idle_place : ℕ
idle_place = 1

abbrev pub rate_place : Layout → ℕ → ℕ
rate_place layout r = head_size layout + r

abbrev pub task_count_place : Layout → ℕ → ℕ
task_count_place layout m = head_size layout + 1 + m

-- The first task's place, and the words of one task.
abbrev pub tasks_place : Layout → ℕ → ℕ
tasks_place layout m = head_size layout + 2 + m

abbrev pub task_size : Layout → ℕ → ℕ
task_size layout m = 2 + extra_size layout + m

abbrev pub period_place : Layout → ℕ → ℕ → ℕ
period_place layout m t = tasks_place layout m + t * task_size layout m

abbrev pub cycles_place : Layout → ℕ → ℕ → ℕ
cycles_place layout m t = period_place layout m t + 1

-- The first release is straight after the cycles.
abbrev pub first_place : Layout → ℕ → ℕ → ℕ
first_place layout m t = period_place layout m t + 2

abbrev pub energy_place : Layout → ℕ → ℕ → ℕ → ℕ
energy_place layout m t r = period_place layout m t + (1 + extra_size layout + r)

-- "the slack G .. the rate count M .. the task count N", and "H in microjoules per tick"
abbrev pub slack : List ℕ → ℕ
slack s = word s slack_place

abbrev pub idle : List ℕ → ℕ
idle s = word s idle_place

abbrev pub rate_count : Layout → List ℕ → ℕ
rate_count layout s = word s (head_size layout)

abbrev pub task_count : Layout → List ℕ → ℕ
task_count layout s = word s (task_count_place layout (rate_count layout s))

-- How many words the list must have; where the counts themselves are missing, more than it has.
abbrev pub word_count : Layout → List ℕ → ℕ
word_count layout s = period_place layout (rate_count layout s) (task_count layout s)

-- "M rates", and "for each task the period p .., the cycles c .., and M energies", with "A after the cycles": of rate
-- number r, of the task at t.
module _ (layout : Layout) (s : List ℕ) where
  abbrev pub rate : ℕ → ℕ
  rate r = word s (rate_place layout r)

  abbrev pub period : ℕ → ℕ
  period t = word s (period_place layout (rate_count layout s) t)

  abbrev pub cycles : ℕ → ℕ
  cycles t = word s (cycles_place layout (rate_count layout s) t)

  abbrev pub first : ℕ → ℕ
  first t = word s (first_place layout (rate_count layout s) t)

  abbrev pub energy : ℕ → ℕ → ℕ
  energy t r = word s (energy_place layout (rate_count layout s) t r)

-- KINDS.

-- Item k of a list of kinds.
unfoldable pub kind_in : List Kind → ℕ → Kind
kind_in [] k = LeftOver
kind_in (x ∷ xs) zero = x
kind_in (x ∷ xs) (suc k) = kind_in xs k

-- Word q of the head; word k of a task.
unfoldable pub head_kind : Layout → ℕ → Kind
head_kind layout q = kind_in (head_kinds layout) q

unfoldable pub task_kind : Layout → ℕ → Kind
task_kind layout k =
    cond (eqb k 0) Period
    (cond (eqb k 1) Cycles
    (cond (ltb k (2 + extra_size layout)) (kind_in (extra_kinds layout) (k - 2))
    Energy))

-- What the word at place q stands for, by the words before it.
unfoldable pub kind_at : Layout → List ℕ → ℕ → Kind
kind_at layout s q =
    cond (ltb q (head_size layout)) (head_kind layout q)
    (cond (eqb q (head_size layout)) RateCount
    (cond (ltb q (task_count_place layout (rate_count layout s))) Rate
    (cond (eqb q (task_count_place layout (rate_count layout s))) TaskCount
    (cond (ltb q (word_count layout s))
    (task_kind layout ((q - tasks_place layout (rate_count layout s)) % task_size layout (rate_count layout s)))
    LeftOver))))

-- RANGES. "the slack G in thousandths (1 to 1,000); the rate count M (2 to 8); M rates in cycles per tick (1 to
-- 1,000,000); the task count N (1 to 32); then for each task the period p in ticks (1 to 10,000,000), the cycles c of
-- one job (1 to 4,000,000,000), and M energies in microjoules per job (1 to 1,000,000)": whether the word at place q,
-- of a kind, is in its range; and "H in microjoules per tick, 0 to 1,000"; and "A below the period", the word two places
-- before. A word that is left over may be nothing.
unfoldable pub allows : List ℕ → ℕ → Kind → Bool
allows s q Slack = between 1 1000 (word s q)
allows s q Idle = between 0 most_idle (word s q)
allows s q RateCount = between 2 most_rates (word s q)
allows s q Rate = between 1 1000000 (word s q)
allows s q TaskCount = between 1 most_tasks (word s q)
allows s q Period = between 1 longest_period (word s q)
allows s q Cycles = between 1 longest_job (word s q)
allows s q First = ltb (word s q) (word s (q - 2))
allows s q Energy = between 1 most_energy (word s q)
allows s q LeftOver = false

-- The word at place q is out of its range.
abbrev pub OutOfRange : Layout → List ℕ → ℕ → Type 0
OutOfRange layout s q = allows s q (kind_at layout s q) ≡ false

-- "Set word out of its range, missing or left over": the fault at place q.
abbrev pub WordFault : Layout → List ℕ → ℕ → Type 0
WordFault layout s q = ((q < length s) × OutOfRange layout s q) ⊎ ((q ≡ length s) × (length s < word_count layout s))
