-- What the functions below the calls are asked for and give. Not part of what a reader must believe: the calls'
-- contracts speak of Refusals and Calls alone.
use Rattle.std.specs.Prelude.{ℕ, ◌≤◌, ◌<◌, ◌≡◌, true, false, List, [], ◌∷◌, length, Option, Some, None, Result, Ok, Err}
use Rattle.numbers.specs.Search.{Found}
use Rattle.layout.specs.Words.{most_rates, most_tasks, word, rate_count, task_count, tasks_place, allows, OutOfRange}
use Rattle.layout.specs.declared.Kind.{Kind}
use Rattle.layout.specs.declared.Layout.{Layout}
use Rattle.layout.specs.Whole.{IsWhole}
use Rattle.taskset.specs.Answers.{Shape}
use Rattle.taskset.specs.Refusals.{number, second, Check, Accepts, Refuses, word_check}
use Rattle.taskset.specs.declared.Refusal.{Refusal}
use Rattle.taskset.specs.declared.Refusal.TheVariants.{BadWord}

-- What is answered of the word at place q, which must be of kind k: itself, or that it is missing or out of its range.
abbrev pub WordAfter : List ℕ → ℕ → Kind → Result ℕ Refusal → Type 0
WordAfter s q k (Ok w) = (q < length s) × (allows s q k ≡ true) × (w ≡ word s q)
WordAfter s q k (Err r) = (r ≡ BadWord q) × (q < length s → allows s q k ≡ false)

-- No word before place q is missing or out of its range.
pub record GoodBefore (layout : Layout) (s : List ℕ) (q : ℕ) : Type 0 where
  pub inside : q ≤ length s
  pub good : (j : ℕ) → j < q → OutOfRange layout s j → ⊥

-- A list of m rates and n tasks by its own counts, of which no word up to the task count is missing or out of its range.
pub record FrontPassed (layout : Layout) (m n : ℕ) (s : List ℕ) : Type 0 where
  pub counted : m ≡ rate_count layout s
  pub numbered : n ≡ task_count layout s
  pub rates_range : (2 ≤ m) × (m ≤ most_rates)
  pub tasks_range : (1 ≤ n) × (n ≤ most_tasks)
  pub words : GoodBefore layout s (tasks_place layout m)

-- What check 2 answers of the words up to the task count.
abbrev pub FrontAfter : Layout → List ℕ → Shape → Type 0
FrontAfter layout s (Ok p) = FrontPassed layout p.rates p.tasks s
FrontAfter layout s (Err r) = Refuses (word_check layout s ∷ []) (number r) (second r)

-- The task at place t of a list that passes check 2 and has m rates.
pub record OfTask (layout : Layout) (m t : ℕ) (s : List ℕ) : Type 0 where
  pub whole : IsWhole layout s
  pub counted : m ≡ rate_count layout s
  pub task : t < task_count layout s

-- A list that passes check 2 and has m rates and n tasks.
pub record OfCounts (layout : Layout) (m n : ℕ) (s : List ℕ) : Type 0 where
  pub whole : IsWhole layout s
  pub counted : m ≡ rate_count layout s
  pub numbered : n ≡ task_count layout s

-- What a search from lo on and below hi for a number with P gives that answers None where there is none.
abbrev pub FoundIn : (ℕ → Type 0) → ℕ → ℕ → Option ℕ → Type 0
FoundIn P lo hi (Some r) = Found P lo hi r × (r < hi)
FoundIn P lo hi None = Found P lo hi hi

-- What checks answer that count nothing: a refusal is the first that holds.
abbrev pub PassedAfter : List Check → Result (Unit {0}) Refusal → Type 0
PassedAfter cs (Ok u) = Accepts cs
PassedAfter cs (Err r) = Refuses cs (number r) (second r)
