-- What stands between a call that plans and its engine. Not part of what a reader must believe: the calls' contracts
-- speak of the list's own planning.
use Rattle.std.specs.Prelude.{ℕ, ◌^◌, ◌≤◌, ◌≡◌, List, length}
use Rattle.selection.specs.Plan.{work_words, most_plans}
use Rattle.engine.specs.Arrays.{EngineReady, ChosenBy}
use Rattle.engine.specs.declared.Request.{Request}
use Rattle.engine.specs.declared.Choice.{Choice}
use Rattle.taskset.specs.Calls.{Cleared}
use Rattle.taskset.specs.declared.Engine.{Engine}
use Rattle.taskset.specs.declared.Engine.TheVariants.{Table, Exhaustive}

-- What an engine asks of its own: the table its working words, the other a task, and few plans.
abbrev pub Asks : Engine → Request → List ℕ → Type 0
Asks (Table layout) q work = work_words q.tasks q.slack ≤ length work
Asks Exhaustive q work = (1 ≤ q.tasks) × (q.rates ^ q.tasks ≤ most_plans)

pub record EngineAsked (e : Engine) (q : Request) (loads energies plan work : List ℕ) : Type 0 where
  pub engine : EngineReady q loads energies plan
  pub own : Asks e q work

-- The working words that it clears.
abbrev pub clears : Engine → Request → ℕ
clears (Table layout) q = work_words q.tasks q.slack
clears Exhaustive q = 0

-- What it gives: the choice, and zeros where it worked; every other word of the working list as before.
pub record EngineChose (e : Engine) (q : Request) (loads energies plan work plan' work' : List ℕ) (c : Choice) : Type 0 where
  pub chosen : ChosenBy q loads energies plan plan' c
  pub cleared : Cleared (clears e q) work work'
  pub work_size : length work' ≡ length work
