-- What the choice of a plan takes and gives, over arrays of loads and energies. Not part of what a reader must believe:
-- the planner's contract speaks of the set's own problem.
use Rattle.std.specs.Prelude.{ℕ, ◌≤◌, ◌≡◌, List, ◌++◌, length, drop, replicate}
use Rattle.selection.specs.Plan.{work_words}
use Rattle.engine.specs.declared.Request.{Request}
use Rattle.engine.specs.declared.Choice.{Choice}
use Rattle.engine.specs.Arrays.{EngineReady, ChosenBy}

-- What the choice asks: what every engine does, and the working words needed.
pub record ChoiceReady (q : Request) (loads energies plan work : List ℕ) : Type 0 where
  pub engine : EngineReady q loads energies plan
  pub work_room : work_words q.tasks q.slack ≤ length work

-- What it gives: the choice, and zeros where the table was; every other word of the working list as before.
pub record Chose (q : Request) (loads energies plan work plan' work' : List ℕ) (c : Choice) : Type 0 where
  pub chosen : ChosenBy q loads energies plan plan' c
  pub cleared : work' ≡ replicate (work_words q.tasks q.slack) 0 ++ drop (work_words q.tasks q.slack) work
  pub work_size : length work' ≡ length work
