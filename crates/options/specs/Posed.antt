-- What an engine is asked for what is planned. Not part of what a reader must believe: the calls' contracts speak of the
-- planning's own problem.
use Rattle.std.specs.Prelude.{ℕ, ◌≡◌, List, Result, Ok, Err}
use Rattle.selection.specs.Plan.{Fitting}
use Rattle.selection.specs.Same.{Same}
use Rattle.layout.specs.declared.Layout.{Layout}
use Rattle.taskset.specs.Quantities.{hyper_period}
use Rattle.taskset.specs.Planning.{Planning}
use Rattle.taskset.specs.Sets.{IsSet}
use Rattle.taskset.specs.Sets.{Covered}
use Rattle.engine.specs.Arrays.{load_bound, energy_bound, arrays, Asked, Small}
use Rattle.engine.specs.declared.Request.{Request}
use Rattle.taskset.specs.declared.Refusal.{Refusal}
use Rattle.taskset.specs.declared.Refusal.TheVariants.{NoPlan}

-- A set that passes checks 2, 3, 10 and 4, with its hyper-period.
pub record SetGiven (layout : Layout) (s : List ℕ) (l : ℕ) : Type 0 where
  pub set : IsSet layout s
  pub covered : Covered layout s
  pub hyper : l ≡ hyper_period layout s

-- The request and the arrays give the planning's own problem, with its slack; and a plan fits.
pub record Poses (m : Planning) (loads energies : List ℕ) (q : Request) : Type 0 where
  pub same : Same (arrays q loads energies) m.problem
  pub slack_is : q.slack ≡ m.slack
  pub asked : Asked q loads energies
  pub loads_fit : Small load_bound loads
  pub energies_fit : Small energy_bound energies

-- The request where a plan fits, or the refusal that says that none does.
abbrev pub PosedFor : Planning → (loads energies : List ℕ) → Result Request Refusal → Type 0
PosedFor m loads energies (Ok q) = Poses m loads energies q
PosedFor m loads energies (Err r) = (r ≡ NoPlan) × ((P : List ℕ) → Fitting m.problem P → ⊥)
