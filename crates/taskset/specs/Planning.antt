-- What is planned, as one value. What a call that plans gives (specs/Calls.antt) and owes (specs/DemandThree.antt) goes by
-- it; what a list is planned as stands here, field by field.
use Rattle.std.specs.Prelude.{ℕ, ◌<◌, List}
use Rattle.schedule.specs.Walk.{KeepsForEver}
use Rattle.selection.specs.Plan.{Problem, IsPlan}
use Rattle.layout.specs.Words.{task_count, period}
use Rattle.layout.specs.Words.{slack as slackOf}
use Rattle.layout.specs.declared.Layout.{Layout}
use Rattle.layout.specs.declared.Layout.TheVariants.{Ordinary}
use Rattle.taskset.specs.Quantities.{hyper_period, problem_of, endless_tasks, tasks_with, reported_energy, work_needed}
use Rattle.taskset.specs.declared.Engine.{Engine}
use Rattle.taskset.specs.declared.Engine.TheVariants.{Table, Exhaustive}

-- The problem of selection; "the slack G in thousandths"; "Hyper-period L"; the energy that is reported of a plan; the
-- plans that demand 3 compares with; and what a plan that is given grants besides.
pub record Planning : Type 1 where
  pub problem : Problem
  pub slack : ℕ
  pub hyper : ℕ
  pub energy : List ℕ → ℕ
  pub Keeps : List ℕ → Type 0
  pub Grants : List ℕ → Type 0

module _ (layout : Layout) (s : List ℕ) where
  -- "It takes a set and a plan, each number 1 to M": a plan Q, one number for each task, that keeps every deadline for
  -- ever.
  pub record Keeps (Q : List ℕ) : Type 0 where
    pub plan : IsPlan (problem_of layout s) Q
    pub for_ever : KeepsForEver (endless_tasks layout s Q)

  -- First releases that a set may have, a t for the task at t: "A below the period".
  abbrev pub AreFirsts : (ℕ → ℕ) → Type 0
  AreFirsts a = (t : ℕ) → t < task_count layout s → a t < period layout s t

  -- Every deadline for ever, whichever of these they are.
  abbrev pub KeepsFrom : List ℕ → Type 0
  KeepsFrom P = (a : ℕ → ℕ) → AreFirsts a → KeepsForEver (tasks_with layout s a P)

  -- WHAT A LIST IS PLANNED AS.
  abbrev pub planning : Planning
  planning = record {
    -- "Units, rounding and selection now use the energy per job less H × job time", and a plan "fits when its load is at
    -- most L."
    problem = problem_of layout s;
    -- "the slack G in thousandths"
    slack = slackOf s;
    -- "Hyper-period L: the least common multiple of the periods"
    hyper = hyper_period layout s;
    -- "The reported energy is the plan's task energies plus H × (L - load), and the 1000 + slack comparison is made
    -- between such totals."
    energy = reported_energy layout s;
    -- "A plan keeps every deadline for ever when it misses at no tick, however late."
    Keeps = Keeps;
    -- "its plan must keep all deadlines for ever under every choice of A" (document 02, note 6)
    Grants = KeepsFrom;
  }

-- WHICH ENGINE. The table plans a list of any layout, in W working words. The engine of document 02's note 7 plans the
-- ordinary list, and "needs no working words".
abbrev pub layout_of : Engine → Layout
layout_of (Table layout) = layout
layout_of Exhaustive = Ordinary

abbrev pub work_of : Engine → List ℕ → ℕ
work_of (Table layout) s = work_needed layout s
work_of Exhaustive s = 0
