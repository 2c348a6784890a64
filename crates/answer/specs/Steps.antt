-- What the functions below the call take and give. Not part of what a reader must believe: the call's own contract
-- names none of it.
use Rattle.std.specs.Prelude.{ℕ, List, [], ◌∷◌, ◌≡◌, ◌≤◌, length, take, Result, Ok, Err}
use Rattle.taskset.specs.Refusals.{number, second, Accepts, Refuses, planner_checks}
use Rattle.taskset.specs.Calls.{Selected}
use Rattle.taskset.specs.Planning.{planning}
use Rattle.taskset.specs.declared.Planned.{Planned}
use Rattle.taskset.specs.declared.Refusal.{Refusal}
use Rattle.taskset.specs.declared.Engine.TheVariants.{Table}
use Rattle.layout.specs.declared.Layout.TheVariants.{Ordinary}
use Rattle.printer.specs.Puts.{Put}
use Rattle.lines.specs.Lines.{refused_line}
use Rattle.answer.specs.Answer.{work_lent, plan_lent, PrintsPlan, Prints}

-- A plan that the planner gave for a set, with its four values.
pub record PlannedSet (s P : List ℕ) (unit load hyper energy : ℕ) : Type 0 where
  pub accepts : Accepts (planner_checks (Table Ordinary) s plan_lent work_lent)
  pub selected : Selected (planning Ordinary s) P (unit ∷ load ∷ hyper ∷ energy ∷ [])

-- The answer with such a plan, in the first words of the plan list, and how many; or the planner's refusal.
abbrev pub PlannedAfter : (s plan : List ℕ) → Result (ℕ × Planned) Refusal → Type 0
PlannedAfter s plan (Ok a) = (a.0 ≤ length plan) × PlannedSet s (take a.0 plan) a.1.unit a.1.load a.1.hyper a.1.energy
PlannedAfter s plan (Err r) = Refuses (planner_checks (Table Ordinary) s plan_lent work_lent) (number r) (second r)

-- The lines for a set's words: of the planner's refusal, or of a plan.
pub data PrintsSet (s out : List ℕ) : Type 0 where
  refused : (n k : ℕ) → Refuses (planner_checks (Table Ordinary) s plan_lent work_lent) n k → out ≡ refused_line n k → PrintsSet s out
  planned : (P : List ℕ) (unit load hyper energy busy idle preempted : ℕ)
      → PrintsPlan s P out unit load hyper energy busy idle preempted → PrintsSet s out

-- They stand at the front of the buffer.
abbrev pub PutSet : (s d d' : List ℕ) → ℕ → Type 0
PutSet s d d' n = (out : List ℕ) × PrintsSet s out × Put out d d' n

abbrev pub PutAnswer : (t d d' : List ℕ) → ℕ → Type 0
PutAnswer t d d' n = (out : List ℕ) × Prints t out × Put out d d' n
