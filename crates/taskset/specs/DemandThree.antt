-- Demand 3 of the order, of what is planned. Of a list it is judged by the endless walk: `KeepsForEver` of the set's tasks
-- under a plan (specs/Planning.antt).
use Rattle.std.specs.Prelude.{ℕ, ◌+◌, ◌-◌, ◌*◌, ◌≤◌, ◌≡◌, true, false, List, ◌↔◌, take, Ok, Err}
use Rattle.schedule.specs.Walk.{misses, KeepsForEver}
use Rattle.selection.specs.Plan.{plan_load}
use Rattle.layout.specs.Words.{task_count, first}
use Rattle.layout.specs.declared.Layout.TheVariants.{Ordinary}
use Rattle.taskset.specs.Quantities.{all_zero, problem_of, endless_tasks, walk_tasks, last_tick}
use Rattle.taskset.specs.Planning.{Planning, Keeps}
use Rattle.taskset.specs.Refusals.{number, Check, Accepts}
use Rattle.taskset.specs.Answers.{PlannerAnswer, WalkAnswer}
use Rattle.taskset.specs.declared.WalkEnd.TheVariants.{Kept, Missed}

-- A CALL THAT PLANS, where m is what is planned.

-- "at most N × (unit - 1)" (document 02, note 5).
abbrev pub margin : Planning → ℕ → ℕ
margin m unit = m.problem.count * (unit - 1)

-- "the least there is": the energy of P, which keeps every deadline for ever, and at most that of every plan that does.
pub record IsLeast (m : Planning) (P : List ℕ) (energy : ℕ) : Type 0 where
  pub keeps : m.Keeps P
  pub own : energy ≡ m.energy P
  pub least : (Q : List ℕ) → m.Keeps Q → energy ≤ m.energy Q

-- Of a plan given with a unit and an energy: it keeps every deadline for ever; the energy is its own, with what is drawn
-- in idle ticks; and (1000 + slack) × the energy of every plan that keeps every deadline for ever is at least 1000 × the
-- energy returned: "the 1000 + slack comparison is made between such totals". Of note 5: "the reported energy exceeds
-- that of every plan that keeps its deadlines by at most N × (unit - 1). With unit 1 it is therefore the least there
-- is". No unit is 0, so that unit - 1 is what it says. Of note 6: "its plan must keep all deadlines for ever under every
-- choice of A" (granted).
pub record PlanPromise (m : Planning) (P : List ℕ) (unit energy : ℕ) : Type 0 where
  pub keeps : m.Keeps P
  pub granted : m.Grants P
  pub own : energy ≡ m.energy P
  pub within : (Q : List ℕ) → m.Keeps Q → 1000 * energy ≤ (1000 + m.slack) * m.energy Q
  pub from_1 : 1 ≤ unit
  pub within_margin : (Q : List ℕ) → m.Keeps Q → energy ≤ m.energy Q + margin m unit
  pub least : unit ≡ 1 → IsLeast m P energy

-- No plan keeps every deadline for ever.
abbrev pub NoneKeeps : Planning → Type 0
NoneKeeps m = (Q : List ℕ) → m.Keeps Q → ⊥

-- What a call that plans owes with its answer, where cs are its checks before 7, and plan' is the plan list given back:
-- of a plan its promise; and "Demand 3 allows 7 only where no plan keeps every deadline for ever": a refusal is 7
-- exactly when the checks before it pass and none does.
abbrev pub PlanOwes : List Check → Planning → List ℕ → PlannerAnswer → Type 0
PlanOwes cs m plan' (Ok p) = PlanPromise m (take m.problem.count plan') p.unit p.energy
PlanOwes cs m plan' (Err r) = (number r ≡ 7) ↔ (Accepts cs × NoneKeeps m)

-- THE WALK. "all are 0"
abbrev pub Together : List ℕ → Type 0
Together s = all_zero (first Ordinary s) (task_count Ordinary s) ≡ true

-- What the walk owes with 'kept': it "means just that stretch", no deadline up to the last tick is missed, and every tick
-- of it is busy or idle; and "If all are 0", the plan keeps every deadline for ever, and busy is its load.
pub record KeptOwes (s P : List ℕ) (busy idle : ℕ) : Type 0 where
  pub stretch : (t : ℕ) → t ≤ last_tick Ordinary s → misses (walk_tasks Ordinary s P) t ≡ false
  pub counted : busy + idle ≡ last_tick Ordinary s
  pub together : Together s → Keeps Ordinary s P × (busy ≡ plan_load (problem_of Ordinary s) P)

-- And with 'missed': from these first releases the plan does not keep every deadline for ever, so that one that does is
-- 'kept'; and neither does it where all tasks are released together.
pub record MissedOwes (s P : List ℕ) : Type 0 where
  pub from_these : KeepsForEver (walk_tasks Ordinary s P) → ⊥
  pub from_0 : KeepsForEver (endless_tasks Ordinary s P) → ⊥

abbrev pub WalkOwes : List ℕ → List ℕ → WalkAnswer → Type 0
WalkOwes s P (Ok (Kept busy idle preempted)) = KeptOwes s P busy idle
WalkOwes s P (Ok (Missed tick task)) = MissedOwes s P
WalkOwes s P (Err r) = Unit {0}
