-- The contract of a call that plans a list, the planner's and the dull engine's.
use Rattle.std.specs.Prelude.{ℕ, List, length}
use Rattle.taskset.specs.Planning.{planning, layout_of}
use Rattle.taskset.specs.Refusals.{ready_checks}
use Rattle.taskset.specs.Calls.{RateNumbers, PlannerGives}
use Rattle.taskset.specs.DemandThree.{PlanOwes}
use Rattle.taskset.specs.declared.Engine.{Engine}
use Rattle.taskset.specs.Answers.{PlannerAnswer}

-- THE CALL'S CONTRACT, where e is the engine, plan and work were lent, and plan' and work' are given back: the answer and
-- every word are document 01's; every rate number is one of a table of M entries; and the answer owes what demand 3's
-- endless walk says of it.
pub record PlannerCall (e : Engine) (s plan work plan' work' : List ℕ) (a : PlannerAnswer) : Type 0 where
  pub gives : PlannerGives e s plan work plan' work' a
  pub numbers : RateNumbers (planning (layout_of e) s) plan' a
  pub owes : PlanOwes (ready_checks e s (length plan) (length work)) (planning (layout_of e) s) plan' a
