-- Two answers of the checks before 7 are equal; and so are two answers of the call, with the lists given back.
-- Assumes nothing.
use Prim.Native.Nat.{ℕ}
use mathlib.Core.Path.{◌≡◌}
use mathlib.Core.List.{List}
use Rattle.taskset.specs.Planning.{layout_of}
use Rattle.taskset.specs.Refusals.{ready_checks}
use Rattle.taskset.specs.declared.Engine.{Engine}
use Rattle.taskset.specs.Calls.{SetAfter}
use Rattle.taskset.proofs.Unique.{ready_single, set_unique, SameGiven, planner_unique}
use Rattle.planner.specs.Answers.{PlannerCall}
use Rattle.taskset.specs.Answers.{Checked, PlannerAnswer}

pub ready_unique : (e : Engine) (s : List ℕ) (planLength workLength : ℕ) (a b : Checked)
    → SetAfter (ready_checks e s planLength workLength) (layout_of e) s a
    → SetAfter (ready_checks e s planLength workLength) (layout_of e) s b → a ≡ b
ready_unique e s pl wl = set_unique (ready_checks e s pl wl) (ready_single e s pl wl) (layout_of e) s

pub plan_unique : (e : Engine) (s plan work plan₁ work₁ plan₂ work₂ : List ℕ) (a b : PlannerAnswer)
    → PlannerCall e s plan work plan₁ work₁ a → PlannerCall e s plan work plan₂ work₂ b → SameGiven a b plan₁ work₁ plan₂ work₂
plan_unique e s plan work p₁ w₁ p₂ w₂ a b x y = planner_unique e s plan work p₁ w₁ p₂ w₂ a b x.gives y.gives
