-- From what the verdict of a set's checks computes to what a call that plans it answers, whatever is lent.
-- Assumes nothing.
use Rattle.std.specs.Prelude.{Err}
use Prim.Native.Nat.{ℕ}
use mathlib.Core.Path.{◌≡◌, refl, subst}
use mathlib.Core.List.{List}
use lib.ListN.{length}
use Rattle.layout.specs.declared.Layout.{Layout}
use Rattle.taskset.specs.Planning.{layout_of}
use Rattle.taskset.specs.Refusals.{number, second, Check, ◌▹◌, idle_checks, hyper_check, planner_checks}
use Rattle.taskset.specs.Calls.{SetAfter, PlannerGives}
use Rattle.taskset.specs.declared.Engine.{Engine}
use Rattle.taskset.specs.declared.Refusal.{Refusal}
use Rattle.taskset.proofs.Checks.{nothing, same, refuses_early}
use Rattle.taskset.proofs.Verdict.{covered_of, covered_answers}
use Rattle.taskset.specs.Answers.{Checked}

-- The call refuses, and leaves both lists as they are.
abbrev pub Declines : Engine → List ℕ → Refusal → Type 0
Declines e s r = (plan work : List ℕ) → PlannerGives e s plan work plan work (Err r)

-- The checks of the set that every such call makes, and their verdict.
module _ (layout : Layout) (s : List ℕ) where
  abbrev pub set : List Check
  set = idle_checks layout s ▹ hyper_check layout s

  pub answered : (x : Checked) → covered_of layout s ≡ x → SetAfter set layout s x
  answered x e = subst (SetAfter set layout s) e (covered_answers layout s)

-- A refusal of checks 2, 3, 10 or 4 is the call's.
pub set_refused : (e : Engine) (s : List ℕ) (r : Refusal) → covered_of (layout_of e) s ≡ Err r → Declines e s r
set_refused e s r is plan work = (
  (
    refuses_early (set (layout_of e) s) (planner_checks e s (length plan) (length work)) (same (same (same (same nothing))))
        (number r) (second r) (answered (layout_of e) s (Err r) is),
    refl,
  ),
  refl,
)
