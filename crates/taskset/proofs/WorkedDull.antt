-- Document 01's marked selections by the dull engine (document 02, note 7): it has the planner's answers to S, at both
-- slacks, to the tie and to 61 cycles, and is lent no working words. Its own edges are in DullCases.antt.
-- Assumes nothing.
use Rattle.std.specs.Prelude.{Err}
use Prim.Native.Nat.{ℕ, ◌^◌, ◌≤◌}
use native.Mathlib.Bridge.{le_by_compare, IsLe}
use mathlib.Core.Path.{◌≡◌}
use mathlib.Core.List.{List, [], ◌∷◌}
use native.Mathlib.Omega.{arith}
use lib.ListN.{length, replicate, length-replicate}
use Rattle.selection.specs.Plan.{most_plans}
use Rattle.layout.specs.Words.{head_kinds, rate_count, task_count}
use Rattle.layout.specs.declared.Layout.TheVariants.{Ordinary}
use Rattle.taskset.specs.Calls.{PlannerGives}
use Rattle.taskset.specs.declared.Engine.TheVariants.{Table, Exhaustive}
use Rattle.taskset.specs.declared.Refusal.TheVariants.{NoPlan}
use Rattle.taskset.proofs.Cases.{S, one_task_of, even_tasks, cases}
use Rattle.taskset.proofs.DullCases.{few}
use Rattle.taskset.proofs.TwoEngines.{refused_with, as_dull}
use Rattle.taskset.specs.Answers.{PlannerAnswer, ok_planned}

-- An answer of the planner's that is not 5, with w working words lent, of a set of few plans.
by_planner : (s plan plan' work' : List ℕ) (w : ℕ) (a : PlannerAnswer) → (refused_with a ≡ 5 → ⊥)
    → rate_count Ordinary s ^ task_count Ordinary s ≤ most_plans → PlannerGives (Table Ordinary) s plan (replicate w 0) plan' work' a
    → PlannerGives Exhaustive s plan [] plan' [] a
by_planner s plan plan' work' w a not-5 small g = as_dull s plan (replicate w 0) plan' work' a g not-5 (few s small) []

pub record WorkedDull : Type 0 where
  dull_100 : (plan : List ℕ) → length plan ≡ 2 → PlannerGives Exhaustive (S 100) plan [] (2 ∷ 1 ∷ []) [] (ok_planned 1 29 30 41)
  dull_1000 : (plan : List ℕ) → length plan ≡ 2 → PlannerGives Exhaustive (S 1000) plan [] (1 ∷ 2 ∷ []) [] (ok_planned 8 28 30 42)
  dull_tie : (plan : List ℕ) → length plan ≡ 2 → PlannerGives Exhaustive even_tasks plan [] (2 ∷ 1 ∷ []) [] (ok_planned 1 4 4 6)
  dull_61 : (plan : List ℕ) → 1 ≤ length plan → PlannerGives Exhaustive (one_task_of 61) plan [] plan [] (Err NoPlan)

pub worked_dull : WorkedDull
unfolding S one_task_of even_tasks head_kinds IsLe
worked_dull = record {
  dull_100 = λ plan h.
      by_planner (S 100) plan _ _ 243 (ok_planned 1 29 30 41) (λ e. omega arith) (le_by_compare _ _ tt)
      (cases.planned_100 plan (replicate 243 0) h (length-replicate {A = ℕ} 243 0));
  dull_1000 = λ plan h.
      by_planner (S 1000) plan _ _ 27 (ok_planned 8 28 30 42) (λ e. omega arith) (le_by_compare _ _ tt)
      (cases.planned_1000 plan (replicate 27 0) h (length-replicate {A = ℕ} 27 0));
  dull_tie = λ plan h.
      by_planner even_tasks plan _ _ 243 (ok_planned 1 4 4 6) (λ e. omega arith) (le_by_compare _ _ tt)
      (cases.tie plan (replicate 243 0) h (length-replicate {A = ℕ} 243 0));
  dull_61 = λ plan h.
      by_planner (one_task_of 61) plan _ _ 82 (Err NoPlan) (λ e. omega arith) (le_by_compare _ _ tt)
      (cases.cycles_61 plan (replicate 82 0) h (omega (arith, length-replicate {A = ℕ} 82 0)));
}
