-- The planner and the dull engine (document 02, note 7), on one list and one plan list: "Its refusals are the planner's
-- without 5, and where both succeed the four numbers and the plan list are equal." The checks of the two differ in one:
-- the planner makes 5 where the dull engine makes 11. So 5 and 11 apart they give one answer and one plan list, and
-- succeed on the same sets.
-- Assumes nothing.
use Rattle.std.specs.Prelude.{Ok, Err}
use Prim.Native.Nat.{ℕ}
use mathlib.Core.Path.{◌≡◌}
use mathlib.Core.List.{List, [], ◌∷◌, ◌++◌}
use mathlib.Core.Logic.{◌↔◌}
use lib.ListN.{length}
use Rattle.selection.specs.Plan.{Fitting}
use Rattle.layout.specs.Words.{task_count}
use Rattle.layout.specs.declared.Layout.TheVariants.{Ordinary}
use Rattle.taskset.specs.Quantities.{problem_of, work_needed}
use Rattle.taskset.specs.Refusals.{number, second, Check, Passes, Accepts, ◌▹◌, idle_checks, hyper_check, many_check}
use Rattle.taskset.specs.Refusals.{work_check, room_check, none_check, planner_checks}
use Rattle.taskset.specs.Planning.{Planning, planning}
use Rattle.taskset.specs.declared.Engine.TheVariants.{Table, Exhaustive}
use Rattle.taskset.specs.Calls.{PlanGives, PlannerGives}
use Rattle.taskset.proofs.Checks.{AllSingle, accepts_leave, accepts_take, refuses_leave, refuses_take}
use Rattle.taskset.proofs.SamePlanning.{untouched}
use Rattle.taskset.proofs.Unique.{none_single, single_next, short_single}
use Rattle.taskset.proofs.Unique.{covered_single, planned-one, plan_unique}
use Rattle.taskset.specs.Answers.{PlannerAnswer, ok_planned}

-- The number of an answer's refusal; 0 with a plan.
abbrev pub refused_with : PlannerAnswer → ℕ
refused_with (Ok p) = 0
refused_with (Err r) = number r

-- What a call gives that makes one check less, or one more that passes.
module _ (cs : List Check) (c : Check) (ds : List Check) (m : Planning) (plan plan' : List ℕ) where
  pub leave : (a : PlannerAnswer) → ((k : ℕ) → (refused_with a ≡ c.number) × c.cause k → ⊥)
      → PlanGives (cs ++ (c ∷ ds)) m plan plan' a → PlanGives (cs ++ ds) m plan plan' a
  leave (Ok p) not g = (accepts_leave c ds cs g.0, g.1)
  leave (Err r) not g = (refuses_leave c ds cs (number r) (second r) (not (second r)) g.0, g.1)

  take_in : (a : PlannerAnswer) → Passes c → PlanGives (cs ++ ds) m plan plan' a
      → PlanGives (cs ++ (c ∷ ds)) m plan plan' a
  take_in (Ok p) pass g = (accepts_take c ds cs pass g.0, g.1)
  take_in (Err r) pass g = (refuses_take c ds cs (number r) (second r) pass g.0, g.1)

module _ (s : List ℕ) where
  -- What both plan, and the checks that both make, before 5 or 11 and after it.
  abbrev pub both : Planning
  both = planning Ordinary s

  abbrev pub set : List Check
  set = idle_checks Ordinary s ▹ hyper_check Ordinary s

  abbrev pub rest : ℕ → List Check
  rest planLength = room_check (task_count Ordinary s) planLength ∷ none_check (Fitting (problem_of Ordinary s)) ∷ []

  pub both_single : (planLength : ℕ) → AllSingle (set ++ rest planLength)
  both_single pl =
      single_next (set ▹ room_check (task_count Ordinary s) pl) (none_check (Fitting (problem_of Ordinary s)))
      (single_next set (room_check (task_count Ordinary s) pl) (covered_single Ordinary s)
      (short_single (task_count Ordinary s) pl))
      (none_single (Fitting (problem_of Ordinary s)))

  -- Where enough working words are lent and the plans are few enough, the one succeeds exactly when the other does.
  pub succeed_same : (planLength workLength otherLength : ℕ)
      → Passes (work_check (work_needed Ordinary s) workLength) → Passes (many_check Ordinary s)
      → Accepts (planner_checks (Table Ordinary) s planLength workLength) ↔ Accepts (planner_checks Exhaustive s planLength otherLength)
  succeed_same pl wl ol work many = (
    λ a. accepts_take (many_check Ordinary s) (rest pl) set many
        (accepts_leave (work_check (work_needed Ordinary s) wl) (rest pl) set a),
    λ a. accepts_take (work_check (work_needed Ordinary s) wl) (rest pl) set work
        (accepts_leave (many_check Ordinary s) (rest pl) set a),
  )

  -- On one plan list, with whatever working lists.
  module _ (plan work work' plan₁ work₁ plan₂ work₂ : List ℕ) where
    -- "where both succeed the four numbers and the plan list are equal"
    pub both-planned : (u l h e u' l' h' e' : ℕ) → PlannerGives (Table Ordinary) s plan work plan₁ work₁ (ok_planned u l h e)
        → PlannerGives Exhaustive s plan work' plan₂ work₂ (ok_planned u' l' h' e')
        → (ok_planned u l h e ≡ ok_planned u' l' h' e') × (plan₁ ≡ plan₂)
    both-planned u l h e u' l' h' e' x y =
        planned-one (planner_checks (Table Ordinary) s (length plan) (length work))
        (planner_checks Exhaustive s (length plan) (length work')) both plan plan₁ plan₂ u l h e u' l' h' e' x.0 y.0

    -- Unless the planner refuses with 5, or the dull engine with 11, the answers and the plan lists are one.
    pub one_answer : (a b : PlannerAnswer) → PlannerGives (Table Ordinary) s plan work plan₁ work₁ a
        → PlannerGives Exhaustive s plan work' plan₂ work₂ b
        → (refused_with a ≡ 5 → ⊥) → (refused_with b ≡ 11 → ⊥) → (a ≡ b) × (plan₁ ≡ plan₂)
    one_answer a b x y not-5 not-11 =
        plan_unique (set ++ rest (length plan)) (both_single (length plan)) both plan plan₁ plan₂ a b
        (leave set (work_check (work_needed Ordinary s) (length work)) (rest (length plan)) both plan plan₁ a
        (λ k h. not-5 h.0) x.0)
        (leave set (many_check Ordinary s) (rest (length plan)) both plan plan₂ b (λ k h. not-11 h.0) y.0)

  -- What the planner gives with any answer but 5, the dull engine gives where the plans are few enough: with the same
  -- plan list, and every working word as it was.
  pub as_dull : (plan work plan' work' : List ℕ) (a : PlannerAnswer) → PlannerGives (Table Ordinary) s plan work plan' work' a
      → (refused_with a ≡ 5 → ⊥) → Passes (many_check Ordinary s) → (other : List ℕ)
      → PlannerGives Exhaustive s plan other plan' other a
  as_dull plan work plan' work' a x not-5 many other = (
    take_in set (many_check Ordinary s) (rest (length plan)) both plan plan' a many
        (leave set (work_check (work_needed Ordinary s) (length work)) (rest (length plan)) both plan plan' a
        (λ k h. not-5 h.0) x.0),
    untouched other a,
  )
