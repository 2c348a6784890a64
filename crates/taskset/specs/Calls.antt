-- What each call answers, and what it leaves in the lists lent to it.
use Rattle.std.specs.Prelude.{ℕ, ◌-◌, ◌+◌, ◌*◌, ◌^◌, ◌≤◌, ◌<◌, ◌≡◌, List, [], ◌∷◌, ◌++◌, length, get_or, take, drop, replicate, Ok, Err}
use Rattle.schedule.specs.Counted.{Outcome, missed, kept, walk}
use Rattle.selection.specs.Plan.{plan_load, IsPlanned}
use Rattle.layout.specs.Words.{word, rate_count, task_count, kind_at}
use Rattle.layout.specs.declared.Kind.TheVariants.{First}
use Rattle.layout.specs.declared.Layout.{Layout}
use Rattle.layout.specs.declared.Layout.TheVariants.{Ordinary}
use Rattle.taskset.specs.Quantities.{hyper_period, walk_tasks, last_tick}
use Rattle.taskset.specs.Planning.{Planning, planning, layout_of, work_of}
use Rattle.taskset.specs.Refusals.{number, second, Check, Accepts, Refuses, planner_checks, walk_checks}
use Rattle.taskset.specs.declared.Engine.{Engine}
use Rattle.taskset.specs.declared.Refusal.{Refusal}
use Rattle.taskset.specs.Answers.{Checked, CopyAnswer, PlannerAnswer, Shape, WalkAnswer}
use Rattle.taskset.specs.declared.WalkEnd.TheVariants.{Kept, Missed}

-- NUMBERS AND VALUES. "A C call returns 0, or refusal number × 2^32 + the second number."
abbrev pub code : Refusal → ℕ
code r = number r * 2 ^ 32 + second r

-- "unit, load, L, energy; for the walk 1, busy, idle, preemptions, or 0, tick, task, 0."
abbrev pub planner_values : PlannerAnswer → List ℕ
planner_values (Ok p) = p.unit ∷ p.load ∷ p.hyper ∷ p.energy ∷ []
planner_values (Err r) = []

abbrev pub walk_values : WalkAnswer → List ℕ
walk_values (Ok (Kept busy idle preempted)) = 1 ∷ busy ∷ idle ∷ preempted ∷ []
walk_values (Ok (Missed tick task)) = 0 ∷ tick ∷ task ∷ 0 ∷ []
walk_values (Err r) = []

-- "both return how many words or bytes they wrote": the reader, the writer, and the program's call.
abbrev pub copy_values : CopyAnswer → List ℕ
copy_values (Ok n) = n ∷ []
copy_values (Err r) = []

-- "and what lies after stays": ws was written to the front of the list d, which is d' now, and the answer's value says
-- how much that is.
pub record Copied (ws d d' : List ℕ) (a : CopyAnswer) : Type 0 where
  pub values_are : copy_values a ≡ length ws ∷ []
  pub list_is : d' ≡ ws ++ drop (length ws) d

-- What a call gives that makes checks of what it is lent, and then writes ws to the front of d: a refusal, the first that
-- holds, leaves d as it was.
abbrev pub CopyGives : List Check → (ws d d' : List ℕ) → CopyAnswer → Type 0
CopyGives cs ws d d' (Ok n) = Accepts cs × Copied ws d d' (Ok n)
CopyGives cs ws d d' (Err r) = Refuses cs (number r) (second r) × (d' ≡ d)

-- WHAT CHECKS ANSWER. cs are the checks that a call makes of a list, in their order: a refusal is the first that holds;
-- where none holds, the counts are the list's own, and with check 4 among them the hyper-period too.
abbrev pub CountsAfter : List Check → Layout → List ℕ → Shape → Type 0
CountsAfter cs layout s (Ok p) = Accepts cs × (p.rates ≡ rate_count layout s) × (p.tasks ≡ task_count layout s)
CountsAfter cs layout s (Err r) = Refuses cs (number r) (second r)

abbrev pub SetAfter : List Check → Layout → List ℕ → Checked → Type 0
SetAfter cs layout s (Ok p) =
    Accepts cs × (p.rates ≡ rate_count layout s) × (p.tasks ≡ task_count layout s) × (p.hyper ≡ hyper_period layout s)
SetAfter cs layout s (Err r) = Refuses cs (number r) (second r)

-- A CALL THAT PLANS, where m is what is planned. "The call returns unit, load, L and energy": P is the plan that document
-- 01 selects, the values are its own.
pub record Selected (m : Planning) (P values : List ℕ) : Type 0 where
  pub exponent : ℕ
  pub planned : IsPlanned m.problem m.slack exponent P
  pub values_are : values ≡ 2 ^ exponent ∷ plan_load m.problem P ∷ m.hyper ∷ m.energy P ∷ []

-- "On success the first N words of the plan list hold the plan, .. and every other word stays." plan is the list as
-- lent, plan' as given back: P stands in the first n words.
pub record HoldsPlan (n : ℕ) (P plan plan' : List ℕ) : Type 0 where
  pub front : take n plan' ≡ P
  pub rest : drop n plan' ≡ drop n plan

-- "A plan is a rate number for each task": each of the first N words of the plan list is 1 to M. So number - 1 is a
-- place in a table of M entries that counts from 0, and the number itself need not be.
pub record RateNumber (rates w : ℕ) : Type 0 where
  pub from_1 : 1 ≤ w
  pub to_m : w ≤ rates
  pub place : w - 1 < rates

abbrev pub RateNumbers : Planning → List ℕ → PlannerAnswer → Type 0
RateNumbers m plan' (Ok p) =
    (t : ℕ) → t < m.problem.count → RateNumber m.problem.rates (get_or plan' t 0)
RateNumbers m plan' (Err r) = Unit {0}

-- What it gives, with its checks cs: a refusal, the first that holds, leaves the plan list as it was.
abbrev pub PlanGives : List Check → Planning → (plan plan' : List ℕ) → PlannerAnswer → Type 0
PlanGives cs m plan plan' (Ok p) =
    Accepts cs ×
    ((P : List ℕ) × Selected m P (planner_values (Ok p)) ×
    HoldsPlan m.problem.count P plan plan')
PlanGives cs m plan plan' (Err r) = Refuses cs (number r) (second r) × (plan' ≡ plan)

-- "the first W working words hold 0, and every other word stays": w of the list work, which is work' then.
abbrev pub Cleared : ℕ → List ℕ → List ℕ → Type 0
Cleared w work work' = work' ≡ replicate w 0 ++ drop w work

-- On refusal 'all' is "As before the call".
abbrev pub WorkAfter : ℕ → (work work' : List ℕ) → PlannerAnswer → Type 0
WorkAfter w work work' (Ok p) = Cleared w work work'
WorkAfter w work work' (Err r) = work' ≡ work

-- THE PLANNER, AND THE DULL ENGINE (document 02, note 7), which "applies document 01's choice directly at each unit. It
-- needs no working words." That its answer is the planner's "where both succeed" is a theorem (proofs/TwoEngines.antt).
abbrev pub PlannerGives : Engine → (s plan work plan' work' : List ℕ) → PlannerAnswer → Type 0
PlannerGives e s plan work plan' work' a =
    PlanGives (planner_checks e s (length plan) (length work)) (planning (layout_of e) s) plan plan' a ×
    WorkAfter (work_of e s) work work' a

-- "The planner still answers for a common release" (document 02, note 6): it looks at no first release. Two lists that
-- differ in first releases alone have the same length, and the same word wherever that is not a first release.
pub record DifferInFirsts (layout : Layout) (s s' : List ℕ) : Type 0 where
  pub size : length s ≡ length s'
  pub same : (q : ℕ) → (kind_at layout s q ≡ First → ⊥) → word s q ≡ word s' q

-- THE WALK. "The walk takes a set and a plan and goes tick by tick from 0 to L", or with first releases "to 2 × L".
abbrev pub outcome_values : Outcome → List ℕ
outcome_values (kept busy idle preempted) = 1 ∷ busy ∷ idle ∷ preempted ∷ []
outcome_values (missed tick task) = 0 ∷ tick ∷ task ∷ 0 ∷ []

abbrev pub walk_of : List ℕ → List ℕ → Outcome
walk_of s P = walk (walk_tasks Ordinary s P) (last_tick Ordinary s)

-- The outcome's values are the answer's.
abbrev pub Walks : List ℕ → List ℕ → WalkAnswer → Type 0
Walks s P a = Accepts (walk_checks s P) × (walk_values a ≡ outcome_values (walk_of s P))

abbrev pub WalkAnswers : List ℕ → List ℕ → WalkAnswer → Type 0
WalkAnswers s P (Ok (Kept busy idle preempted)) = Walks s P (Ok (Kept busy idle preempted))
WalkAnswers s P (Ok (Missed tick task)) = Walks s P (Ok (Missed tick task))
WalkAnswers s P (Err r) = Refuses (walk_checks s P) (number r) (second r)
