-- Why a call declines (document 01, the table of that name): each cause with the second number, and the order of each
-- call's checks.
use Rattle.std.specs.Prelude.{ℕ, suc, ◌-◌, ◌*◌, ◌^◌, ◌≤◌, ◌<◌, ◌≡◌, false, List, [], ◌∷◌, ◌++◌, ◌⊎◌, length, get_or}
use Rattle.numbers.specs.Numbers.{between, running, Lowest}
use Rattle.selection.specs.Plan.{Fitting, most_plans}
use Rattle.layout.specs.Words.{word, idle, rate_count, task_count, rate_place, period_place, energy_place, period, energy, WordFault}
use Rattle.layout.specs.declared.Layout.{Layout}
use Rattle.layout.specs.declared.Layout.TheVariants.{Ordinary}
use Rattle.taskset.specs.Quantities.{hyper_limit, job_time, problem_of, work_needed}
use Rattle.taskset.specs.Planning.{layout_of}
use Rattle.taskset.specs.declared.Engine.{Engine}
use Rattle.taskset.specs.declared.Engine.TheVariants.{Table, Exhaustive}
use Rattle.taskset.specs.declared.Refusal.{Refusal}
use Rattle.taskset.specs.declared.Refusal.TheVariants.{TextDeparts, BadWord, NotAbove, TooLong, WorkShort}
use Rattle.taskset.specs.declared.Refusal.TheVariants.{TooShort, NoPlan, BadPlan}
use Rattle.taskset.specs.declared.Refusal.TheVariants.{EnergyOver, BelowIdle, TooManyPlans}

-- The column 'Number', and the column 'Returned with it'; of document 02, "9, an energy worked out here is over
-- 1,000,000, with the first such task's number", "10, an energy below H × job time, with the first such energy's
-- place", and "11, M to the power N is over 1,000,000, with 0".
abbrev pub number : Refusal → ℕ
number (TextDeparts o) = 1
number (BadWord q) = 2
number (NotAbove q) = 3
number (TooLong q) = 4
number (WorkShort w) = 5
number (TooShort w) = 6
number NoPlan = 7
number (BadPlan k) = 8
number (EnergyOver k) = 9
number (BelowIdle q) = 10
number TooManyPlans = 11

abbrev pub second : Refusal → ℕ
second (TextDeparts o) = o
second (BadWord q) = q
second (NotAbove q) = q
second (TooLong q) = q
second (WorkShort w) = w
second (TooShort w) = w
second NoPlan = 0
second (BadPlan k) = k
second (EnergyOver k) = k
second (BelowIdle q) = q
second TooManyPlans = 0

-- CAUSES. Each says when it holds with a second number k.

module _ (layout : Layout) (s : List ℕ) where
  -- 2: "Set word out of its range, missing or left over"; "place of the first such word; the list's length if missing".
  abbrev pub IsBadWord : ℕ → Type 0
  IsBadWord = Lowest (WordFault layout s)

  -- 3: "A rate not above the one before it"; "its place". Of several, the first.
  abbrev pub RateFault : ℕ → Type 0
  RateFault q = (rate_place layout 2 ≤ q) × (q ≤ rate_place layout (rate_count layout s)) × (word s q ≤ word s (q - 1))

  abbrev pub IsNotAbove : ℕ → Type 0
  IsNotAbove = Lowest RateFault

  -- 10: "an energy below H × job time", and "its place" q: that of the task at `task` at rate number `rate`.
  pub record EnergyFault (q : ℕ) : Type 0 where
    pub task : ℕ
    pub is_task : task < task_count layout s
    pub rate : ℕ
    pub from_1 : 1 ≤ rate
    pub to_m : rate ≤ rate_count layout s
    pub place : q ≡ energy_place layout (rate_count layout s) task rate
    pub below : energy layout s task rate < idle s * job_time layout s task rate

  -- "with the first such energy's place"
  abbrev pub IsBelowIdle : ℕ → Type 0
  IsBelowIdle = Lowest EnergyFault

  -- 4: "Hyper-period over 10,000,000"; "place of the period at which the running multiple passes it".
  abbrev pub PassesLimit : ℕ → Type 0
  PassesLimit t = (t < task_count layout s) × (hyper_limit < running (period layout s) (suc t))

  abbrev pub IsTooLong : ℕ → Type 0
  IsTooLong q = (t : ℕ) × Lowest PassesLimit t × (q ≡ period_place layout (rate_count layout s) t)

  -- 11: "M to the power N is over 1,000,000, with 0".
  abbrev pub IsTooMany : ℕ → Type 0
  IsTooMany k = (k ≡ 0) × (most_plans < rate_count layout s ^ task_count layout s)

-- 5: "Working list shorter than W"; "W". 6: "Receiving list or buffer too short"; "words or bytes needed".
abbrev pub IsShort : ℕ → ℕ → ℕ → Type 0
IsShort needed lent k = (lent < needed) × (k ≡ needed)

-- 7: "No plan fits"; "0". Which plans count is a parameter, Ok: for document 01 those that fit.
abbrev pub NoneOk : (List ℕ → Type 0) → ℕ → Type 0
NoneOk Ok k = (k ≡ 0) × ((P : List ℕ) → Ok P → ⊥)

-- 8: "Walk's plan not N words, or a word not 1 to M"; "lowest of these that applies: place of a bad word; its length if
-- short; N if long". m and n are the rate count and the task count.
abbrev pub PlanFault : ℕ → ℕ → List ℕ → ℕ → Type 0
PlanFault m n P k =
    ((k < length P) × (between 1 m (get_or P k 0) ≡ false)) ⊎
    (((k ≡ length P) × (length P < n)) ⊎
    ((k ≡ n) × (n < length P)))

abbrev pub IsBadPlan : ℕ → ℕ → List ℕ → ℕ → Type 0
IsBadPlan m n P = Lowest (PlanFault m n P)

-- ORDER. "Checked in this order, the first that holds being returned."

pub record Check : Type 1 where
  pub number : ℕ
  pub cause : ℕ → Type 0

abbrev pub check : ℕ → (ℕ → Type 0) → Check
check n c = record { number = n; cause = c }

-- There is no second number with which the cause holds.
abbrev pub Passes : Check → Type 0
Passes c = (k : ℕ) → c.cause k → ⊥

-- No check holds.
abbrev pub Accepts : List Check → Type 0
Accepts [] = Unit {0}
Accepts (c ∷ cs) = Passes c × Accepts cs

-- The first check that holds has number n, and holds with second number k.
abbrev pub Refuses : List Check → ℕ → ℕ → Type 0
Refuses [] n k = ⊥
Refuses (c ∷ cs) n k = ((n ≡ c.number) × c.cause k) ⊎ (Passes c × Refuses cs n k)

-- These checks, then one more, c.
infixl 4 ◌▹◌
abbrev pub ◌▹◌ : List Check → Check → List Check
cs ▹ c = cs ++ (c ∷ [])

-- Each check of a list, and of what is lent with it. Of check 7, Ok says which plans count.
abbrev pub word_check : Layout → List ℕ → Check
word_check layout s = check 2 (IsBadWord layout s)

abbrev pub rate_check : Layout → List ℕ → Check
rate_check layout s = check 3 (IsNotAbove layout s)

abbrev pub idle_check : Layout → List ℕ → Check
idle_check layout s = check 10 (IsBelowIdle layout s)

abbrev pub hyper_check : Layout → List ℕ → Check
hyper_check layout s = check 4 (IsTooLong layout s)

abbrev pub many_check : Layout → List ℕ → Check
many_check layout s = check 11 (IsTooMany layout s)

abbrev pub work_check : ℕ → ℕ → Check
work_check needed lent = check 5 (IsShort needed lent)

abbrev pub room_check : ℕ → ℕ → Check
room_check needed lent = check 6 (IsShort needed lent)

abbrev pub none_check : (List ℕ → Type 0) → Check
none_check Ok = check 7 (NoneOk Ok)

abbrev pub plan_check : Layout → List ℕ → List ℕ → Check
plan_check layout s P = check 8 (IsBadPlan (rate_count layout s) (task_count layout s) P)

-- 2 and 3, with which every call on a list begins.
abbrev pub word_checks : Layout → List ℕ → List Check
word_checks layout s = word_check layout s ∷ rate_check layout s ∷ []

-- 10, "after 3, before 4, and never by walk or writer": with which every call goes on that goes by energies.
abbrev pub idle_checks : Layout → List ℕ → List Check
idle_checks layout s = word_checks layout s ▹ idle_check layout s

-- What an engine asks between 4 and 6: the planner's 5; and of the dull engine, whose "refusals are the planner's without
-- 5", "11, .. after 4" (document 02, note 7). The length is that of the working list.
abbrev pub engine_check : Engine → List ℕ → ℕ → Check
engine_check (Table layout) s workLength = work_check (work_needed layout s) workLength
engine_check Exhaustive s workLength = many_check Ordinary s

-- "Planner: 2, 3, 4, 5, 6, 7", and 10 after 3; the dull engine alike. The lengths are those of the plan list and the
-- working list.
abbrev pub ready_checks : Engine → List ℕ → ℕ → ℕ → List Check
ready_checks e s planLength workLength =
    idle_checks (layout_of e) s ▹ hyper_check (layout_of e) s ▹
    engine_check e s workLength ▹ room_check (task_count (layout_of e) s) planLength

abbrev pub planner_checks : Engine → List ℕ → ℕ → ℕ → List Check
planner_checks e s planLength workLength =
    ready_checks e s planLength workLength ▹ none_check (Fitting (problem_of (layout_of e) s))

-- "Walk: 2, 3, 4, 8."
abbrev pub walk_checks : List ℕ → List ℕ → List Check
walk_checks s P = word_checks Ordinary s ▹ hyper_check Ordinary s ▹ plan_check Ordinary s P
