-- What a C caller is given (document 01, 'The planner and its neighbours').
use Rattle.std.specs.Prelude.{ℕ, zero, suc, ◌+◌, ◌*◌, ◌/◌, ◌%◌, ◌^◌, ◌<◌, ◌≡◌, List, [], ◌∷◌, ◌++◌, ◌⊎◌, ◌↔◌, length, get_or, take, drop, Ok, Err}
use Rattle.schedule.specs.Walk.{KeepsForEver}
use Rattle.selection.specs.Plan.{Fitting, plan_load}
use Rattle.layout.specs.declared.Layout.TheVariants.{Ordinary}
use Rattle.taskset.specs.Quantities.{energy_bits, margin_bits, walk_tasks}
use Rattle.taskset.specs.Planning.{Planning, Keeps, planning, layout_of}
use Rattle.taskset.specs.Refusals.{number, second, Check, Accepts, Refuses, ◌▹◌, room_check}
use Rattle.taskset.specs.Refusals.{none_check, ready_checks, walk_checks}
use Rattle.taskset.specs.Calls.{code, planner_values, walk_values, RateNumber, PlannerGives, WalkAnswers}
use Rattle.taskset.specs.DemandThree.{margin, PlanPromise, NoneKeeps, Together, KeptOwes, MissedOwes}
use Rattle.taskset.specs.declared.Engine.{Engine}
use Rattle.taskset.specs.declared.Engine.TheVariants.{Exhaustive}
use Rattle.taskset.specs.declared.Refusal.{Refusal}
use Rattle.draws.specs.Generated.{generated}
use Rattle.draws.specs.Calls.{generator_checks, GeneratorGives, PassesChecks}
use Rattle.taskset.specs.Answers.{CopyAnswer, PlannerAnswer}

-- "It leaves its results, eight bytes each, lowest byte first": the first k bytes of a value, and the bytes of a list
-- of values.
unfoldable pub bytes_of : ℕ → ℕ → List ℕ
bytes_of zero v = []
bytes_of (suc k) v = v % 256 ∷ bytes_of k (v / 256)

unfoldable pub result_bytes : List ℕ → List ℕ
result_bytes [] = []
result_bytes (v ∷ vs) = bytes_of 8 v ++ result_bytes vs

-- The value that bytes stand for, lowest first; the value at place k of a list of results.
unfoldable pub value_of : List ℕ → ℕ
value_of [] = 0
value_of (b ∷ bs) = b + 256 * value_of bs

abbrev pub result_at : List ℕ → ℕ → ℕ
result_at bs k = value_of (take 8 (drop (8 * k) bs))

-- "Under 32 bytes there is refusal 6 with 32, checked after all others but 7."
abbrev pub result_size : ℕ
result_size = 32

-- WHAT EVERY ENTRY GIVES. "A C call returns 0, or refusal number × 2^32 + the second number." cs are its checks in their
-- order; Gives says which answer it may have, with the other lists lent as they are given back; values are the four
-- numbers of an answer; results and results' are the lent bytes before and after. On success only the first 32 of them
-- change; on refusal nothing does, and Unchanged says so of the other lists.
abbrev pub EntryGives : {A : Type 0} → List Check → (A → Type 0) → (A → List ℕ) → Type 0 → (results results' : List ℕ) → ℕ
    → Type 0
EntryGives {A} cs Gives values Unchanged results results' returned =
    ((a : A) × Accepts cs × Gives a × (returned ≡ 0) × (results' ≡ result_bytes (values a) ++ drop result_size results)) ⊎
    ((r : Refusal) × Refuses cs (number r) (second r) × (returned ≡ code r) × Unchanged × (results' ≡ results))

-- THE WALK FROM C. No other list is written.
abbrev pub walk_entry_checks : List ℕ → List ℕ → ℕ → List Check
walk_entry_checks s P size = walk_checks s P ▹ room_check result_size size

abbrev pub WalkEntryGives : (s P results results' : List ℕ) → ℕ → Type 0
WalkEntryGives s P results = EntryGives (walk_entry_checks s P (length results)) (WalkAnswers s P) walk_values (Unit {0}) results

-- The entry's contract: the above; and again over the bytes, where 0 is returned: with a first value of 1 what 'kept'
-- owes, with the second and the third value for its counts; with 0 what 'missed' owes; a plan that keeps every deadline
-- for ever from the list's first releases has 1; and with every first release 0, those that have 1 are just those that
-- keep every deadline for ever.
pub record WalkEntry (s P results results' : List ℕ) (returned : ℕ) : Type 0 where
  pub gives : WalkEntryGives s P results results' returned
  pub kept : returned ≡ 0 → result_at results' 0 ≡ 1 → KeptOwes s P (result_at results' 1) (result_at results' 2)
  pub missed : returned ≡ 0 → result_at results' 0 ≡ 0 → MissedOwes s P
  pub keeps_kept : returned ≡ 0 → KeepsForEver (walk_tasks Ordinary s P) → result_at results' 0 ≡ 1
  pub kept_iff_keeps : returned ≡ 0 → Together s → (result_at results' 0 ≡ 1) ↔ Keeps Ordinary s P

-- A CALL THAT PLANS, FROM C. cs are its own checks but 7; then come the result bytes, then 7. size is how many of them
-- are lent.
abbrev pub before_seven : List Check → ℕ → List Check
before_seven cs size = cs ▹ room_check result_size size

abbrev pub plan_entry_checks : List Check → Planning → ℕ → List Check
plan_entry_checks cs m size = before_seven cs size ▹ none_check (Fitting m.problem)

-- The contract of its entry, where m is what is planned, and plan' and results' are the plan list and the result bytes as
-- given back: the above; and demand 3 again over the plan words and the bytes. Where 0 is returned, every plan word is a
-- rate number, and the plan keeps its promise, with notes 5 and 6, with the unit that the first value is and the energy
-- that the fourth is; the second value is its load, the third the hyper-period. Margin and energy are so small that a host
-- can work with them in 64 bits. And 7 is returned if and only if no cause before it holds and no plan keeps every
-- deadline for ever.
pub record PlansEntry (cs : List Check) (Gives : PlannerAnswer → Type 0) (Unchanged : Type 0) (m : Planning)
    (plan' results results' : List ℕ) (returned : ℕ) : Type 0 where
  pub gives : EntryGives (plan_entry_checks cs m (length results)) Gives planner_values Unchanged results results' returned
  pub numbers : returned ≡ 0 → (t : ℕ) → t < m.problem.count → RateNumber m.problem.rates (get_or plan' t 0)
  pub promise : returned ≡ 0
      → PlanPromise m (take m.problem.count plan') (result_at results' 0) (result_at results' 3)
  pub margin_fits : returned ≡ 0 → margin m (result_at results' 0) < 2 ^ margin_bits
  pub energy_fits : returned ≡ 0 → result_at results' 3 < 2 ^ energy_bits
  pub load_is : returned ≡ 0 → result_at results' 1 ≡ plan_load m.problem (take m.problem.count plan')
  pub hyper_is : returned ≡ 0 → result_at results' 2 ≡ m.hyper
  pub seven_iff : (returned ≡ 7 * 2 ^ 32) ↔ (Accepts (before_seven cs (length results)) × NoneKeeps m)

-- A LIST PLANNED FROM C, by the engine e: the planner's entry has the table, over the ordinary list. plan, work and
-- results are the lists as lent, plan', work' and results' as given back.
abbrev pub PlanEntry : Engine → (s plan work results plan' work' results' : List ℕ) → ℕ → Type 0
PlanEntry e s plan work results plan' work' =
    PlansEntry (ready_checks e s (length plan) (length work)) (PlannerGives e s plan work plan' work')
    ((plan' ≡ plan) × (work' ≡ work)) (planning (layout_of e) s) plan' results

-- THE DULL ENGINE FROM C (document 02, note 7): "It needs no working words", and none are lent.
abbrev pub DullEntry : (s plan results plan' results' : List ℕ) → ℕ → Type 0
DullEntry s plan results plan' = PlanEntry Exhaustive s plan [] results plan' []

-- THE GENERATOR FROM C (document 02, note 1). Its own checks, then the result bytes. The lengths are those of the set's
-- list and of the result bytes.
abbrev pub generate_entry_checks : ℕ → ℕ → ℕ → ℕ → List Check
generate_entry_checks seed n setLength size = generator_checks seed n setLength ▹ room_check result_size size

-- "writes a set and returns its length": the first value; the others are 0.
abbrev pub generator_values : CopyAnswer → List ℕ
generator_values (Ok k) = k ∷ 0 ∷ 0 ∷ 0 ∷ []
generator_values (Err r) = []

-- set and results are the lists as lent, set' and results' as given back.
abbrev pub GenerateEntryGives : (seed n : ℕ) (set results set' results' : List ℕ) → ℕ → Type 0
GenerateEntryGives seed n set results set' =
    EntryGives (generate_entry_checks seed n (length set) (length results)) (GeneratorGives seed n set set') generator_values
    (set' ≡ set) results

-- The entry's contract: the above; and again over the words and the bytes, where 0 is returned: the first value says how
-- many of the first words are the generator's, and they pass checks 2, 3, 10 and 4.
pub record GenerateEntry (seed n : ℕ) (set results set' results' : List ℕ) (returned : ℕ) : Type 0 where
  pub gives : GenerateEntryGives seed n set results set' results' returned
  pub words_are : returned ≡ 0 → take (result_at results' 0) set' ≡ generated seed n
  pub owes : returned ≡ 0 → PassesChecks (take (result_at results' 0) set')
