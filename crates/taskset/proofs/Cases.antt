-- The cases of document 01's 'Either side of an edge', gathered in one record and proved together of the definitions:
-- every marked one, each of the call's whole answer, and the unmarked refusals of a set; with document 02's. Of its note
-- 4: "Later places move up by one; document 01's example lists .. hold 0 there", so that a quoted place 3 is 4 here; and
-- of its note 6, A is 0 "in document 01's examples", so that a quoted place 9 is 11.
-- Assumes nothing.
use Rattle.std.specs.Prelude.{Ok, Err}
use Prim.Native.Nat.{ℕ, ◌+◌, ◌*◌, ◌^◌, ◌≤◌, ◌<◌}
use mathlib.Core.Path.{◌≡◌, refl, sym, ◌∙◌, subst}
use mathlib.Core.Bool.{true, false, true≢false}
use mathlib.Core.Option.{none, some}
use mathlib.Core.List.{List, [], ◌∷◌, append-nil}
use native.Mathlib.Bridge.{le_by_compare, IsLe}
use native.Mathlib.Omega.{arith}
use lib.ListN.{length, replicate, length-replicate, drop_of_length-le}
use lib.Seq.{take_all}
use Rattle.numbers.specs.Numbers.{total, gcd_in, gcd, lcm, running}
use Rattle.numbers.proofs.Search.{seek}
use Rattle.numbers.proofs.Powers.{exponent}
use Rattle.schedule.specs.Walk.{KeepsForEver}
use Rattle.selection.specs.Plan.{plan_load, fastest, Fitting}
use Rattle.selection.proofs.Fastest.{fastest_fits, fastest_least}
use Rattle.selection.proofs.Table.{least_of, first_of, via, best}
use Rattle.selection.proofs.Choose.{spend, cell}
use Rattle.selection.proofs.Compute.{trace, least_energy_at, choose, used_from, used_exponent, planned_is}
use Rattle.layout.specs.Words.{slack, rate_count, task_count, head_kinds, extra_kinds, kind_in, head_kind, task_kind, kind_at, allows}
use Rattle.layout.specs.declared.Layout.TheVariants.{Ordinary}
use Rattle.taskset.specs.Quantities.{hyper_period, problem_of, walk_tasks, jobs_energy, reported_energy, work_needed}
use Rattle.taskset.specs.Refusals.{Check, Accepts}
use Rattle.taskset.specs.Refusals.{◌▹◌, word_checks, idle_checks, hyper_check}
use Rattle.taskset.specs.Refusals.{work_check, room_check, none_check, plan_check, ready_checks, planner_checks}
use Rattle.taskset.specs.Refusals.{walk_checks}
use Rattle.taskset.specs.Calls.{code, planner_values, walk_values, SetAfter, PlannerGives, WalkAnswers}
use Rattle.taskset.specs.DemandThree.{margin, IsLeast, PlanPromise, Together}
use Rattle.taskset.specs.Planning.{Planning, Keeps, planning}
use Rattle.taskset.specs.declared.Engine.TheVariants.{Table}
use Rattle.taskset.specs.declared.Refusal.{Refusal}
use Rattle.taskset.specs.declared.Refusal.TheVariants.{BadWord, NotAbove, TooLong, WorkShort, TooShort, NoPlan, BadPlan, BelowIdle}
use Rattle.taskset.proofs.Checks.{nothing, same, refuses_early, refuses_before, accepts_next, refuses_next, passed}
use Rattle.taskset.proofs.Verdict.{is_bad, is_fall, is_over, is_below, has_below, shape_of, cover_of, after_shape}
use Rattle.taskset.proofs.Verdict.{checked_of, covered_of, checked_answers}
use Rattle.taskset.proofs.Declined.{Declines, set, answered, set_refused}
use Rattle.taskset.proofs.PlanVerdict.{is_unfit, plan_verdict, PlanSays, plan_verdict_says}
use Rattle.taskset.specs.Sets.{IsSet}
use Rattle.taskset.proofs.Sets.{set_of, falling}
use Rattle.taskset.proofs.DemandThree.{engine_plans, list_plans, answer_owes, walk_owes}
use Rattle.taskset.proofs.Margin.{allowance, margin_reached}
use Rattle.taskset.specs.Answers.{Checked, PlannerAnswer, ok_measured, ok_planned}
use Rattle.taskset.specs.declared.WalkEnd.TheVariants.{Kept, Missed}

-- "The set list S", with slack G.
unfoldable pub S : ℕ → List ℕ
S G = G ∷ 0 ∷ 3 ∷ 2 ∷ 4 ∷ 8 ∷ 2 ∷ 10 ∷ 12 ∷ 0 ∷ 4 ∷ 9 ∷ 20 ∷ 15 ∷ 20 ∷ 0 ∷ 7 ∷ 15 ∷ 30 ∷ []

-- S with slack 100, its tasks first released at a and b.
unfoldable pub S_from : ℕ → ℕ → List ℕ
S_from a b = 100 ∷ 0 ∷ 3 ∷ 2 ∷ 4 ∷ 8 ∷ 2 ∷ 10 ∷ 12 ∷ a ∷ 4 ∷ 9 ∷ 20 ∷ 15 ∷ 20 ∷ b ∷ 7 ∷ 15 ∷ 30 ∷ []

-- "Highest rate 2, one task of period 30", of c cycles.
unfoldable pub one_task_of : ℕ → List ℕ
one_task_of c = 100 ∷ 0 ∷ 2 ∷ 1 ∷ 2 ∷ 1 ∷ 30 ∷ c ∷ 0 ∷ 5 ∷ 6 ∷ []

-- Two rates, and a task for each period.
one-period : ℕ → List ℕ
one-period p = 100 ∷ 0 ∷ 2 ∷ 2 ∷ 4 ∷ 1 ∷ p ∷ 1 ∷ 0 ∷ 1 ∷ 1 ∷ []

two_periods : ℕ → ℕ → List ℕ
two_periods p q = 100 ∷ 0 ∷ 2 ∷ 2 ∷ 4 ∷ 2 ∷ p ∷ 1 ∷ 0 ∷ 1 ∷ 1 ∷ q ∷ 1 ∷ 0 ∷ 1 ∷ 1 ∷ []

-- The list that a text with the chip ppc405lp says (document 02, note 2): rates 33, 100, 266 and 333 MHz, one tick a
-- millisecond, and (note 4) its idle energy of 12 microjoules per tick. At 33 MHz the jobs take 31 and 16 ticks, rounded
-- up: two of the second do not fit beside the first.
unfoldable pub chip_set : List ℕ
chip_set =
    500 ∷ 12 ∷ 4 ∷ 33000 ∷ 100000 ∷ 266000 ∷ 333000 ∷ 2 ∷ 40 ∷ 1000000 ∷ 0 ∷ 589 ∷ 720 ∷ 2400 ∷ 3000 ∷ 20 ∷ 500000 ∷ 0 ∷ 304 ∷ 360 ∷
    1200 ∷ 1500 ∷ []

-- Two tasks alike.
unfoldable pub even_tasks : List ℕ
even_tasks = 100 ∷ 0 ∷ 2 ∷ 1 ∷ 3 ∷ 2 ∷ 4 ∷ 3 ∷ 0 ∷ 1 ∷ 5 ∷ 4 ∷ 3 ∷ 0 ∷ 1 ∷ 5 ∷ []

-- Slack 100, idle energy h, rates 1 and 9, one task of period 100 and 90 cycles with energies e and 200: its jobs take 90
-- ticks or 10.
unfoldable pub slow_or_fast : ℕ → ℕ → List ℕ
slow_or_fast h e = 100 ∷ h ∷ 2 ∷ 1 ∷ 9 ∷ 1 ∷ 100 ∷ 90 ∷ 0 ∷ e ∷ 200 ∷ []

-- Idle energy 10, two rates, two tasks whose jobs take 4 and 2 ticks; periods p and q.
idle-tasks : ℕ → ℕ → ℕ → ℕ → ℕ → ℕ → List ℕ
idle-tasks p q a b c d = 100 ∷ 10 ∷ 2 ∷ 1 ∷ 2 ∷ 2 ∷ p ∷ 4 ∷ 0 ∷ a ∷ b ∷ q ∷ 4 ∷ 0 ∷ c ∷ d ∷ []

-- Slack 1,000, idle energy h, rates 1 2, one task of period 10 and 10 cycles with energies e and f: its jobs take 10 ticks
-- or 5. And two such tasks of period 20.
two_energies : ℕ → ℕ → ℕ → List ℕ
two_energies h e f = 1000 ∷ h ∷ 2 ∷ 1 ∷ 2 ∷ 1 ∷ 10 ∷ 10 ∷ 0 ∷ e ∷ f ∷ []

twice : ℕ → ℕ → List ℕ
twice e f = 1000 ∷ 0 ∷ 2 ∷ 1 ∷ 2 ∷ 2 ∷ 20 ∷ 10 ∷ 0 ∷ e ∷ f ∷ 20 ∷ 10 ∷ 0 ∷ e ∷ f ∷ []

-- Two rates and one task, with a last word that may be missing or be followed by more.
with_rates : ℕ → ℕ → List ℕ → List ℕ
with_rates f g rest = 100 ∷ 0 ∷ 2 ∷ f ∷ g ∷ 1 ∷ 10 ∷ 12 ∷ 0 ∷ 4 ∷ rest

-- Two rates, and two tasks whose jobs take 1 tick and 2 at the slower, with periods p and q, first released at a and b.
with_firsts : ℕ → ℕ → ℕ → ℕ → List ℕ
with_firsts p q a b = 100 ∷ 0 ∷ 2 ∷ 1 ∷ 2 ∷ 2 ∷ p ∷ 1 ∷ a ∷ 5 ∷ 6 ∷ q ∷ 2 ∷ b ∷ 5 ∷ 6 ∷ []

-- What the planner gives, and what it plans.
abbrev ByPlanner : (s plan work plan' work' : List ℕ) → PlannerAnswer → Type 0
ByPlanner = PlannerGives (Table Ordinary)

abbrev ordinary : List ℕ → Planning
ordinary = planning Ordinary

abbrev pub Declined : List ℕ → Refusal → Type 0
Declined = Declines (Table Ordinary)

-- ---- from what the verdicts compute to what the calls answer
module _ (s : List ℕ) where
  abbrev L : ℕ
  L = hyper_period Ordinary s

  abbrev checked : Checked
  checked = covered_of Ordinary s

  module _ (m n l : ℕ) (e : checked ≡ ok_measured m n l) where
    passes : Accepts (set Ordinary s)
    passes = (answered Ordinary s (ok_measured m n l) e).0

    is_set : IsSet Ordinary s
    is_set = set_of Ordinary s (passed 2 (set Ordinary s) refl passes) (passed 3 (set Ordinary s) refl passes)
        (passed 4 (set Ordinary s) refl passes)

    -- Too few working words.
    work_short : (plan work : List ℕ) → length work < work_needed Ordinary s
        → ByPlanner s plan work plan work (Err (WorkShort (work_needed Ordinary s)))
    work_short plan work h = (
      (
        refuses_early (set Ordinary s ▹ work_check (work_needed Ordinary s) (length work))
            (planner_checks (Table Ordinary) s (length plan) (length work))
            (same (same (same (same (same nothing))))) 5 (work_needed Ordinary s)
            (refuses_next (set Ordinary s) (work_check (work_needed Ordinary s) (length work)) (work_needed Ordinary s) passes (h, refl)),
        refl,
      ),
      refl,
    )

    -- What is lent is long enough.
    module _ (plan work : List ℕ) where
      abbrev up_to5 : List Check
      up_to5 = set Ordinary s ▹ work_check (work_needed Ordinary s) (length work)

      work-enough : work_needed Ordinary s ≤ length work → Accepts up_to5
      work-enough q = accepts_next (set Ordinary s) (work_check (work_needed Ordinary s) (length work)) passes (λ k h. omega (arith, h.0))

      enough : work_needed Ordinary s ≤ length work → task_count Ordinary s ≤ length plan
          → Accepts (ready_checks (Table Ordinary) s (length plan) (length work))
      enough q p = accepts_next up_to5 (room_check (task_count Ordinary s) (length plan)) (work-enough q) (λ k h. omega (arith, h.0))

    -- A plan, where just the words needed are lent.
    planned : (P : List ℕ) (a unit load energy : ℕ) → 1 ≤ rate_count Ordinary s
        → plan_load (problem_of Ordinary s) (fastest (problem_of Ordinary s)) ≤ L → length P ≡ task_count Ordinary s
        → used_exponent (problem_of Ordinary s) (slack s) ≡ a → choose (problem_of Ordinary s) (2 ^ a) ≡ P → 2 ^ a ≡ unit
        → plan_load (problem_of Ordinary s) P ≡ load → reported_energy Ordinary s P ≡ energy
        → (plan work : List ℕ) → length plan ≡ task_count Ordinary s → length work ≡ work_needed Ordinary s
        → ByPlanner s plan work P (replicate (work_needed Ordinary s) 0) (ok_planned unit load l energy)
    planned P a unit load energy some_rate fits size used chosen u w j plan work p q =
        let fit : Fitting (problem_of Ordinary s) (fastest (problem_of Ordinary s)) = fastest_fits (problem_of Ordinary s) some_rate fits in (
          (
            accepts_next (ready_checks (Table Ordinary) s (length plan) (length work)) (none_check (Fitting (problem_of Ordinary s)))
                (enough plan work (omega arith) (omega arith)) (λ k h. h.1 (fastest (problem_of Ordinary s)) fit),
            (
              P,
              record {
                exponent = a;
                planned = rw (← chosen, ← used) (planned_is (problem_of Ordinary s) fit (slack s));
                values_are = cc (u, w, j, (answered Ordinary s (ok_measured m n l) e).3);
              },
              record {
                front = take_all (task_count Ordinary s) P (omega arith);
                rest =
                    drop_of_length-le P {i = task_count Ordinary s} (omega arith) ∙
                    sym (drop_of_length-le plan {i = task_count Ordinary s} (omega arith));
              },
            ),
          ),
          rw (drop_of_length-le work {i = work_needed Ordinary s} (omega arith)) (sym (append-nil (replicate (work_needed Ordinary s) 0))),
        )

    -- Enough working words, and a plan list that is too short.
    plan_short : (plan work : List ℕ) → work_needed Ordinary s ≤ length work → length plan < task_count Ordinary s
        → ByPlanner s plan work plan work (Err (TooShort (task_count Ordinary s)))
    plan_short plan work q p = (
      (
        refuses_before (ready_checks (Table Ordinary) s (length plan) (length work)) (none_check (Fitting (problem_of Ordinary s)))
            6 (task_count Ordinary s)
            (refuses_next (up_to5 plan work) (room_check (task_count Ordinary s) (length plan)) (task_count Ordinary s)
            (work-enough plan work q) (p, refl)),
        refl,
      ),
      refl,
    )

    -- No plan fits where the plan with every task at rate M does not.
    no_plan : 1 ≤ rate_count Ordinary s → L < plan_load (problem_of Ordinary s) (fastest (problem_of Ordinary s))
        → (plan work : List ℕ) → task_count Ordinary s ≤ length plan → work_needed Ordinary s ≤ length work
        → ByPlanner s plan work plan work (Err NoPlan)
    no_plan some_rate over plan work p q =
        let refuses =
        refuses_next (ready_checks (Table Ordinary) s (length plan) (length work)) (none_check (Fitting (problem_of Ordinary s))) 0
        (enough plan work q p) (refl, none_fits) in
        ((refuses, refl), refl)
      where
        none_fits : (P : List ℕ) → Fitting (problem_of Ordinary s) P → ⊥
        none_fits P f = omega (arith, fastest_least (problem_of Ordinary s) some_rate (falling Ordinary s is_set) P f.plan, f.fits)

-- ---- the same of the walk, which makes no check 10
module _ (s : List ℕ) where
  abbrev walked : List Check
  walked = word_checks Ordinary s ▹ hyper_check Ordinary s

  walk_answered : (x : Checked) → checked_of Ordinary s ≡ x → SetAfter walked Ordinary s x
  walk_answered x e = subst (SetAfter walked Ordinary s) e (checked_answers Ordinary s)

  module _ (m n l : ℕ) (e : checked_of Ordinary s ≡ ok_measured m n l) where
    -- The walk of a plan that passes check 8, and of one that does not.
    module _ (P : List ℕ) where
      walks : plan_verdict (rate_count Ordinary s) (task_count Ordinary s) P ≡ none → Accepts (walk_checks s P)
      walks v =
          let fine = subst (PlanSays (rate_count Ordinary s) (task_count Ordinary s) P) v (plan_verdict_says (rate_count Ordinary s) (task_count Ordinary s) P) in
          accepts_next walked (plan_check Ordinary s P) (walk_answered (ok_measured m n l) e).0 (λ k h. fine k h.here)

      plan_refused : (k : ℕ) → plan_verdict (rate_count Ordinary s) (task_count Ordinary s) P ≡ some k → WalkAnswers s P (Err (BadPlan k))
      plan_refused k v =
          let bad = subst (PlanSays (rate_count Ordinary s) (task_count Ordinary s) P) v (plan_verdict_says (rate_count Ordinary s) (task_count Ordinary s) P) in
          refuses_next walked (plan_check Ordinary s P) k (walk_answered (ok_measured m n l) e).0 bad

-- With every first release 0, a plan whose walk is kept keeps every deadline for ever.
kept_keeps : (s P : List ℕ) (busy idle preempted : ℕ) → Together s → WalkAnswers s P (Ok (Kept busy idle preempted)) → Keeps Ordinary s P
kept_keeps s P busy idle preempted zero w =
    ((walk_owes s P (Ok (Kept busy idle preempted)) w).together zero).0

-- ---- a plan given, with just the words needed lent, and its promise
abbrev Given : (s P : List ℕ) (unit load hyper energy : ℕ) → Type 0
Given s P unit load hyper energy =
    (plan work : List ℕ) → length plan ≡ task_count Ordinary s → length work ≡ work_needed Ordinary s
    → ByPlanner s plan work P (replicate (work_needed Ordinary s) 0) (ok_planned unit load hyper energy)

module _ (s P : List ℕ) (unit load hyper energy : ℕ) (size : length P ≤ task_count Ordinary s) (given : Given s P unit load hyper energy) where
  promised : PlanPromise (ordinary s) P unit energy
  promised =
      let plan : List ℕ = replicate (task_count Ordinary s) 0 in
      let work : List ℕ = replicate (work_needed Ordinary s) 0 in
      subst (λ (R : List ℕ). PlanPromise (ordinary s) R unit energy) (take_all (task_count Ordinary s) P size)
      (answer_owes (ordinary s) (ready_checks (Table Ordinary) s (length plan) (length work))
      (list_plans (engine_plans (Table Ordinary) s (length plan) (length work))) plan P
      (ok_planned unit load hyper energy)
      (given plan work (length-replicate (task_count Ordinary s) 0) (length-replicate (work_needed Ordinary s) 0)).0)

  -- A plan whose walk is kept, with an energy that is just the margin below: it has the least.
  least_by_margin : (Q : List ℕ) (busy idle preempted : ℕ) → Together s → WalkAnswers s Q (Ok (Kept busy idle preempted))
      → energy ≡ reported_energy Ordinary s Q + margin (ordinary s) unit → IsLeast (ordinary s) Q (reported_energy Ordinary s Q)
  least_by_margin Q busy idle preempted zero w = margin_reached (ordinary s) P unit energy promised Q
      (kept_keeps s Q busy idle preempted zero w)

-- ---- the cases
pub record Cases : Type 0 where
  -- (M) "S: plan 2 1, unit 1, load 29, energy 41." (M) "S has W = 243".
  pub planned_100 : (plan work : List ℕ) → length plan ≡ 2 → length work ≡ 243
      → ByPlanner (S 100) plan work (2 ∷ 1 ∷ []) (replicate 243 0) (ok_planned 1 29 30 41)
  -- (M) "242 working words: refusal 5 with 243."
  work_242 : (plan work : List ℕ) → length work ≡ 242 → ByPlanner (S 100) plan work plan work (Err (WorkShort 243))
  -- (M) "S with slack 1,000: plan 1 2, unit 8, load 28, energy 42." (M) "S with slack 1,000: W = 27."
  pub planned_1000 : (plan work : List ℕ) → length plan ≡ 2 → length work ≡ 27
      → ByPlanner (S 1000) plan work (1 ∷ 2 ∷ []) (replicate 27 0) (ok_planned 8 28 30 42)
  -- (M) "S, walk of 1 1: missed, tick 15, task 2." (M) "Walk of 2 1: kept, 29, 1, 1."
  walk_of_1_1 : WalkAnswers (S 100) (1 ∷ 1 ∷ []) (Ok (Missed 15 2))
  pub walk_of_2_1 : WalkAnswers (S 100) (2 ∷ 1 ∷ []) (Ok (Kept 29 1 1))
  -- (M) "Plan 1 3 for S: load 24." (M) "Walk of 1 4: refusal 8, place 1."
  load_of_1_3 : plan_load (problem_of Ordinary (S 100)) (1 ∷ 3 ∷ []) ≡ 24
  walk_of_1_4 : WalkAnswers (S 100) (1 ∷ 4 ∷ []) (Err (BadPlan 1))
  -- (M) "Highest rate 2, one task of period 30: 60 cycles fit," (M) "61 give refusal 7."
  cycles_60 : (plan work : List ℕ) → length plan ≡ 1 → length work ≡ 82
      → ByPlanner (one_task_of 60) plan work (2 ∷ []) (replicate 82 0) (ok_planned 1 30 30 6)
  pub cycles_61 : (plan work : List ℕ) → 1 ≤ length plan → 82 ≤ length work
      → ByPlanner (one_task_of 61) plan work plan work (Err NoPlan)
  -- "A slack of 0: refusal 2, place 0. Empty list: refusal 2, place 0. Rates 4 4: refusal 3, place 3."
  slack_0 : Declined (S 0) (BadWord 0)
  empty : Declined [] (BadWord 0)
  rates_4_4 : Declined (with_rates 4 4 (9 ∷ [])) (NotAbove 4)
  -- "Two rates, periods 9,999,999 and 10,000,000: refusal 4, place 9. One period of 10,000,000 passes."
  periods_too_long : Declined (two_periods 9999999 10000000) (TooLong 11)
  period_10000000 : SetAfter (idle_checks Ordinary (one-period 10000000) ▹ hyper_check Ordinary (one-period 10000000)) Ordinary (one-period 10000000) (ok_measured 2 1 10000000)
  -- A rate count of 9 and a task count of 33, refused where they stand; a list that ends before its last word; a word
  -- too many.
  bad_rate_count : Declined (100 ∷ 0 ∷ 9 ∷ 2 ∷ []) (BadWord 2)
  bad_task_count : Declined (100 ∷ 0 ∷ 2 ∷ 2 ∷ 4 ∷ 33 ∷ 10 ∷ []) (BadWord 5)
  missing : Declined (with_rates 2 4 []) (BadWord 10)
  left_over : Declined (with_rates 2 4 (9 ∷ 1 ∷ [])) (BadWord 11)
  -- A plan list of one word for two tasks: refusal 6 with 2. Two plans that differ in rate numbers alone: the lower
  -- number for task 2.
  plan_list_1 : (plan work : List ℕ) → length plan ≡ 1 → length work ≡ 243 → ByPlanner (S 100) plan work plan work (Err (TooShort 2))
  pub tie : (plan work : List ℕ) → length plan ≡ 2 → length work ≡ 243
      → ByPlanner even_tasks plan work (2 ∷ 1 ∷ []) (replicate 243 0) (ok_planned 1 4 4 6)
  -- Rate number 0 is no job: of S, with a first release of 3, task 2 at rate 1 alone has load 20, and its jobs cost 14.
  rate_0 : (plan_load (problem_of Ordinary (S_from 3 0)) (0 ∷ 1 ∷ []) ≡ 20) × (jobs_energy Ordinary (S_from 3 0) (0 ∷ 1 ∷ []) ≡ 14)
  -- Document 02, note 4. The slower rate costs 910 - 10 × 90 = 10 over idling, the faster 200 - 10 × 10 = 100: plan 1, and
  -- with 10 idle ticks 910 + 10 × 10 = 1,010 in all, against 200 + 10 × 90 = 1,100 for plan 2.
  pub idle_counts : (plan work : List ℕ) → length plan ≡ 1 → length work ≡ 82
      → ByPlanner (slow_or_fast 10 910) plan work (1 ∷ []) (replicate 82 0) (ok_planned 1 90 100 1010)
  pub walk_idle : WalkAnswers (slow_or_fast 10 910) (1 ∷ []) (Ok (Kept 90 10 0))
  -- So no bound between the jobs' energies alone holds: that of the plan given is 910, and plan 2 keeps every deadline
  -- for ever with 200, 1,100 with its idle energy.
  pub jobs_alone : (jobs_energy Ordinary (slow_or_fast 10 910) (1 ∷ []) ≡ 910) × (jobs_energy Ordinary (slow_or_fast 10 910) (2 ∷ []) ≡ 200) ×
      (reported_energy Ordinary (slow_or_fast 10 910) (2 ∷ []) ≡ 1100) × Keeps Ordinary (slow_or_fast 10 910) (2 ∷ [])
  pub jobs_alone_false :
      (1000 * jobs_energy Ordinary (slow_or_fast 10 910) (1 ∷ []) ≤ 1100 * jobs_energy Ordinary (slow_or_fast 10 910) (2 ∷ []))
      → ⊥
  pub jobs_alone_above :
      (jobs_energy Ordinary (slow_or_fast 10 910) (1 ∷ [])
      ≤ jobs_energy Ordinary (slow_or_fast 10 910) (2 ∷ []) + margin (ordinary (slow_or_fast 10 910)) 1)
      → ⊥
  -- Without idle energy the faster rate is the cheaper.
  idle_nothing : (plan work : List ℕ) → length plan ≡ 1 → length work ≡ 82
      → ByPlanner (slow_or_fast 0 910) plan work (2 ∷ []) (replicate 82 0) (ok_planned 8 10 100 200)
  -- "10, an energy below H × job time": 900 is not below 10 × 90, and 899 is. With 900 the energy that selection sees is 0.
  idle_equal : (plan work : List ℕ) → length plan ≡ 1 → length work ≡ 82
      → ByPlanner (slow_or_fast 10 900) plan work (1 ∷ []) (replicate 82 0) (ok_planned 1 90 100 1000)
  pub idle_above : Declined (slow_or_fast 10 899) (BelowIdle 9)
  -- All that selection sees is 0: the first unit is 1, and the least load decides.
  nothing_left : (plan work : List ℕ) → length plan ≡ 2 → length work ≡ 243
      → ByPlanner (idle-tasks 10 10 40 20 40 20) plan work (2 ∷ 2 ∷ []) (replicate 243 0) (ok_planned 1 4 10 100)
  -- "with the first such energy's place": tasks in order, rates in order; no plan would use the second task's 39, as its
  -- other rate is cheaper. "after 3, before 4, and never by walk".
  first_task_lem : Declined (idle-tasks 10 10 40 19 39 20) (BelowIdle 10)
  second_task : Declined (idle-tasks 10 10 40 20 39 20) (BelowIdle 14)
  before_4 : Declined (idle-tasks 9999999 10000000 40 20 39 20) (BelowIdle 14)
  after_4 : Declined (idle-tasks 9999999 10000000 40 20 40 20) (TooLong 11)
  not_by_walk : WalkAnswers (idle-tasks 10 10 40 20 39 20) (1 ∷ 1 ∷ []) (Ok (Kept 8 2 0))
  -- "H in microjoules per tick, 0 to 1,000".
  idle_1001 : Declined (slow_or_fast 1001 910) (BadWord 1)
  -- Document 02, note 5. With energies 33 and 64, at unit 32 both round to 2, and the lower load decides: plan 2, energy
  -- 64, which is 31 above the least. So no smaller margin than 1 × (32 - 1) would hold, without idle energy or with it.
  margin_31 : (plan work : List ℕ) → length plan ≡ 1 → length work ≡ 10
      → ByPlanner (two_energies 0 33 64) plan work (2 ∷ []) (replicate 10 0) (ok_planned 32 5 10 64)
  margin_31_reached : (margin (ordinary (two_energies 0 33 64)) 32 ≡ 31) × IsLeast (ordinary (two_energies 0 33 64)) (1 ∷ []) 33
  idle_margin : (plan work : List ℕ) → length plan ≡ 1 → length work ≡ 10
      → ByPlanner (two_energies 1 43 69) plan work (2 ∷ []) (replicate 10 0) (ok_planned 32 5 10 74)
  idle_margin_reached : (margin (ordinary (two_energies 1 43 69)) 32 ≡ 31) × IsLeast (ordinary (two_energies 1 43 69)) (1 ∷ []) 43
  -- With 3 and 4 the unit is 2, the energy 4 and the least 3: at unit 2 nothing is 'the least'. Two such tasks together
  -- cost 8, and 6 is the least: the margin counts every task.
  unit_2 : (plan work : List ℕ) → length plan ≡ 1 → length work ≡ 10
      → ByPlanner (two_energies 0 3 4) plan work (2 ∷ []) (replicate 10 0) (ok_planned 2 5 10 4)
  unit_2_above : IsLeast (ordinary (two_energies 0 3 4)) (1 ∷ []) 3 × (IsLeast (ordinary (two_energies 0 3 4)) (2 ∷ []) 4 → ⊥)
  both_tasks : (plan work : List ℕ) → length plan ≡ 2 → length work ≡ 27
      → ByPlanner (twice 3 4) plan work (2 ∷ 2 ∷ []) (replicate 27 0) (ok_planned 2 10 20 8)
  both_tasks_reached : (margin (ordinary (twice 3 4)) 2 ≡ 2) × IsLeast (ordinary (twice 3 4)) (1 ∷ 1 ∷ []) 6
  -- "With unit 1 it is therefore the least there is": 41, for S.
  pub least_41 : IsLeast (ordinary (S 100)) (2 ∷ 1 ∷ []) 41
  -- Where the slack allows less than the margin: "one task whose task energy is 33 at every rate, with slack 1,000", 16
  -- against 31; and where the margin does, 31 against 32.
  unit_32 : (plan work : List ℕ) → length plan ≡ 1 → length work ≡ 10
      → ByPlanner (two_energies 0 33 33) plan work (2 ∷ []) (replicate 10 0) (ok_planned 32 5 10 33)
  allowances : (allowance (ordinary (two_energies 0 33 33)) 33 ≡ 16) ×
      (margin (ordinary (two_energies 0 33 33)) 32 ≡ 31) × (allowance (ordinary (two_energies 0 33 64)) 64 ≡ 32)
  -- Document 02, note 6. "A below the period", of its own task: 1 and 3 with periods 2 and 4; 2 and 4 are "refusal 2".
  first_1 :
      SetAfter (idle_checks Ordinary (with_firsts 2 4 1 3) ▹ hyper_check Ordinary (with_firsts 2 4 1 3)) Ordinary
      (with_firsts 2 4 1 3) (ok_measured 2 2 4)
  first_2 : Declined (with_firsts 2 4 2 3) (BadWord 8)
  first_4 : Declined (with_firsts 2 4 1 4) (BadWord 13)
  -- "The planner still answers for a common release": with S's second task from 7 on, its plan; the walk of it to 60.
  pub planned_from : (plan work : List ℕ) → length plan ≡ 2 → length work ≡ 243
      → ByPlanner (S_from 0 7) plan work (2 ∷ 1 ∷ []) (replicate 243 0) (ok_planned 1 29 30 41)
  pub walk_from_lem : WalkAnswers (S_from 0 7) (2 ∷ 1 ∷ []) (Ok (Kept 55 5 2))
  -- "it goes to 2 × L. If some A is above 0, 'kept' means just that stretch": periods 2 and 2, first releases 0 and 1, are
  -- kept with a load of 3, above L = 2, and the plan does not keep every deadline for ever, from there or together.
  walk_over_load : WalkAnswers (with_firsts 2 2 0 1) (1 ∷ 1 ∷ []) (Ok (Kept 4 0 0))
  over_load : (plan_load (problem_of Ordinary (with_firsts 2 2 0 1)) (1 ∷ 1 ∷ []) ≡ 3) × (hyper_period Ordinary (with_firsts 2 2 0 1) ≡ 2)
  not_for_ever : (KeepsForEver (walk_tasks Ordinary (with_firsts 2 2 0 1) (1 ∷ 1 ∷ [])) → ⊥) ×
      (Keeps Ordinary (with_firsts 2 2 0 1) (1 ∷ 1 ∷ []) → ⊥)
  -- 'Unfinished' is asked before the tick's releases: 2 preemptions, where it would be 3 after them. "If all are 0 it ends
  -- at L as before": in 4 ticks.
  walk_asked_before : WalkAnswers (with_firsts 2 4 1 1) (1 ∷ 1 ∷ []) (Ok (Kept 7 1 2))
  walk_together : WalkAnswers (with_firsts 2 4 0 0) (1 ∷ 1 ∷ []) (Ok (Kept 4 0 1))
  -- With both released together the first set misses where it has to: at L.
  missed_together : WalkAnswers (with_firsts 2 2 0 0) (1 ∷ 1 ∷ []) (Ok (Missed 2 2))
  -- A chip's list: its plan, and the walk of it.
  pub planned_chip : (plan work : List ℕ) → length plan ≡ 2 → length work ≡ 51
      → ByPlanner chip_set plan work (2 ∷ 2 ∷ []) (replicate 51 0) (ok_planned 128 20 40 1680)
  pub walk_chip : WalkAnswers chip_set (2 ∷ 2 ∷ []) (Ok (Kept 20 20 0))
  -- Attempt 1, "A planner that gives every task the fastest rate": plan 3 3 for S has load 12 and energy 120. It fits;
  -- but plan 2 1 keeps every deadline for ever too, with 41, and demand 3's bound stops 120.
  pub plan_3_3 : (plan_load (problem_of Ordinary (S 100)) (3 ∷ 3 ∷ []) ≡ 12) ×
      (reported_energy Ordinary (S 100) (3 ∷ 3 ∷ []) ≡ 120) × Keeps Ordinary (S 100) (3 ∷ 3 ∷ [])
  pub plan_3_3_stopped : (unit : ℕ) → PlanPromise (ordinary (S 100)) (3 ∷ 3 ∷ []) unit 120 → ⊥
  -- What C is given: 0 and the values, or the refusal's number and second number in one.
  returns : (code (WorkShort 243) ≡ 21474836723) × (code (BadPlan 1) ≡ 34359738369)
  values : (planner_values (ok_planned 1 29 30 41) ≡ 1 ∷ 29 ∷ 30 ∷ 41 ∷ []) × (walk_values (Ok (Kept 29 1 1)) ≡ 1 ∷ 29 ∷ 1 ∷ 1 ∷ []) × (walk_values (Ok (Missed 15 2)) ≡ 0 ∷ 15 ∷ 2 ∷ 0 ∷ [])
  -- A plan that is short, two that are long, and none at all, for a walk of two tasks.
  short_plan : WalkAnswers (S 100) (1 ∷ []) (Err (BadPlan 1))
  long_plan : WalkAnswers (S 100) (1 ∷ 1 ∷ 1 ∷ []) (Err (BadPlan 2))
  long_bad_plan : WalkAnswers (S 100) (1 ∷ 1 ∷ 9 ∷ 9 ∷ []) (Err (BadPlan 2))
  empty_plan : WalkAnswers (S 100) [] (Err (BadPlan 0))

pub cases : Cases
unfolding S S_from one_task_of one-period two_periods chip_set even_tasks with_rates slow_or_fast idle-tasks two_energies twice with_firsts checked_of covered_of shape_of cover_of after_shape is_bad is_fall is_over is_below has_below head_kinds extra_kinds kind_in kind_at head_kind task_kind allows is_unfit plan_verdict seek total gcd_in gcd lcm running fastest exponent used_exponent used_from least_energy_at cell best least_of first_of via spend trace choose IsLe
cases =
    let by_33_64 : Given (two_energies 0 33 64) (2 ∷ []) 32 5 10 64
    = planned (two_energies 0 33 64) 2 1 10 refl (2 ∷ []) 5 32 5 64
    (le_by_compare _ _ tt) (le_by_compare _ _ tt) refl refl refl refl refl refl in
    let by_43_69 : Given (two_energies 1 43 69) (2 ∷ []) 32 5 10 74
    = planned (two_energies 1 43 69) 2 1 10 refl (2 ∷ []) 5 32 5 74
    (le_by_compare _ _ tt) (le_by_compare _ _ tt) refl refl refl refl refl refl in
    let by_3_4 : Given (two_energies 0 3 4) (2 ∷ []) 2 5 10 4
    = planned (two_energies 0 3 4) 2 1 10 refl (2 ∷ []) 1 2 5 4
    (le_by_compare _ _ tt) (le_by_compare _ _ tt) refl refl refl refl refl refl in
    let by_twice : Given (twice 3 4) (2 ∷ 2 ∷ []) 2 10 20 8
    = planned (twice 3 4) 2 2 20 refl (2 ∷ 2 ∷ []) 1 2 10 8
    (le_by_compare _ _ tt) (le_by_compare _ _ tt) refl refl refl refl refl refl in
    let of_S : Given (S 100) (2 ∷ 1 ∷ []) 1 29 30 41
    = planned (S 100) 3 2 30 refl (2 ∷ 1 ∷ []) 0 1 29 41 (le_by_compare _ _ tt) (le_by_compare _ _ tt) refl refl refl refl refl refl in
    let of_S_1000 : Given (S 1000) (1 ∷ 2 ∷ []) 8 28 30 42
    = planned (S 1000) 3 2 30 refl (1 ∷ 2 ∷ []) 3 8 28 42
    (le_by_compare _ _ tt) (le_by_compare _ _ tt) refl refl refl refl refl refl in
    let of_tie : Given even_tasks (2 ∷ 1 ∷ []) 1 4 4 6
    = planned even_tasks 2 2 4 refl (2 ∷ 1 ∷ []) 0 1 4 6
    (le_by_compare _ _ tt) (le_by_compare _ _ tt) refl refl refl refl refl refl in
    record {
      planned_100 = of_S;
      work_242 = λ plan work h. work_short (S 100) 3 2 30 refl plan work (omega arith);
      planned_1000 = of_S_1000;
      walk_of_1_1 = (walks (S 100) 3 2 30 refl (1 ∷ 1 ∷ []) refl, refl);
      walk_of_2_1 = (walks (S 100) 3 2 30 refl (2 ∷ 1 ∷ []) refl, refl);
      load_of_1_3 = refl;
      walk_of_1_4 = plan_refused (S 100) 3 2 30 refl (1 ∷ 4 ∷ []) 1 refl;
      cycles_60 = planned (one_task_of 60) 2 1 30 refl (2 ∷ []) 0 1 30 6 (le_by_compare _ _ tt) (le_by_compare _ _ tt) refl refl refl refl refl refl;
      cycles_61 = no_plan (one_task_of 61) 2 1 30 refl (le_by_compare _ _ tt) (le_by_compare _ _ tt);
      slack_0 = set_refused (Table Ordinary) (S 0) (BadWord 0) refl;
      empty = set_refused (Table Ordinary) [] (BadWord 0) refl;
      rates_4_4 = set_refused (Table Ordinary) (with_rates 4 4 (9 ∷ [])) (NotAbove 4) refl;
      periods_too_long = set_refused (Table Ordinary) (two_periods 9999999 10000000) (TooLong 11) refl;
      period_10000000 = answered Ordinary (one-period 10000000) (ok_measured 2 1 10000000) refl;
      bad_rate_count = set_refused (Table Ordinary) (100 ∷ 0 ∷ 9 ∷ 2 ∷ []) (BadWord 2) refl;
      bad_task_count = set_refused (Table Ordinary) (100 ∷ 0 ∷ 2 ∷ 2 ∷ 4 ∷ 33 ∷ 10 ∷ []) (BadWord 5) refl;
      missing = set_refused (Table Ordinary) (with_rates 2 4 []) (BadWord 10) refl;
      left_over = set_refused (Table Ordinary) (with_rates 2 4 (9 ∷ 1 ∷ [])) (BadWord 11) refl;
      short_plan = plan_refused (S 100) 3 2 30 refl (1 ∷ []) 1 refl;
      long_plan = plan_refused (S 100) 3 2 30 refl (1 ∷ 1 ∷ 1 ∷ []) 2 refl;
      long_bad_plan = plan_refused (S 100) 3 2 30 refl (1 ∷ 1 ∷ 9 ∷ 9 ∷ []) 2 refl;
      plan_list_1 = λ plan work p q. plan_short (S 100) 3 2 30 refl plan work (omega arith) (omega arith);
      tie = of_tie;
      rate_0 = (refl, refl);
      idle_counts = planned (slow_or_fast 10 910) 2 1 100 refl (1 ∷ []) 0 1 90 1010
          (le_by_compare _ _ tt) (le_by_compare _ _ tt) refl refl refl refl refl refl;
      walk_idle = (walks (slow_or_fast 10 910) 2 1 100 refl (1 ∷ []) refl, refl);
      jobs_alone = (
        refl,
        refl,
        refl,
        kept_keeps (slow_or_fast 10 910) (2 ∷ []) 10 90 0 refl
            (walks (slow_or_fast 10 910) 2 1 100 refl (2 ∷ []) refl, refl),
      );
      jobs_alone_false = λ h. let bound : 1000 * 910 ≤ 1100 * 200 = h in omega arith;
      jobs_alone_above = λ h. let bound : 910 ≤ 200 = h in omega arith;
      idle_nothing = planned (slow_or_fast 0 910) 2 1 100 refl (2 ∷ []) 3 8 10 200
          (le_by_compare _ _ tt) (le_by_compare _ _ tt) refl refl refl refl refl refl;
      idle_equal = planned (slow_or_fast 10 900) 2 1 100 refl (1 ∷ []) 0 1 90 1000
          (le_by_compare _ _ tt) (le_by_compare _ _ tt) refl refl refl refl refl refl;
      idle_above = set_refused (Table Ordinary) (slow_or_fast 10 899) (BelowIdle 9) refl;
      nothing_left = planned (idle-tasks 10 10 40 20 40 20) 2 2 10 refl (2 ∷ 2 ∷ []) 0 1 4 100
          (le_by_compare _ _ tt) (le_by_compare _ _ tt) refl refl refl refl refl refl;
      first_task_lem = set_refused (Table Ordinary) (idle-tasks 10 10 40 19 39 20) (BelowIdle 10) refl;
      second_task = set_refused (Table Ordinary) (idle-tasks 10 10 40 20 39 20) (BelowIdle 14) refl;
      before_4 = set_refused (Table Ordinary) (idle-tasks 9999999 10000000 40 20 39 20) (BelowIdle 14) refl;
      after_4 = set_refused (Table Ordinary) (idle-tasks 9999999 10000000 40 20 40 20) (TooLong 11) refl;
      not_by_walk = (walks (idle-tasks 10 10 40 20 39 20) 2 2 10 refl (1 ∷ 1 ∷ []) refl, refl);
      idle_1001 = set_refused (Table Ordinary) (slow_or_fast 1001 910) (BadWord 1) refl;
      margin_31 = by_33_64;
      margin_31_reached = (
        refl,
        least_by_margin (two_energies 0 33 64) (2 ∷ []) 32 5 10 64 (le_by_compare _ _ tt) by_33_64 (1 ∷ []) 10 0 0 refl
            (walks (two_energies 0 33 64) 2 1 10 refl (1 ∷ []) refl, refl) refl,
      );
      idle_margin = by_43_69;
      idle_margin_reached = (
        refl,
        least_by_margin (two_energies 1 43 69) (2 ∷ []) 32 5 10 74 (le_by_compare _ _ tt) by_43_69 (1 ∷ []) 10 0 0 refl
            (walks (two_energies 1 43 69) 2 1 10 refl (1 ∷ []) refl, refl) refl,
      );
      unit_2 = by_3_4;
      unit_2_above =
          let cheaper : IsLeast (ordinary (two_energies 0 3 4)) (1 ∷ []) 3
          = least_by_margin (two_energies 0 3 4) (2 ∷ []) 2 5 10 4 (le_by_compare _ _ tt) by_3_4 (1 ∷ []) 10 0 0 refl
          (walks (two_energies 0 3 4) 2 1 10 refl (1 ∷ []) refl, refl) refl in
          (cheaper, (λ l. let below : 4 ≤ 3 = l.least (1 ∷ []) cheaper.keeps in omega arith));
      both_tasks = by_twice;
      both_tasks_reached = (
        refl,
        least_by_margin (twice 3 4) (2 ∷ 2 ∷ []) 2 10 20 8 (le_by_compare _ _ tt) by_twice (1 ∷ 1 ∷ []) 20 0 0 refl
            (walks (twice 3 4) 2 2 20 refl (1 ∷ 1 ∷ []) refl, refl) refl,
      );
      least_41 = (promised (S 100) (2 ∷ 1 ∷ []) 1 29 30 41 (le_by_compare _ _ tt) of_S).least refl;
      unit_32 = planned (two_energies 0 33 33) 2 1 10 refl (2 ∷ []) 5 32 5 33
          (le_by_compare _ _ tt) (le_by_compare _ _ tt) refl refl refl refl refl refl;
      allowances = (refl, refl, refl);
      planned_from = planned (S_from 0 7) 3 2 30 refl (2 ∷ 1 ∷ []) 0 1 29 41
          (le_by_compare _ _ tt) (le_by_compare _ _ tt) refl refl refl refl refl refl;
      walk_from_lem = (walks (S_from 0 7) 3 2 30 refl (2 ∷ 1 ∷ []) refl, refl);
      first_1 = answered Ordinary (with_firsts 2 4 1 3) (ok_measured 2 2 4) refl;
      first_2 = set_refused (Table Ordinary) (with_firsts 2 4 2 3) (BadWord 8) refl;
      first_4 = set_refused (Table Ordinary) (with_firsts 2 4 1 4) (BadWord 13) refl;
      walk_over_load = (walks (with_firsts 2 2 0 1) 2 2 2 refl (1 ∷ 1 ∷ []) refl, refl);
      over_load = (refl, refl);
      not_for_ever = (
        (λ h. let late : true ≡ false = h 5 in absurd (true≢false late)),
        (λ k.
            let together : WalkAnswers (with_firsts 2 2 0 0) (1 ∷ 1 ∷ []) (Ok (Missed 2 2))
            = (walks (with_firsts 2 2 0 0) 2 2 2 refl (1 ∷ 1 ∷ []) refl, refl) in
            (walk_owes (with_firsts 2 2 0 0) (1 ∷ 1 ∷ []) (Ok (Missed 2 2)) together).from_0 k.for_ever),
      );
      walk_asked_before = (walks (with_firsts 2 4 1 1) 2 2 4 refl (1 ∷ 1 ∷ []) refl, refl);
      walk_together = (walks (with_firsts 2 4 0 0) 2 2 4 refl (1 ∷ 1 ∷ []) refl, refl);
      missed_together = (walks (with_firsts 2 2 0 0) 2 2 2 refl (1 ∷ 1 ∷ []) refl, refl);
      planned_chip = planned chip_set 4 2 40 refl (2 ∷ 2 ∷ []) 7 128 20 1680
          (le_by_compare _ _ tt) (le_by_compare _ _ tt) refl refl refl refl refl refl;
      walk_chip = (walks chip_set 4 2 40 refl (2 ∷ 2 ∷ []) refl, refl);
      plan_3_3 = (refl, refl, kept_keeps (S 100) (3 ∷ 3 ∷ []) 12 18 0 refl (walks (S 100) 3 2 30 refl (3 ∷ 3 ∷ []) refl, refl));
      plan_3_3_stopped = λ unit p.
          let other : Keeps Ordinary (S 100) (2 ∷ 1 ∷ [])
          = kept_keeps (S 100) (2 ∷ 1 ∷ []) 29 1 1 refl (walks (S 100) 3 2 30 refl (2 ∷ 1 ∷ []) refl, refl) in
          let bound : 1000 * 120 ≤ 1100 * 41 = p.within (2 ∷ 1 ∷ []) other in
          omega arith;
      returns = (refl, refl);
      values = (refl, refl, refl);
      empty_plan = plan_refused (S 100) 3 2 30 refl [] 0 refl;
    }
