-- Second numbers of refusals are small, however long the lists: so a refusal and its second number fit one 64-bit
-- number.
-- Assumes nothing.
use Prim.Native.Nat.{ℕ, ◌≤◌, ◌<◌, ◌^◌}
use mathlib.Core.Path.{◌≡◌, refl, sym, subst}
use mathlib.Core.Bool.{true, false}
use mathlib.Core.List.{List}
use mathlib.Core.Logic.{inl, inr, ⊎_elim}
use native.Mathlib.Omega.{arith}
use lib.ListN.{length}
use Rattle.numbers.proofs.Tests.{bool_cases, lt_or_le, between_true}
use Rattle.selection.specs.Plan.{Fitting}
use Rattle.selection.proofs.Bounds.{last_small, work_small}
use Rattle.layout.specs.Words.{head_size, slack, rate_count, task_count, word_count, task_count_place, kind_at, allows}
use Rattle.taskset.specs.Quantities.{work_needed, problem_of}
use Rattle.taskset.specs.Refusals.{IsBadWord, IsNotAbove, IsBelowIdle, IsTooLong, IsShort, IsBadPlan, Check}
use Rattle.taskset.specs.Refusals.{Accepts, Refuses, ◌▹◌, word_checks, idle_check, idle_checks, hyper_check}
use Rattle.taskset.specs.Refusals.{room_check, none_check, plan_check, engine_check, ready_checks, planner_checks, walk_checks}
use Rattle.taskset.specs.Planning.{layout_of}
use Rattle.taskset.specs.declared.Engine.{Engine}
use Rattle.taskset.specs.declared.Engine.TheVariants.{Table, Exhaustive}
use Rattle.layout.specs.declared.Kind.{Kind}
use Rattle.layout.specs.declared.Kind.TheVariants.{RateCount, TaskCount}
use Rattle.taskset.proofs.Checks.{no_word_fault, refuses_cases, passed}
use Rattle.layout.proofs.Places.{kind_rates, kind_tasks, kind_past}
use Rattle.layout.specs.Whole.{IsWhole}
use Rattle.layout.proofs.Whole.{whole_of, slack_in}
use Rattle.layout.proofs.Layouts.{head_few, extra_few, task-words}
use Rattle.layout.specs.declared.Layout.{Layout}
use Rattle.layout.specs.declared.Layout.TheVariants.{Ordinary}

module _ (layout : Layout) (s : List ℕ) where
  -- A list that is sound up to place 1,000 has a word left over before that.
  module _ (q : ℕ) (bad : IsBadWord layout s q) (far : 1000 < q) where
    inside : q ≤ length s
    inside = ⊎_elim (λ w. omega (arith, w.0)) (λ w. omega (arith, w.0)) bad.here

    fine : (j : ℕ) (k : Kind) → j < q → kind_at layout s j ≡ k → allows s j k ≡ true
    fine j k l e =
        ⊎_elim
        (λ (a : allows s j k ≡ true). a)
        (λ (a : allows s j k ≡ false).
        absurd (bad.before j l (inl (omega (arith, inside), subst (λ (x : Kind). allows s j x ≡ false) (sym e) a))))
        (bool_cases (allows s j k))

    rates : (2 ≤ rate_count layout s) × (rate_count layout s ≤ 8)
    unfolding allows
    rates = between_true _ _ _ (fine (head_size layout) RateCount (omega (arith, head_few layout))
        (kind_rates layout s (head_size layout) refl))

    tasks : (1 ≤ task_count layout s) × (task_count layout s ≤ 32)
    unfolding allows
    tasks =
        between_true _ _ _
        (fine (task_count_place layout (rate_count layout s)) TaskCount (omega (arith, rates.1, head_few layout))
        (kind_tasks layout s _ refl))

    short : word_count layout s < q
    short = omega (arith, rates.1, head_few layout, task-words layout (rate_count layout s) (task_count layout s) rates.1 tasks.1)

    none : ⊥
    unfolding allows
    none =
        bad.before (word_count layout s) short
        (inl (
          omega (arith, inside, short),
          subst (λ (x : Kind). allows s (word_count layout s) x ≡ false)
              (sym (kind_past layout s (word_count layout s) (omega arith) (omega arith))) refl,
        ))

  bad_word_small : (q : ℕ) → IsBadWord layout s q → q ≤ 1000
  bad_word_small q bad = ⊎_elim (λ (l : 1000 < q). absurd (none q bad l)) (λ (l : q ≤ 1000). l) (lt_or_le 1000 q)

  module _ (pass : (q : ℕ) → IsBadWord layout s q → ⊥) where
    whole : IsWhole layout s
    whole = whole_of layout s (no_word_fault layout s pass)

    not_above_small : (q : ℕ) → IsNotAbove layout s q → q ≤ 1000
    not_above_small q h = omega (arith, h.here.1, whole.rates_range.1, head_few layout)

    below_idle_small : (q : ℕ) → IsBelowIdle layout s q → q ≤ 1000
    below_idle_small q h =
        let f = h.here in
        omega (
          arith,
          f.place,
          f.to_m,
          whole.rates_range.1,
          head_few layout,
          extra_few layout,
          task-words layout (rate_count layout s) f.task whole.rates_range.1 (omega (arith, f.is_task, whole.tasks_range.1)),
        )

    too_long_small : (q : ℕ) → IsTooLong layout s q → q ≤ 1000
    too_long_small q h =
        let t = h.1.here.0 in
        omega (
          arith,
          h.2,
          whole.rates_range.1,
          head_few layout,
          task-words layout (rate_count layout s) h.0
              whole.rates_range.1 (omega (arith, whole.tasks_range.1)),
        )

    bad_plan_small : (P : List ℕ) (k : ℕ) → IsBadPlan (rate_count layout s) (task_count layout s) P k → k ≤ 1000
    bad_plan_small P k h =
        ⊎_elim
        (λ (l : task_count layout s < k).
        absurd (⊎_elim
        (λ w. h.before (task_count layout s) l (inr (inr (refl, omega (arith, w.0)))))
        (λ w. ⊎_elim (λ v. absurd (omega arith)) (λ v. absurd (omega arith)) w)
        h.here))
        (λ (l : k ≤ task_count layout s). omega (arith, whole.tasks_range.1))
        (lt_or_le (task_count layout s) k)

    -- The working words, as the slack is at least 1.
    work_short_small : (lent k : ℕ) → IsShort (work_needed layout s) lent k → k ≤ 4224033
    work_short_small lent k h =
        let n : task_count layout s ≤ 32 = whole.tasks_range.1 in
        omega (arith, h.1, work_small (task_count layout s) _ n (last_small (task_count layout s) (slack s) n (slack_in layout s whole).0))

    plan_short_small : (lent k : ℕ) → IsShort (task_count layout s) lent k → k ≤ 1000
    plan_short_small lent k h = omega (arith, h.1, whole.tasks_range.1)

  -- Every second number that checks 2 and 3 give, and of one check more the next's too.
  words-second_small : (n k : ℕ) → Refuses (word_checks layout s) n k → k < 2 ^ 32
  words-second_small n k r =
      ⊎_elim
      (λ a. omega (arith, bad_word_small k a.1))
      (λ a. ⊎_elim (λ b. omega (arith, not_above_small a.0 k b.1)) (λ b. absurd b.1) a.1)
      r

-- The second numbers of a call's checks are small where those of its checks but the last are, and the last's is.
next_small : (cs : List Check) (c : Check) → ((n k : ℕ) → Refuses cs n k → k < 2 ^ 32) → (Accepts cs → (k : ℕ) → c.cause k → k < 2 ^ 32)
    → (n k : ℕ) → Refuses (cs ▹ c) n k → k < 2 ^ 32
next_small cs c before last n k r = ⊎_elim (λ x. before n k x) (λ x. last x.0 k x.2) (refuses_cases cs c n k r)

module _ (layout : Layout) (s : List ℕ) where
  abbrev set : List Check
  set = word_checks layout s ▹ hyper_check layout s

  set-second_small : (n k : ℕ) → Refuses set n k → k < 2 ^ 32
  set-second_small =
      next_small (word_checks layout s) (hyper_check layout s) (words-second_small layout s)
      (λ a k h. omega (arith, too_long_small layout s (passed 2 (word_checks layout s) refl a) k h))

  abbrev covered : List Check
  covered = idle_checks layout s ▹ hyper_check layout s

  covered-second_small : (n k : ℕ) → Refuses covered n k → k < 2 ^ 32
  covered-second_small =
      next_small (idle_checks layout s) (hyper_check layout s)
      (next_small (word_checks layout s) (idle_check layout s) (words-second_small layout s)
      (λ a k h. omega (arith, below_idle_small layout s (passed 2 (word_checks layout s) refl a) k h)))
      (λ a k h. omega (arith, too_long_small layout s (passed 2 (idle_checks layout s) refl a) k h))

-- The walk's refusals.
pub walk-second_small : (s P : List ℕ) (n k : ℕ) → Refuses (walk_checks s P) n k → k < 2 ^ 32
walk-second_small s P =
    next_small (set Ordinary s) (plan_check Ordinary s P) (set-second_small Ordinary s)
    (λ a k h. omega (arith, bad_plan_small Ordinary s (passed 2 (set Ordinary s) refl a) P k h))

-- Those of a call that plans a list: of the check that is its engine's own, and of all of them.
own-second_small : (e : Engine) (s : List ℕ) (workLength : ℕ) → Accepts (covered (layout_of e) s)
    → (k : ℕ) → (engine_check e s workLength).cause k → k < 2 ^ 32
own-second_small (Table layout) s wl a k h =
    omega (arith, work_short_small layout s (passed 2 (covered layout s) refl a) wl k h)
own-second_small Exhaustive s wl a k h = omega (arith, h.0)

module _ (e : Engine) (s : List ℕ) (planLength workLength : ℕ) where
  abbrev up_to_own : List Check
  up_to_own = covered (layout_of e) s ▹ engine_check e s workLength

  ready_second_small : (n k : ℕ) → Refuses (ready_checks e s planLength workLength) n k → k < 2 ^ 32
  ready_second_small =
      next_small up_to_own (room_check (task_count (layout_of e) s) planLength)
      (next_small (covered (layout_of e) s) (engine_check e s workLength) (covered-second_small (layout_of e) s)
      (own-second_small e s workLength))
      (λ a k h. omega (arith, plan_short_small (layout_of e) s (passed 2 up_to_own refl a) planLength k h))

  pub planner_second_small : (n k : ℕ) → Refuses (planner_checks e s planLength workLength) n k → k < 2 ^ 32
  planner_second_small =
      next_small (ready_checks e s planLength workLength) (none_check (Fitting (problem_of (layout_of e) s))) ready_second_small
      (λ a k h. omega (arith, h.0))
