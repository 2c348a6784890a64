-- DEMAND 3. Of anything that is planned and is sound (Sound, below), whatever document 01 selects is a plan that demand 3
-- compares with, and grants what it is to grant; its energy is its own; and no other such plan is cheaper by more than the
-- slack, or by more than the margin of document 02's note 5; and no plan fits exactly when there is no such plan. And a
-- list that passes checks 2, 3, 10 and 4 is sound: those plans are the ones that keep every deadline for ever, judged by
-- the endless walk, and every energy counts the idle ticks.
-- Assumes nothing.
use Rattle.std.specs.Prelude.{Ok, Err}
use Prim.Native.Nat.{ℕ, ◌+◌, ◌-◌, ◌*◌, ◌^◌, ◌≤◌, ◌<◌}
use native.Mathlib.Nat.{mul-add, mul-le-mul_right}
use mathlib.Core.Path.{◌≡◌, refl, sym, ap, subst, ◌∙◌}
use mathlib.Core.Bool.{true, false, true≢false}
use mathlib.Core.List.{List, [], ◌∷◌}
use mathlib.Core.Option.{some}
use mathlib.Core.Logic.{inl, inr, ⊎_elim, ◌↔◌}
use native.Mathlib.Omega.{arith}
use lib.ListN.{length, get_or}
use Rattle.numbers.specs.Numbers.{between}
use Rattle.numbers.proofs.Powers.{power_positive}
use Rattle.numbers.proofs.Tests.{bool_cases, lt_or_le, between_true, true_between}
use Rattle.schedule.specs.Walk.{Task, KeepsForEver}
use Rattle.schedule.specs.Counted.{Outcome, IsKept, walk, kept, missed}
use Rattle.schedule.proofs.Finite.{kept_misses-none, keeps_kept, kept_iff_keeps, busy_and-idle, busy_is_load}
use Rattle.selection.specs.Plan.{Fitting, IsPlan, IsPlanned, plan_load, plan_energy}
use Rattle.selection.proofs.Bounds.{planned-within, within_margin}
use Rattle.layout.specs.Words.{longest_period, idle, rate_count, task_count, first}
use Rattle.layout.specs.declared.Layout.{Layout}
use Rattle.taskset.specs.Quantities.{hyper_period, problem_of, endless_tasks, tasks_with, walk_tasks, last_tick}
use Rattle.taskset.specs.Refusals.{number, second, Check, Accepts, Refuses, ◌▹◌, NoneOk}
use Rattle.taskset.specs.Refusals.{PlanFault, IsBadPlan, ready_checks, walk_checks}
use Rattle.taskset.specs.Refusals.{word_check, rate_check, idle_check, hyper_check, none_check}
use Rattle.taskset.specs.Calls.{planner_values, Selected, PlanGives, outcome_values, walk_of, WalkAnswers}
use Rattle.taskset.specs.Planning.{Planning, Keeps, AreFirsts, planning, layout_of}
use Rattle.taskset.specs.DemandThree.{margin, PlanPromise, NoneKeeps, PlanOwes, Together, WalkOwes}
use Rattle.taskset.specs.declared.Engine.{Engine}
use Rattle.taskset.specs.declared.Engine.TheVariants.{Table, Exhaustive}
use Rattle.taskset.proofs.Checks.{no_plan_fault, numbered, lacks, Without, without_by, accepts_but_last}
use Rattle.taskset.proofs.Checks.{refuses_next, refuses_cases, refuses_last, passed, not-both}
use Rattle.layout.proofs.Whole.{slack_in, first_in}
use Rattle.layout.specs.declared.Layout.TheVariants.{Ordinary}
use Rattle.taskset.specs.Sets.{IsSet}
use Rattle.taskset.proofs.Sets.{set_of, regular, walk-load, keeps_iff_load}
use Rattle.taskset.proofs.Released.{load_keeps, keeps_load, together_last, together_tasks}
use Rattle.taskset.specs.Sets.{Covered}
use Rattle.taskset.proofs.Idle.{covered_of_lem, reported_is}
use Rattle.taskset.specs.Answers.{PlannerAnswer, WalkAnswer, ok_planned}
use Rattle.taskset.specs.declared.WalkEnd.TheVariants.{Kept, Missed}

-- ---- anything that is planned
-- What the theorem asks: a plan is compared with exactly when it fits, and grants then what it is to grant; and what is
-- reported of a plan that fits is the energy that selection goes by and the same for all.
pub record Sound (m : Planning) : Type 0 where
  pub keeps_iff : (Q : List ℕ) → m.Keeps Q ↔ Fitting m.problem Q
  pub grants : (Q : List ℕ) → m.Keeps Q → m.Grants Q
  pub besides : ℕ
  pub energy_is : (Q : List ℕ) → Fitting m.problem Q → m.energy Q ≡ plan_energy m.problem Q + besides
  pub slack_in : m.slack ≤ 1000

-- A bound between two numbers holds with the same added to both.
more_on_both : (G a b c : ℕ) → 1000 * a ≤ (1000 + G) * b → 1000 * (a + c) ≤ (1000 + G) * (b + c)
more_on_both G a b c h = omega (arith, mul-add (1000 + G) b c, mul-le-mul_right {m = 1000} {n = 1000 + G} c (omega arith))

module _ (m : Planning) (sound : Sound m) where
  -- The plan selected, with 2 ^ a the unit used. Selection bounds what every plan costs, and what is reported is that and
  -- the same for all: so both bounds go over.
  module _ (P : List ℕ) (a : ℕ) (planned : IsPlanned m.problem m.slack a P) where
    in_slack : (Q : List ℕ) → m.Keeps Q → 1000 * m.energy P ≤ (1000 + m.slack) * m.energy Q
    in_slack Q k =
        let fits = (sound.keeps_iff Q).0 k in
        rw (sound.energy_is P planned.chosen.ok, sound.energy_is Q fits)
        (more_on_both m.slack (plan_energy m.problem P) (plan_energy m.problem Q) sound.besides
        (planned-within (Fitting m.problem) m.problem m.slack a sound.slack_in P planned Q fits))

    -- Note 5's.
    in_margin : (Q : List ℕ) → m.Keeps Q → m.energy P ≤ m.energy Q + margin m (2 ^ a)
    in_margin Q k =
        let fits = (sound.keeps_iff Q).0 k in
        omega (
          arith,
          sound.energy_is P planned.chosen.ok,
          sound.energy_is Q fits,
          within_margin (Fitting m.problem) m.problem (2 ^ a) (power_positive a) P planned.chosen Q fits,
        )

  -- A plan given keeps demand 3's promise, and note 5's.
  pub plan_given_lem : (P : List ℕ) (unit load hyper energy : ℕ)
      → Selected m P (planner_values (ok_planned unit load hyper energy)) → PlanPromise m P unit energy
  plan_given_lem P unit load hyper energy c =
      let e = c.values_are in
      let own : energy ≡ m.energy P = cc in
      let unit_is : unit ≡ 2 ^ c.exponent = cc in
      let keeps = (sound.keeps_iff P).1 c.planned.chosen.ok in
      let bound : (Q : List ℕ) → m.Keeps Q → m.energy P ≤ m.energy Q + margin m unit
      = λ Q k. rw unit_is (in_margin P c.exponent c.planned Q k) in
      record {
        keeps = keeps;
        granted = sound.grants P keeps;
        own = own;
        within = λ Q k. omega (arith, in_slack P c.exponent c.planned Q k);
        from_1 = omega (arith, power_positive c.exponent);
        within_margin = λ Q k. omega (arith, bound Q k);
        least = λ one.
            let none : unit - 1 ≡ 0 = omega arith in
            let no_margin : margin m unit ≡ 0 = rw none (omega arith) in
            record { keeps = keeps; own = own; least = λ Q k. omega (arith, bound Q k) };
      }

  -- No plan fits exactly when there is none to compare with.
  pub none_fits_iff_none_keeps : NoneOk (Fitting m.problem) 0 ↔ NoneKeeps m
  none_fits_iff_none_keeps =
      ((λ n Q k. n.1 Q ((sound.keeps_iff Q).0 k)), (λ n. (refl, (λ P f. n P ((sound.keeps_iff P).1 f)))))

-- What the checks that a call which plans makes before 7 come to: what is planned is sound, and 7 is not among them.
pub record Plans (m : Planning) (cs : List Check) : Type 0 where
  pub sound : Accepts cs → Sound m
  pub not_7 : Without 7 cs

-- A call with such checks, and 7 last, refuses with 7 exactly when all before it pass and there is no plan to compare
-- with.
module _ (m : Planning) (cs : List Check) (plans : Plans m cs) where
  abbrev last : Check
  last = none_check (Fitting m.problem)

  refused_7 : (k : ℕ) → Refuses (cs ▹ last) 7 k → Accepts cs × NoneKeeps m
  refused_7 k r =
      let l = refuses_last cs last 7 k plans.not_7 r in
      (l.0, (none_fits_iff_none_keeps m (plans.sound l.0)).0 (refl, l.1.1))

  pub refused_7_iff : Refuses (cs ▹ last) 7 0 ↔ (Accepts cs × NoneKeeps m)
  refused_7_iff = (
    refused_7 0,
    λ h. refuses_next cs last 0 h.0 ((none_fits_iff_none_keeps m (plans.sound h.0)).1 h.1),
  )

  -- So the number of any refusal is 7 in that case, then with 0, and in no other.
  pub refusal_owes : (n k : ℕ) → Refuses (cs ▹ last) n k
      → (n ≡ 7 → Accepts cs × NoneKeeps m) × (Accepts cs × NoneKeeps m → (n ≡ 7) × (k ≡ 0))
  refusal_owes n k h = (
    λ e. refused_7 k (subst (λ (x : ℕ). Refuses (cs ▹ last) x k) e h),
    λ w. ⊎_elim (λ x. absurd (not-both cs n k w.0 x)) (λ x. (x.1, x.2.0)) (refuses_cases cs last n k h),
  )

  -- Whatever meets the definition of what such a call gives keeps what demand 3 asks of it.
  pub answer_owes : (plan plan' : List ℕ) (a : PlannerAnswer)
      → PlanGives (cs ▹ last) m plan plan' a → PlanOwes cs m plan' a
  answer_owes plan plan' (Ok p) g =
      let ready = accepts_but_last cs last g.0 in
      rw g.1.2.front (plan_given_lem m (plans.sound ready) g.1.0 p.unit p.load p.hyper p.energy g.1.1)
  answer_owes plan plan' (Err r) g =
      let owes = refusal_owes (number r) (second r) g.0 in
      (owes.0, (λ w. (owes.1 w).0))

-- ---- a list
module _ (layout : Layout) (s : List ℕ) (set : IsSet layout s) where
  -- A plan keeps every deadline for ever exactly when it fits.
  pub keeps_iff_fits : (Q : List ℕ) → Keeps layout s Q ↔ Fitting (problem_of layout s) Q
  keeps_iff_fits Q = (
    λ k. record { plan = k.plan; fits = (keeps_iff_load layout s set Q).0 k.for_ever },
    λ f. record { plan = f.plan; for_ever = (keeps_iff_load layout s set Q).1 f.fits },
  )

  -- And then it does whatever the first releases.
  pub keeps_with : (Q : List ℕ) → Keeps layout s Q → (a : ℕ → ℕ) → KeepsForEver (tasks_with layout s a Q)
  keeps_with Q k a = load_keeps layout s set a Q ((keeps_iff_fits Q).0 k).fits

  -- And whatever they are, no other plan does: a plan that keeps every deadline for ever from one choice of them does so
  -- from every other, and with all tasks released together.
  pub keeps_from_iff : (a : ℕ → ℕ) → AreFirsts layout s a → (Q : List ℕ) → IsPlan (problem_of layout s) Q
      → KeepsForEver (tasks_with layout s a Q) ↔ Keeps layout s Q
  keeps_from_iff a h Q plan = (
    λ k.
        (keeps_iff_fits Q).1 (record {
          plan = plan;
          fits = load_limit k;
        }),
    λ k. keeps_with Q k a,
  )
    where
      load_limit : KeepsForEver (tasks_with layout s a Q) → plan_load (problem_of layout s) Q ≤ hyper_period layout s
      load_limit =
          keeps_load layout s set a Q longest_period (λ t l. omega (arith, h t l, (set.whole.period_range t l).1))

  -- The list's own first releases are such a choice.
  pub own_firsts : AreFirsts layout s (first layout s)
  own_firsts t h = first_in layout s set.whole t h

  -- A list that passes 10 besides is sound: H × L is reported of every plan.
  pub list_sound : Covered layout s → Sound (planning layout s)
  list_sound covered = record {
    keeps_iff = keeps_iff_fits;
    grants = λ Q k a h. keeps_with Q k a;
    besides = idle s * hyper_period layout s;
    energy_is = λ Q f. reported_is layout s covered Q f.plan f.fits;
    slack_in = (slack_in layout s set.whole).1;
  }

-- What the checks of a call that plans a list come to: the list is a set, with energies that cover idling, and 7 is not
-- among them.
pub record PlansList (layout : Layout) (s : List ℕ) (cs : List Check) : Type 0 where
  pub set : Accepts cs → IsSet layout s
  pub covered : Accepts cs → Covered layout s
  pub not_7 : Without 7 cs

pub list_plans : {layout : Layout} {s : List ℕ} {cs : List Check} → PlansList layout s cs → Plans (planning layout s) cs
list_plans {layout} {s} plans = record {
  sound = λ a. list_sound layout s (plans.set a) (plans.covered a);
  not_7 = plans.not_7;
}

-- By computing: 2, 3, 4 and 10 are among them.
plans_by : (layout : Layout) (s : List ℕ) (cs : List Check)
    → numbered 2 cs ≡ some (word_check layout s) → numbered 3 cs ≡ some (rate_check layout s)
    → numbered 4 cs ≡ some (hyper_check layout s) → numbered 10 cs ≡ some (idle_check layout s)
    → lacks 7 cs ≡ true → PlansList layout s cs
plans_by layout s cs two three four ten none = record {
  set = λ a. set_of layout s (passed 2 cs two a) (passed 3 cs three a) (passed 4 cs four a);
  covered = λ a. covered_of_lem layout s (passed 10 cs ten a);
  not_7 = without_by 7 cs none;
}

-- So those of either engine.
pub engine_plans : (e : Engine) (s : List ℕ) (planLength workLength : ℕ)
    → PlansList (layout_of e) s (ready_checks e s planLength workLength)
engine_plans (Table layout) s pl wl = plans_by layout s (ready_checks (Table layout) s pl wl) refl refl refl refl refl
engine_plans Exhaustive s pl wl = plans_by Ordinary s (ready_checks Exhaustive s pl wl) refl refl refl refl refl

-- ---- the walk of a list
module _ (s : List ℕ) (set : IsSet Ordinary s) where
  module _ (P : List ℕ) where
    -- The walk of a plan that fits is kept, whatever the first releases: of any list of rate numbers.
    pub walk_kept : plan_load (problem_of Ordinary s) P ≤ hyper_period Ordinary s → IsKept (walk_of s P)
    walk_kept fits = keeps_kept (walk_tasks Ordinary s P) (last_tick Ordinary s) (load_keeps Ordinary s set (first Ordinary s) P fits)

    -- With every first release 0 the walk says 'kept' exactly when the endless walk keeps every deadline, and then its
    -- busy ticks are the load.
    module _ (zero : Together s) where
      abbrev ks : List Task
      ks = endless_tasks Ordinary s P

      walk_is : walk_of s P ≡ walk ks (hyper_period Ordinary s)
      walk_is =
          ap (λ (ts : List Task). walk ts (last_tick Ordinary s)) (together_tasks Ordinary s zero P) ∙
          ap (walk ks) (together_last Ordinary s zero)

      pub walk_decides : IsKept (walk_of s P) ↔ KeepsForEver ks
      walk_decides = rw walk_is (kept_iff_keeps ks (hyper_period Ordinary s) set.hyper_range.0 (regular Ordinary s set P))

      pub walk_busy : (busy idle preempted : ℕ) → walk_of s P ≡ kept busy idle preempted → busy ≡ plan_load (problem_of Ordinary s) P
      walk_busy busy idle preempted e =
          busy_is_load ks (hyper_period Ordinary s) busy idle preempted (sym walk_is ∙ e) set.hyper_range.0 (regular Ordinary s set P) ∙
          walk-load Ordinary s set P

-- An outcome is known by its values.
pub outcome_kept : (o : Outcome) (b i p : ℕ) → 1 ∷ b ∷ i ∷ p ∷ [] ≡ outcome_values o → o ≡ kept b i p
outcome_kept (kept b' i' p') b i p e = cc
outcome_kept (missed t k) b i p e = let z : ◌≡◌ {A = ℕ} 1 0 = cc in absurd (omega arith)

outcome_missed : (o : Outcome) (t k : ℕ) → 0 ∷ t ∷ k ∷ 0 ∷ [] ≡ outcome_values o → o ≡ missed t k
outcome_missed (kept b i p) t k e = let z : ◌≡◌ {A = ℕ} 0 1 = cc in absurd (omega arith)
outcome_missed (missed t' k') t k e = cc

-- A plan without a fault is one rate number, 1 to M, for each task.
pub plan_of : (s P : List ℕ) → ((k : ℕ) → IsBadPlan (rate_count Ordinary s) (task_count Ordinary s) P k → ⊥) → IsPlan (problem_of Ordinary s) P
plan_of s P pass =
    record {
      size = size;
      above = λ t l. (number_of t l).0;
      below = λ t l. (number_of t l).1;
    }
  where
    none : (k : ℕ) → PlanFault (rate_count Ordinary s) (task_count Ordinary s) P k → ⊥
    none = no_plan_fault (rate_count Ordinary s) (task_count Ordinary s) P pass

    size : length P ≡ task_count Ordinary s
    size =
        ⊎_elim
        (λ (l : length P < task_count Ordinary s). absurd (none (length P) (inr (inl (refl, l)))))
        (λ (l : task_count Ordinary s ≤ length P).
        ⊎_elim
        (λ (m : task_count Ordinary s < length P). absurd (none (task_count Ordinary s) (inr (inr (refl, m)))))
        (λ (m : length P ≤ task_count Ordinary s). omega arith)
        (lt_or_le (task_count Ordinary s) (length P)))
        (lt_or_le (length P) (task_count Ordinary s))

    number_of : (t : ℕ) → t < task_count Ordinary s → (1 ≤ get_or P t 0) × (get_or P t 0 ≤ rate_count Ordinary s)
    number_of t l =
        ⊎_elim
        (λ (e : between 1 (rate_count Ordinary s) (get_or P t 0) ≡ true). between_true 1 (rate_count Ordinary s) (get_or P t 0) e)
        (λ (e : between 1 (rate_count Ordinary s) (get_or P t 0) ≡ false). absurd (none t (inl (omega (arith, size), e))))
        (bool_cases (between 1 (rate_count Ordinary s) (get_or P t 0)))

-- And such a plan has no fault.
pub sound_plan : (s P : List ℕ) → IsPlan (problem_of Ordinary s) P → (k : ℕ)
    → IsBadPlan (rate_count Ordinary s) (task_count Ordinary s) P k → ⊥
sound_plan s P p k bad =
    ⊎_elim
    (λ (x : (k < length P) × (between 1 (rate_count Ordinary s) (get_or P k 0) ≡ false)).
    true≢false (sym (true_between 1 (rate_count Ordinary s) (get_or P k 0) (p.above k (omega (arith, x.0, p.size))) (p.below k (omega (arith, x.0, p.size)))) ∙ x.1))
    (⊎_elim
    (λ (x : (k ≡ length P) × (length P < task_count Ordinary s)). omega (arith, x.1, p.size))
    (λ (x : (k ≡ task_count Ordinary s) × (task_count Ordinary s < length P)). omega (arith, x.1, p.size)))
    bad.here

-- The walk's checks have 2, 3 and 4 among them.
pub walk-set : (s P : List ℕ) → Accepts (walk_checks s P) → IsSet Ordinary s
walk-set s P a = set_of Ordinary s (passed 2 (walk_checks s P) refl a) (passed 3 (walk_checks s P) refl a) (passed 4 (walk_checks s P) refl a)

-- Whatever meets the walk's definition keeps what the walk owes.
pub walk_owes : (s P : List ℕ) (a : WalkAnswer) → WalkAnswers s P a → WalkOwes s P a
walk_owes s P (Ok (Kept b i p)) h =
    let set = walk-set s P h.0 in
    let o = outcome_kept (walk_of s P) b i p h.1 in
    record {
      stretch = kept_misses-none (walk_tasks Ordinary s P) (last_tick Ordinary s) (rw o tt);
      counted = busy_and-idle (walk_tasks Ordinary s P) (last_tick Ordinary s) b i p o;
      together = λ zero. (
        record { plan = plan_of s P (passed 8 (walk_checks s P) refl h.0); for_ever = (walk_decides s set P zero).0 (rw o tt) },
        walk_busy s set P zero b i p o,
      );
    }
walk_owes s P (Ok (Missed t k)) h =
    let set = walk-set s P h.0 in
    let o = outcome_missed (walk_of s P) t k h.1 in
    record {
      from_these = λ keeps. subst IsKept o (keeps_kept (walk_tasks Ordinary s P) (last_tick Ordinary s) keeps);
      from_0 = λ keeps. subst IsKept o (walk_kept s set P ((keeps_iff_load Ordinary s set P).0 keeps));
    }
walk_owes s P (Err r) h = tt
