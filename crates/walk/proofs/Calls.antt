-- From the functions below it to the call: what the checks give is what the loop asks for, and what the loop says is
-- the call's answer.
-- Assumes nothing.
use Rattle.std.specs.Prelude.{Ok, Err}
use Prim.Native.Nat.{ℕ, ◌*◌, ◌≤◌, ◌<◌}
use mathlib.Core.Path.{◌≡◌, refl, sym, ap, ◌∙◌}
use mathlib.Core.Bool.{Bool, cond}
use mathlib.Core.List.{List}
use native.Mathlib.Omega.{arith}
use lib.ListN.{length, get_or, take}
use lib.Seq.{length-take-le}
use Rattle.std.proofs.lemmas.List.{get_or-take}
use Rattle.schedule.specs.Walk.{Task, offset, tasks_from}
use Rattle.schedule.specs.Counted.{walk}
use Rattle.schedule.proofs.ByPlace.{same_tasks}
use Rattle.selection.specs.Plan.{IsPlan}
use Rattle.layout.specs.Words.{task_count, period, first}
use Rattle.layout.specs.declared.Layout.TheVariants.{Ordinary}
use Rattle.taskset.specs.Quantities.{hyper_limit, all_zero, job_time, problem_of, walk_tasks, last_tick}
use Rattle.taskset.specs.Refusals.{number, second, IsBadPlan, Check, ◌▹◌, word_checks, hyper_check, plan_check, walk_checks}
use Rattle.taskset.specs.Calls.{SetAfter, outcome_values, walk_of, WalkAnswers}
use Rattle.taskset.specs.declared.Refusal.{Refusal}
use Rattle.taskset.specs.declared.Refusal.TheVariants.{BadPlan}
use Rattle.taskset.proofs.Checks.{accepts_next, refuses_next, refuses_before, passed}
use Rattle.layout.proofs.Whole.{first_in}
use Rattle.taskset.specs.Sets.{IsSet}
use Rattle.taskset.proofs.Sets.{job_time_positive}
use Rattle.taskset.proofs.Released.{zeros_alike, last_fits}
use Rattle.taskset.proofs.DemandThree.{plan_of, walk-set, walk_owes}
use Rattle.ticks.specs.Arrays.{timing_at, RunReady, task_at, Says}
use Rattle.ticks.specs.declared.Timing.{Timing}
use Rattle.walk.specs.Answers.{Walked}
use Rattle.walk.specs.Steps.{SetGiven, SoundPlan, timing_of, Holds}
use Rattle.taskset.specs.Answers.{WalkAnswer, ok_measured}
use Rattle.taskset.specs.declared.WalkEnd.{WalkEnd}
use Rattle.taskset.specs.declared.WalkEnd.TheVariants.{Kept, Missed}

pub walked : (s P : List ℕ) (a : WalkAnswer) → WalkAnswers s P a → Walked s P a
walked s P a h = record { answers = h; owes = walk_owes s P a h }

-- A refusal of the checks is the walk's.
pub refused : (s P : List ℕ) (r : Refusal) → SetAfter (walk_checks s P) Ordinary s (Err r) → Walked s P (Err r)
refused s P r h = walked s P (Err r) h

module _ (s P : List ℕ) where
  abbrev before : List Check
  before = word_checks Ordinary s ▹ hyper_check Ordinary s

  -- A refusal of the set is the checks'.
  pub set_refused : (r : Refusal) → SetAfter before Ordinary s (Err r) → SetAfter (walk_checks s P) Ordinary s (Err r)
  set_refused r h = refuses_before before (plan_check Ordinary s P) (number r) (second r) h

  -- Check 8 by the counts that the checks gave.
  module _ (m n l : ℕ) (good : SetAfter before Ordinary s (ok_measured m n l)) where
    pub plan_refused : (k : ℕ) → IsBadPlan m n P k → SetAfter (walk_checks s P) Ordinary s (Err (BadPlan k))
    plan_refused k h = refuses_next before (plan_check Ordinary s P) k good.0 (rw (good.1, good.2) at h)

    pub plan_sound : ((k : ℕ) → IsBadPlan m n P k → ⊥) → SetAfter (walk_checks s P) Ordinary s (ok_measured m n l)
    plan_sound pass = (accepts_next before (plan_check Ordinary s P) good.0 (λ k h. pass k (rw (good.1, good.2) h)), good.1, good.2, good.3)

-- A set and a plan that have passed the checks.
module _ (s P : List ℕ) (m n l : ℕ) (ready : SetAfter (walk_checks s P) Ordinary s (ok_measured m n l)) where
  set : IsSet Ordinary s
  set = walk-set s P ready.0

  pub set_given : SetGiven m n s
  set_given = record { set = set; rates = ready.1; tasks = ready.2; few = omega (arith, ready.2, set.whole.tasks_range.1) }

  pub hyper_fits : l ≤ hyper_limit
  hyper_fits = omega (arith, ready.3, set.hyper_range.1)

  plan : IsPlan (problem_of Ordinary s) P
  plan = plan_of s P (passed 8 (walk_checks s P) refl ready.0)

  pub sound_plan : SoundPlan m n P
  sound_plan = record {
    size = plan.size ∙ sym ready.2;
    above = λ t h. plan.above t (omega (arith, ready.2));
    below = λ t h. omega (arith, ready.1, plan.below t (omega (arith, ready.2)));
  }

  -- The timings of the array's front, and the last tick by their first releases.
  module _ (r : List Timing) (holds : Holds s P n r) where
    abbrev given : List Timing
    given = take n r

    pub given_size : length given ≡ n
    given_size = length-take-le n r (omega (arith, holds.size, set_given.few))

    stands : (t : ℕ) → t < n → timing_at given t ≡ timing_of s P t
    stands t h = get_or-take n r t (record { period = 0; time = 0; first = 0 }) h ∙ holds.at t h

    module _ (end : ℕ) (last : end ≡ cond (all_zero (λ t. (timing_at given t).first) (length given)) l (2 * l)) where
      last_is : end ≡ last_tick Ordinary s
      last_is =
          rw given_size at last ∙ ap (λ (b : Bool). cond b l (2 * l))
          (zeros_alike (λ t. (timing_at given t).first) (first Ordinary s) n (λ t h. ap (λ (x : Timing). x.first) (stands t h)) ∙
          ap (all_zero (first Ordinary s)) ready.2) ∙
          ap (λ (x : ℕ). cond (all_zero (first Ordinary s) (task_count Ordinary s)) x (2 * x)) ready.3

      pub run_ready : RunReady given end
      run_ready = record {
        few = omega (arith, given_size, set_given.few);
        period = λ i h. let here : i < n = omega (arith, given_size) in
            rw (stands i here) (set.whole.period_range i (omega (arith, ready.2)));
        time = λ i h. let here : i < n = omega (arith, given_size) in
            rw (stands i here)
            (job_time_positive Ordinary s set i (get_or P i 0) (omega (arith, ready.2))
            (plan.above i (omega (arith, ready.2))) (plan.below i (omega (arith, ready.2))));
        first = λ i h. let here : i < n = omega (arith, given_size) in
            rw (stands i here)
            (omega (
              arith,
              first_in Ordinary s set.whole i (omega (arith, ready.2)),
              (set.whole.period_range i (omega (arith, ready.2))).1,
            ));
        ends = omega (arith, last_is, last_fits Ordinary s set);
      }

      walk_is : walk (tasks_from (task_at given) 0 (length given)) end ≡ walk_of s P
      walk_is =
          let place : ℕ → Task = λ t. offset (first Ordinary s t) (period Ordinary s t) (job_time Ordinary s t (get_or P t 0)) in
          let same = same_tasks (task_at given) place 0 n (λ j b d. rw (stands j (omega arith)) refl) in
          ap (λ (m : ℕ). walk (tasks_from (task_at given) 0 m) end) given_size ∙
          ap (λ (ks : List Task). walk ks end) (same ∙ ap (tasks_from place 0) ready.2) ∙ ap (walk (walk_tasks Ordinary s P)) last_is

      says_answers : (x : WalkEnd) → Says given end x → WalkAnswers s P (Ok x)
      says_answers (Kept b i q) h = (ready.0, sym (ap outcome_values (sym walk_is ∙ h)))
      says_answers (Missed t k) h = (ready.0, sym (ap outcome_values (sym walk_is ∙ h)))

      pub says_walked : (x : WalkEnd) → Says given end x → Walked s P (Ok x)
      says_walked x h = walked s P (Ok x) (says_answers x h)
