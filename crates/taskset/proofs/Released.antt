-- Where first releases matter and where they do not: a load of at most L keeps every deadline for ever whatever they are,
-- and a higher one does not, whatever they are; and with every one 0 the walk's tasks are those of the endless walk, to L.
-- Assumes nothing.
use Prim.Native.Nat.{ℕ, zero, suc, ◌*◌, ◌≤◌, ◌<◌}
use mathlib.Core.Path.{◌≡◌, refl, sym, ◌∙◌}
use mathlib.Core.Bool.{true, false}
use mathlib.Core.List.{List}
use mathlib.Core.Logic.{⊎_elim}
use native.Mathlib.Nat.{mod-eq-zero_of_dvd}
use native.Mathlib.Omega.{arith}
use lib.Dec.{eqb}
use lib.ListN.{get_or}
use borrow.Author.Tests.{eqb-true}
use Rattle.numbers.specs.Numbers.{All}
use Rattle.numbers.proofs.Tests.{bool_cases, and-true, below_more}
use Rattle.numbers.proofs.Sums.{sum, total-over}
use Rattle.schedule.specs.Walk.{KeepsForEver, periodic, offset}
use Rattle.schedule.proofs.Demand.{Shares, load, all_sporadic}
use Rattle.schedule.proofs.Capacity.{fits_keeps}
use Rattle.schedule.proofs.ByPlace.{all-tasks, same_tasks, sum_places}
use Rattle.schedule.proofs.Offset.{offset_shares, offset-none}
use Rattle.schedule.proofs.Overload.{Pays, offset_pays, keeps_pays}
use Rattle.selection.specs.Plan.{plan_load}
use Rattle.layout.specs.Words.{task_count, period, first}
use Rattle.layout.specs.declared.Layout.{Layout}
use Rattle.taskset.specs.Quantities.{hyper_limit, all_zero, job_time, hyper_period, task_load, problem_of, endless_tasks}
use Rattle.taskset.specs.Quantities.{tasks_with, walk_tasks, last_tick}
use Rattle.taskset.specs.Sets.{IsSet}

-- ---- all are 0
pub all-zero : (f : ℕ → ℕ) (n : ℕ) → ((t : ℕ) → t < n → f t ≡ 0) → all_zero f n ≡ true
all-zero f zero h = refl
all-zero f (suc n) h = rw (all-zero f n (λ t l. h t (omega arith)), h n (omega arith)) refl

pub zero-each : (f : ℕ → ℕ) (n : ℕ) → all_zero f n ≡ true → (t : ℕ) → t < n → f t ≡ 0
zero-each f zero e = λ t l. absurd (omega arith)
zero-each f (suc n) e = let o = and-true (all_zero f n) (eqb (f n) 0) e in below_more (zero-each f n o.0) (eqb-true (f n) 0 o.1)

pub some_above : (f : ℕ → ℕ) (n t : ℕ) → t < n → (f t ≡ 0 → ⊥) → all_zero f n ≡ false
some_above f n t l some =
    ⊎_elim (λ e. absurd (some (zero-each f n e t l))) (λ e. e) (bool_cases (all_zero f n))

pub zeros_alike : (f g : ℕ → ℕ) (n : ℕ) → ((t : ℕ) → t < n → f t ≡ g t) → all_zero f n ≡ all_zero g n
zeros_alike f g zero h = refl
zeros_alike f g (suc n) h = rw (zeros_alike f g n (λ t l. h t (omega arith)), h n (omega arith)) refl

module _ (layout : Layout) (s : List ℕ) where
  abbrev L : ℕ
  L = hyper_period layout s

  -- ---- whatever the first releases
  module _ (set : IsSet layout s) (a : ℕ → ℕ) (P : List ℕ) where
    shares : All (Shares L) (tasks_with layout s a P)
    shares =
        all-tasks (Shares L) _ 0 (task_count layout s)
        (λ t b c. offset_shares (a t) (period layout s t) _ L
        (set.whole.period_range t (omega arith)).0 (mod-eq-zero_of_dvd (period layout s t) (set.divides t (omega arith))))

    load_is : sum (load L) (tasks_with layout s a P) ≡ plan_load (problem_of layout s) P
    load_is =
        sum_places (load L) _ 0 (task_count layout s) ∙ sym (total-over (task_load layout s) (task_count layout s) P)

    pub load_keeps : plan_load (problem_of layout s) P ≤ L → KeepsForEver (tasks_with layout s a P)
    load_keeps fits = fits_keeps L (tasks_with layout s a P) set.hyper_range.0 shares (omega (arith, load_is))

    -- And back: A is at least every one of them.
    pub keeps_load : (A : ℕ) → ((t : ℕ) → t < task_count layout s → a t ≤ A) → KeepsForEver (tasks_with layout s a P)
        → plan_load (problem_of layout s) P ≤ L
    keeps_load A most keeps =
        let pay : All (Pays L A) (tasks_with layout s a P)
        = all-tasks (Pays L A) _ 0 (task_count layout s)
        (λ t b c. offset_pays L (a t) (period layout s t) _ (set.whole.period_range t (omega arith)).0
        (mod-eq-zero_of_dvd (period layout s t) (set.divides t (omega arith))) A (most t (omega arith))) in
        omega (arith, load_is, keeps_pays L A (tasks_with layout s a P) (all_sporadic L (tasks_with layout s a P) shares) pay keeps)

  -- ---- the last tick
  pub last_most : last_tick layout s ≤ 2 * L
  last_most =
      ⊎_elim (λ e. rw e (omega arith)) (λ e. rw e (omega arith)) (bool_cases (all_zero (first layout s) (task_count layout s)))

  pub last_fits : IsSet layout s → last_tick layout s ≤ 2 * hyper_limit
  last_fits set = omega (arith, last_most, set.hyper_range.1)

  -- ---- every one 0
  module _ (zero : all_zero (first layout s) (task_count layout s) ≡ true) where
    pub together_last : last_tick layout s ≡ L
    together_last = rw zero refl

    pub together_tasks : (P : List ℕ) → walk_tasks layout s P ≡ endless_tasks layout s P
    together_tasks P =
        same_tasks (λ t. offset (first layout s t) (period layout s t) (job_time layout s t (get_or P t 0)))
        (λ t. periodic (period layout s t) (job_time layout s t (get_or P t 0))) 0 (task_count layout s)
        (λ t b c. rw (zero-each (first layout s) (task_count layout s) zero t (omega arith))
        (offset-none (period layout s t) (job_time layout s t (get_or P t 0))))
