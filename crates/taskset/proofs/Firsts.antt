-- The planner looks at no first release (document 02, note 6), nor does the dull engine: two lists that differ in first
-- releases alone, and both pass check 2, agree in every word and number that their definitions read; so each gives the
-- same for both.
-- Assumes nothing.
use Prim.Native.Nat.{ℕ, suc, ◌+◌, ◌-◌, ◌*◌, ◌/◌, ◌^◌, ◌≤◌, ◌<◌}
use mathlib.Core.Path.{◌≡◌, refl, sym, ap, ap₂, subst, ◌∙◌}
use mathlib.Core.List.{List}
use native.Mathlib.Omega.{arith}
use lib.ListN.{length, get_or, set, length-set}
use lib.Seq.{get_or-set_other}
use Rattle.numbers.specs.Numbers.{running, total}
use Rattle.numbers.proofs.Search.{lowest_same}
use Rattle.numbers.proofs.Sums.{total_same}
use Rattle.numbers.proofs.Multiples.{running_same}
use Rattle.selection.specs.Plan.{IsPlan, Fitting, work_words, most_plans}
use Rattle.selection.specs.Same.{Same}
use Rattle.selection.proofs.Same.{load_same, fitting_same}
use Rattle.layout.specs.Words.{extra_size, head_size, word, slack, slack_place, idle, idle_place, rate_count, task_count}
use Rattle.layout.specs.Words.{rate_place, task_count_place, task_size, period_place, energy_place, period, cycles, energy}
use Rattle.layout.specs.Words.{first_place, task_kind, kind_at}
use Rattle.layout.specs.declared.Kind.TheVariants.{First}
use Rattle.layout.specs.declared.Layout.{Layout}
use Rattle.layout.specs.declared.Layout.TheVariants.{Ordinary}
use Rattle.layout.proofs.Layouts.{slack_in_head, slack_kind, idle_in_head, idle_kind, first_in_extra, first_kind}
use Rattle.layout.proofs.Places.{kind_head, kind_rates, kind_rate, kind_tasks, kind_task, kind_period, kind_cycles, kind_extra, kind_energy}
use Rattle.layout.proofs.Whole.{whole_of}
use Rattle.taskset.specs.Quantities.{job_ticks, job_time, job_energy, hyper_period, task_energy, problem_of}
use Rattle.taskset.specs.Quantities.{reported_energy, work_needed}
use Rattle.taskset.specs.Refusals.{RateFault, IsNotAbove, EnergyFault, IsBelowIdle, PassesLimit, IsTooLong}
use Rattle.taskset.specs.Refusals.{IsTooMany, IsShort, NoneOk, Passes, check, word_check}
use Rattle.taskset.specs.Refusals.{engine_check, planner_checks}
use Rattle.taskset.specs.Planning.{planning, layout_of, work_of}
use Rattle.taskset.specs.Calls.{DifferInFirsts, PlannerGives}
use Rattle.taskset.specs.declared.Engine.{Engine}
use Rattle.taskset.specs.declared.Engine.TheVariants.{Table, Exhaustive}
use Rattle.taskset.proofs.Sets.{job_time_at, job_energy_at}
use Rattle.taskset.proofs.Checks.{no_word_fault, Agree, AllAgree, ◌then◌, no_more}
use Rattle.taskset.proofs.SamePlanning.{SamePlanning, plan_same, work-after_same}
use Rattle.taskset.specs.Answers.{PlannerAnswer}

-- ---- the words that the planner reads
-- Two lists agree in every word but the first releases, named by what they stand for.
pub record Alike (layout : Layout) (s s' : List ℕ) : Type 0 where
  pub slacks : slack s ≡ slack s'
  pub idles : idle s ≡ idle s'
  pub rate_counts : rate_count layout s ≡ rate_count layout s'
  pub task_counts : task_count layout s ≡ task_count layout s'
  pub rates : (q : ℕ) → head_size layout < q → q ≤ rate_place layout (rate_count layout s) → word s q ≡ word s' q
  pub periods : (t : ℕ) → t < task_count layout s → period layout s t ≡ period layout s' t
  pub cycle_counts : (t : ℕ) → t < task_count layout s → cycles layout s t ≡ cycles layout s' t
  pub energies : (t r : ℕ) → t < task_count layout s → 1 ≤ r → r ≤ rate_count layout s
      → energy layout s t r ≡ energy layout s' t r

-- It does not matter which of the two comes first, so that what follows is shown one way only.
pub alike_sym : {layout : Layout} {s s' : List ℕ} → Alike layout s s' → Alike layout s' s
alike_sym {layout} {s} {s'} a = record {
  slacks = sym a.slacks;
  idles = sym a.idles;
  rate_counts = sym a.rate_counts;
  task_counts = sym a.task_counts;
  rates = λ q l h. sym (a.rates q l (omega (arith, a.rate_counts)));
  periods = λ t l. sym (a.periods t (omega (arith, a.task_counts)));
  cycle_counts = λ t l. sym (a.cycle_counts t (omega (arith, a.task_counts)));
  energies = λ t r l b h. sym (a.energies t r (omega (arith, a.task_counts)) b (omega (arith, a.rate_counts)));
}

-- Lists that differ in first releases alone are alike: no other word is of that kind.
module _ (layout : Layout) (s s' : List ℕ) (d : DifferInFirsts layout s s') where
  -- Two kinds that would be one.
  clash : ◌≡◌ {A = ℕ} 0 1 → ⊥
  clash z = omega arith

  counts_same : rate_count layout s ≡ rate_count layout s'
  counts_same = d.same (head_size layout) (λ f. clash (cc (kind_rates layout s (head_size layout) refl)))

  -- Word k of the task at t, of a kind that is no first release.
  task-word : (t k : ℕ) → t < task_count layout s → k < task_size layout (rate_count layout s)
      → (task_kind layout k ≡ First → ⊥)
      → word s (period_place layout (rate_count layout s) t + k) ≡ word s' (period_place layout (rate_count layout s') t + k)
  task-word t k l h other =
      d.same (period_place layout (rate_count layout s) t + k) (λ f. other (sym (kind_task layout s t k l h) ∙ f)) ∙
      ap (λ (m : ℕ). word s' (period_place layout m t + k)) counts_same

  pub alike_of : Alike layout s s'
  alike_of = record {
    slacks = d.same slack_place (λ f. clash (cc (kind_head layout s slack_place (slack_in_head layout), slack_kind layout)));
    idles = d.same idle_place (λ f. clash (cc (kind_head layout s idle_place (idle_in_head layout), idle_kind layout)));
    rate_counts = counts_same;
    task_counts =
        d.same (task_count_place layout (rate_count layout s)) (λ f. clash (cc (kind_tasks layout s _ refl))) ∙
        ap (λ (m : ℕ). word s' (task_count_place layout m)) counts_same;
    rates = λ q l h. d.same q (λ f. clash (cc (kind_rate layout s q l (omega arith))));
    periods = λ t l.
        let at : (m : ℕ) → period_place layout m t + 0 ≡ period_place layout m t = λ m. omega arith in
        sym (ap (word s) (at (rate_count layout s))) ∙ task-word t 0 l (omega arith) (λ f. clash (cc (kind_period layout))) ∙
        ap (word s') (at (rate_count layout s'));
    cycle_counts = λ t l. task-word t 1 l (omega arith) (λ f. clash (cc (kind_cycles layout)));
    energies = λ t r l b h. task-word t (1 + extra_size layout + r) l (omega arith) (λ f. clash (cc (kind_energy layout r b)));
  }

-- Any first release may be changed, to any word: the two lists differ in first releases alone.
pub changed_first : (layout : Layout) (s : List ℕ) (t v : ℕ) → t < task_count layout s
    → DifferInFirsts layout s (set s (first_place layout (rate_count layout s) t) v)
changed_first layout s t v l =
    let kind = kind_task layout s t 2 l (omega (arith, first_in_extra layout)) in
    let is : task_kind layout 2 ≡ First = kind_extra layout 0 (first_in_extra layout) ∙ first_kind layout in
    record {
      size = sym (length-set s _ v);
      same = λ q other. sym (get_or-set_other s _ q v 0 (λ here. other (ap (kind_at layout s) here ∙ kind ∙ is)));
    }

-- ---- what they come to
module _ (layout : Layout) (s s' : List ℕ) (a : Alike layout s s') where
  job_time_same : (t r : ℕ) → t < task_count layout s → 1 ≤ r → r ≤ rate_count layout s
      → job_time layout s t r ≡ job_time layout s' t r
  job_time_same t r l b h =
      job_time_at layout s t r b ∙
      ap₂ job_ticks (a.cycle_counts t l) (a.rates (rate_place layout r) (omega arith) (omega arith)) ∙ sym (job_time_at layout s' t r b)

  job_energy_same : (t r : ℕ) → t < task_count layout s → 1 ≤ r → r ≤ rate_count layout s
      → job_energy layout s t r ≡ job_energy layout s' t r
  job_energy_same t r l b h = job_energy_at layout s t r b ∙ a.energies t r l b h ∙ sym (job_energy_at layout s' t r b)

  -- What idle ticks draw in a job's time.
  drawn_same : (t r : ℕ) → t < task_count layout s → 1 ≤ r → r ≤ rate_count layout s
      → idle s * job_time layout s t r ≡ idle s' * job_time layout s' t r
  drawn_same t r l b h = ap₂ ◌*◌ a.idles (job_time_same t r l b h)

  running-alike : (n : ℕ) → n ≤ task_count layout s → running (period layout s) n ≡ running (period layout s') n
  running-alike n h = running_same (period layout s) (period layout s') n (λ t l. a.periods t (omega arith))

  hyper_same : hyper_period layout s ≡ hyper_period layout s'
  hyper_same = running-alike (task_count layout s) (omega arith) ∙ ap (running (period layout s')) a.task_counts

  jobs_same : (t : ℕ) → t < task_count layout s
      → hyper_period layout s / period layout s t ≡ hyper_period layout s' / period layout s' t
  jobs_same t l = ap₂ ◌/◌ hyper_same (a.periods t l)

  -- In every number that a plan can meet: of rate numbers from 1 on.
  problem_same : Same (problem_of layout s) (problem_of layout s')
  problem_same = record {
    count = a.task_counts;
    rates = a.rate_counts;
    limit = hyper_same;
    loads = λ t r l b h. ap₂ ◌*◌ (jobs_same t l) (job_time_same t r l b h);
    energies = λ t r l b h. ap₂ ◌*◌ (jobs_same t l) (ap₂ ◌-◌ (job_energy_same t r l b h) (drawn_same t r l b h));
  }

  work_same : work_needed layout s ≡ work_needed layout s'
  work_same = ap₂ work_words a.task_counts a.slacks

  reported_same : (P : List ℕ) → IsPlan (problem_of layout s) P → reported_energy layout s P ≡ reported_energy layout s' P
  reported_same P p =
      ap₂ ◌+◌
      (total_same (task_energy layout s) (task_energy layout s') (task_count layout s) P P
      (λ t l. ap₂ ◌*◌ (jobs_same t l) (job_energy_same t (get_or P t 0) l (p.above t l) (p.below t l))) ∙
      ap (λ (n : ℕ). total (task_energy layout s') n P) a.task_counts)
      (ap₂ ◌*◌ a.idles (ap₂ ◌-◌ hyper_same (load_same (problem_of layout s) (problem_of layout s') problem_same P p)))

  -- ---- the faults
  rate_fault : (q : ℕ) → RateFault layout s q → RateFault layout s' q
  rate_fault q f =
      let here = a.rates q (omega (arith, f.0)) f.1 in
      let before = a.rates (q - 1) (omega (arith, f.0)) (omega (arith, f.1)) in
      (f.0, omega (arith, f.1, a.rate_counts), omega (arith, f.2))

  energy_fault : (q : ℕ) → EnergyFault layout s q → EnergyFault layout s' q
  energy_fault q f = record {
    task = f.task;
    is_task = omega (arith, f.is_task, a.task_counts);
    rate = f.rate;
    from_1 = f.from_1;
    to_m = omega (arith, f.to_m, a.rate_counts);
    place = f.place ∙ ap (λ (m : ℕ). energy_place layout m f.task f.rate) a.rate_counts;
    below =
        omega (
          arith,
          f.below,
          a.energies f.task f.rate f.is_task f.from_1 f.to_m,
          drawn_same f.task f.rate f.is_task f.from_1 f.to_m,
        );
  }

  passes_limit : (t : ℕ) → PassesLimit layout s t → PassesLimit layout s' t
  passes_limit t f = (omega (arith, f.0, a.task_counts), omega (arith, f.1, running-alike (suc t) f.0))

-- ---- the checks
-- Each cause, from the one list to the other.
module _ (layout : Layout) (s s' : List ℕ) (a : Alike layout s s') where
  not_above : (q : ℕ) → IsNotAbove layout s q → IsNotAbove layout s' q
  not_above = lowest_same (rate_fault layout s s' a) (rate_fault layout s' s (alike_sym a))

  below_idle : (q : ℕ) → IsBelowIdle layout s q → IsBelowIdle layout s' q
  below_idle = lowest_same (energy_fault layout s s' a) (energy_fault layout s' s (alike_sym a))

  too_long : (q : ℕ) → IsTooLong layout s q → IsTooLong layout s' q
  too_long q h = (
    h.0,
    lowest_same (passes_limit layout s s' a) (passes_limit layout s' s (alike_sym a)) h.0 h.1,
    h.2 ∙ ap (λ (m : ℕ). period_place layout m h.0) a.rate_counts,
  )

  work_short : (lent k : ℕ) → IsShort (work_needed layout s) lent k → IsShort (work_needed layout s') lent k
  work_short lent k h = subst (λ (n : ℕ). IsShort n lent k) (work_same layout s s' a) h

  too_many : (k : ℕ) → IsTooMany layout s k → IsTooMany layout s' k
  too_many k h = (h.0, subst (λ (n : ℕ). most_plans < n) (ap₂ ◌^◌ a.rate_counts a.task_counts) h.1)

  plan_short : (lent k : ℕ) → IsShort (task_count layout s) lent k → IsShort (task_count layout s') lent k
  plan_short lent k h = subst (λ (n : ℕ). IsShort n lent k) a.task_counts h

  none_fits : (k : ℕ) → NoneOk (Fitting (problem_of layout s)) k → NoneOk (Fitting (problem_of layout s')) k
  none_fits k h = (
    h.0,
    λ P f. h.1 P (fitting_same (problem_of layout s') (problem_of layout s)
        (problem_same layout s' s (alike_sym a)) P f),
  )

-- Where a cause goes over from either list to the other, the checks agree.
agreeing : (layout : Layout) (n : ℕ) (cause : List ℕ → ℕ → Type 0)
    → ((s s' : List ℕ) → Alike layout s s' → (k : ℕ) → cause s k → cause s' k)
    → (s s' : List ℕ) → Alike layout s s' → Agree (check n (cause s)) (check n (cause s'))
agreeing layout n cause over s s' a = (refl, λ k. (over s s' a k, over s' s (alike_sym a) k))

-- Of the check that an engine makes of its own.
engine_agree : (e : Engine) (s s' : List ℕ) → Alike (layout_of e) s s' → (workLength : ℕ)
    → Agree (engine_check e s workLength) (engine_check e s' workLength)
engine_agree (Table layout) s s' a wl =
    agreeing layout 5 (λ s. IsShort (work_needed layout s) wl) (λ s s' a. work_short layout s s' a wl) s s' a
engine_agree Exhaustive s s' a wl = agreeing Ordinary 11 (IsTooMany Ordinary) (too_many Ordinary) s s' a

work_of_same : (e : Engine) (s s' : List ℕ) → Alike (layout_of e) s s' → work_of e s ≡ work_of e s'
work_of_same (Table layout) s s' a = work_same layout s s' a
work_of_same Exhaustive s s' a = refl

module _ (e : Engine) (s s' : List ℕ) (a : Alike (layout_of e) s s')
    (pass : Passes (word_check (layout_of e) s)) (pass' : Passes (word_check (layout_of e) s')) where
  abbrev layout : Layout
  layout = layout_of e

  words_agree : Agree (word_check layout s) (word_check layout s')
  words_agree = (refl, λ k. ((λ h. absurd (pass k h)), (λ h. absurd (pass' k h))))

  checks_agree : (planLength workLength : ℕ)
      → AllAgree (planner_checks e s planLength workLength) (planner_checks e s' planLength workLength)
  checks_agree pl wl =
      words_agree then
      agreeing layout 3 (IsNotAbove layout) (not_above layout) s s' a then
      agreeing layout 10 (IsBelowIdle layout) (below_idle layout) s s' a then
      agreeing layout 4 (IsTooLong layout) (too_long layout) s s' a then
      engine_agree e s s' a wl then
      agreeing layout 6 (λ s. IsShort (task_count layout s) pl) (λ s s' a. plan_short layout s s' a pl) s s' a then
      agreeing layout 7 (λ s. NoneOk (Fitting (problem_of layout s))) (none_fits layout) s s' a then
      no_more

  plannings_same : SamePlanning (planning layout s) (planning layout s')
  plannings_same =
      let counted = (whole_of layout s (no_word_fault layout s pass)).rates_range in
      record {
        problems = problem_same layout s s' a;
        some_rate = omega arith;
        slacks = a.slacks;
        hypers = hyper_same layout s s' a;
        energies = λ P f. reported_same layout s s' a P f.plan;
      }

  -- So each engine gives for the one list what it gives for the other.
  pub gives_same : (plan work plan' work' : List ℕ) (x : PlannerAnswer)
      → PlannerGives e s plan work plan' work' x → PlannerGives e s' plan work plan' work' x
  gives_same plan work plan' work' x g = (
    plan_same plannings_same (checks_agree (length plan) (length work)) plan plan' x g.0,
    work-after_same (work_of_same e s s' a) work work' x g.1,
  )
