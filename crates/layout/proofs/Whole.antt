-- A list without a fault has just the words that it must have, each in its range; and a list of which that holds has no
-- fault.
-- Assumes nothing.
use Prim.Native.Nat.{ℕ, ◌+◌, ◌-◌, ◌/◌, ◌%◌, ◌≤◌, ◌<◌}
use mathlib.Core.Path.{◌≡◌, refl, sym, subst, ◌∙◌}
use mathlib.Core.Bool.{true, false, true≢false}
use mathlib.Core.List.{List}
use mathlib.Core.Logic.{inl, inr, ⊎_elim, ◌↔◌}
use native.Mathlib.Nat.{div-add-mod', div-lt_iff_lt-mul, mod-lt}
use native.Mathlib.Omega.{arith}
use lib.ListN.{length}
use borrow.Author.Tests.{ltb-true}
use Rattle.numbers.proofs.Tests.{bool_cases, lt_or_le, between_true, true_between}
use Rattle.layout.specs.Words.{head_size, extra_kinds, extra_size, most_rates, most_tasks, most_idle, longest_period}
use Rattle.layout.specs.Words.{slack, slack_place, idle, idle_place, rate_count, task_count, rate_place}
use Rattle.layout.specs.Words.{task_count_place, tasks_place, period_place, cycles_place, energy_place, task_size}
use Rattle.layout.specs.Words.{word_count, rate, period, cycles, first, first_place, energy, kind_in, head_kind, task_kind, kind_at}
use Rattle.layout.specs.Words.{longest_job, most_energy, allows, WordFault}
use Rattle.layout.specs.Whole.{IsWhole}
use Rattle.layout.specs.declared.Layout.{Layout}
use Rattle.layout.specs.declared.Kind.{Kind}
use Rattle.layout.specs.declared.Kind.TheVariants.{RateCount, Rate, TaskCount, Period, Cycles, First, Energy, LeftOver}
use Rattle.layout.proofs.Layouts.{slack_in_head, slack_kind, idle_in_head, idle_kind, first_in_extra, first_kind}
use Rattle.layout.proofs.Places.{before-end, kind_head, kind_rates, kind_rate, kind_tasks, kind_past, kind_task, kind_period, kind_cycles, kind_extra, kind_energy}

module _ (layout : Layout) (s : List ℕ) where
  -- The word at place q, of kind k, is in its range; the place and the kind may be written otherwise.
  in_range : {q r : ℕ} {k x : Kind} → q ≡ r → k ≡ x → allows s q k ≡ true → allows s r x ≡ true
  in_range {q} {r} {k} {x} e f h = subst (λ (y : Kind). allows s r y ≡ true) f (subst (λ (p : ℕ). allows s p k ≡ true) e h)

  -- ---- every word of the list is in its range and wanted
  module _ (judged : (q : ℕ) → q < length s → allows s q (kind_at layout s q) ≡ true) where
    allowed : (q : ℕ) (k : Kind) → q < length s → kind_at layout s q ≡ k → allows s q k ≡ true
    allowed q k h e = in_range refl e (judged q h)

    pub rates_in_lem : head_size layout < length s → (2 ≤ rate_count layout s) × (rate_count layout s ≤ most_rates)
    unfolding allows
    rates_in_lem h = between_true _ _ _ (allowed (head_size layout) RateCount h (kind_rates layout s (head_size layout) refl))

    pub tasks_in : task_count_place layout (rate_count layout s) < length s → (1 ≤ task_count layout s) × (task_count layout s ≤ most_tasks)
    unfolding allows
    tasks_in h = between_true _ _ _ (allowed (task_count_place layout (rate_count layout s)) TaskCount h (kind_tasks layout s _ refl))

    -- and none is missing
    module _ (enough : word_count layout s ≤ length s) where
      none_left : word_count layout s < length s → ⊥
      unfolding allows
      none_left h = true≢false (sym (allowed (word_count layout s) LeftOver h (kind_past layout s _ (omega arith) (omega arith))))

      exact : length s ≡ word_count layout s
      exact =
          ⊎_elim (λ (h : word_count layout s < length s). absurd (none_left h)) (λ (h : length s ≤ word_count layout s). omega arith)
          (lt_or_le (word_count layout s) (length s))

      rate_in : (r : ℕ) → 1 ≤ r → r ≤ rate_count layout s → (1 ≤ rate layout s r) × (rate layout s r ≤ 1000000)
      unfolding allows
      rate_in r a b = between_true _ _ _ (allowed (rate_place layout r) Rate (omega arith) (kind_rate layout s _ (omega arith) (omega arith)))

      -- Word k of the task at t, of kind x, at the place q that names it.
      word_in : (t k : ℕ) → t < task_count layout s → k < task_size layout (rate_count layout s)
          → (q : ℕ) (x : Kind) → period_place layout (rate_count layout s) t + k ≡ q → task_kind layout k ≡ x → allows s q x ≡ true
      word_in t k h i q x e f =
          in_range e f
          (allowed _ (task_kind layout k) (omega (arith, before-end (task_count layout s) (task_size layout (rate_count layout s)) t k h i)) (kind_task layout s t k h i))

      period_in : (t : ℕ) → t < task_count layout s → (1 ≤ period layout s t) × (period layout s t ≤ longest_period)
      unfolding allows
      period_in t h = between_true _ _ _ (word_in t 0 h (omega arith) (period_place layout (rate_count layout s) t) Period (omega arith) (kind_period layout))

      cycles_in : (t : ℕ) → t < task_count layout s → (1 ≤ cycles layout s t) × (cycles layout s t ≤ longest_job)
      unfolding allows
      cycles_in t h = between_true _ _ _ (word_in t 1 h (omega arith) (cycles_place layout (rate_count layout s) t) Cycles refl (kind_cycles layout))

      energy_in : (t r : ℕ) → t < task_count layout s → 1 ≤ r → r ≤ rate_count layout s
          → (1 ≤ energy layout s t r) × (energy layout s t r ≤ most_energy)
      unfolding allows
      energy_in t r h a b =
          between_true _ _ _ (word_in t (1 + extra_size layout + r) h (omega arith) (energy_place layout (rate_count layout s) t r) Energy refl (kind_energy layout r a))

      is_whole : IsWhole layout s
      is_whole = record {
        size = exact;
        rates_range = rates_in_lem (omega arith);
        tasks_range = tasks_in (omega arith);
        head_word = λ q h. allowed q (head_kind layout q) (omega arith) (kind_head layout s q h);
        rate_range = rate_in;
        period_range = period_in;
        cycles_range = cycles_in;
        extra_word = λ t k h i. word_in t (2 + k) h (omega arith) _ (kind_in (extra_kinds layout) k) refl (kind_extra layout k i);
        energy_range = energy_in;
      }

  -- A list without a fault is whole.
  pub whole_of : ((q : ℕ) → WordFault layout s q → ⊥) → IsWhole layout s
  whole_of fine = is_whole judged enough
    where
      judged : (q : ℕ) → q < length s → allows s q (kind_at layout s q) ≡ true
      judged q h =
          ⊎_elim
          (λ (a : allows s q (kind_at layout s q) ≡ true). a)
          (λ (a : allows s q (kind_at layout s q) ≡ false). absurd (fine q (inl (h, a))))
          (bool_cases (allows s q (kind_at layout s q)))

      enough : word_count layout s ≤ length s
      enough =
          ⊎_elim (λ (l : length s < word_count layout s). absurd (fine (length s) (inr (refl, l)))) (λ (l : word_count layout s ≤ length s). l)
          (lt_or_le (length s) (word_count layout s))

  -- ---- a list that is whole
  module _ (w : IsWhole layout s) where
    -- Word k of the task at t is in the list, and in its range.
    pub in_list : (t k : ℕ) → t < task_count layout s → k < task_size layout (rate_count layout s) → period_place layout (rate_count layout s) t + k < length s
    in_list t k h i = omega (arith, w.size, before-end (task_count layout s) (task_size layout (rate_count layout s)) t k h i)

    pub slack_in : (1 ≤ slack s) × (slack s ≤ 1000)
    unfolding allows
    slack_in = between_true 1 1000 (slack s) (in_range refl (slack_kind layout) (w.head_word slack_place (slack_in_head layout)))

    pub idle_in_lem : idle s ≤ most_idle
    unfolding allows
    idle_in_lem = (between_true 0 most_idle (idle s) (in_range refl (idle_kind layout) (w.head_word idle_place (idle_in_head layout)))).1

    -- A first release is below its own task's period.
    pub first_in : (t : ℕ) → t < task_count layout s → first layout s t < period layout s t
    unfolding allows
    first_in t h =
        let own : first_place layout (rate_count layout s) t - 2 ≡ period_place layout (rate_count layout s) t = omega arith in
        let is : allows s (first_place layout (rate_count layout s) t) First ≡ true =
        in_range refl (first_kind layout) (w.extra_word t 0 h (first_in_extra layout)) in
        ltb-true (first layout s t) (period layout s t) (rw own at is)

    task-word : (t k : ℕ) → t < task_count layout s → k < task_size layout (rate_count layout s)
        → allows s (period_place layout (rate_count layout s) t + k) (task_kind layout k) ≡ true
    unfolding allows
    task-word t k h i =
        ⊎_elim
        (λ (a : k < 1).
        let z : k ≡ 0 = omega arith in
        rw (z, kind_period layout) (in_range {k = Period} {x = Period} (omega arith) refl (true_between 1 longest_period (period layout s t) (w.period_range t h).0 (w.period_range t h).1)))
        (λ (a : 1 ≤ k).
        ⊎_elim
        (λ (b : k < 2).
        let z : k ≡ 1 = omega arith in
        rw (z, kind_cycles layout) (true_between 1 longest_job (cycles layout s t) (w.cycles_range t h).0 (w.cycles_range t h).1))
        (λ (b : 2 ≤ k).
        ⊎_elim
        (λ (c : k - 2 < extra_size layout).
        let z : k ≡ 2 + (k - 2) = omega arith in
        in_range (omega arith) (sym (subst (λ (j : ℕ). task_kind layout j ≡ kind_in (extra_kinds layout) (k - 2)) (sym z) (kind_extra layout (k - 2) c))) (w.extra_word t (k - 2) h c))
        (λ (c : extra_size layout ≤ k - 2).
        let r : ℕ = k - (1 + extra_size layout) in
        let z : k ≡ 1 + extra_size layout + (k - (1 + extra_size layout)) = omega arith in
        let e = w.energy_range t (k - (1 + extra_size layout)) h (omega arith) (omega arith) in
        in_range {k = Energy} (omega arith)
        (sym (subst (λ (j : ℕ). task_kind layout j ≡ Energy) (sym z) (kind_energy layout (k - (1 + extra_size layout)) (omega arith))))
        (true_between 1 most_energy (energy layout s t (k - (1 + extra_size layout))) e.0 e.1))
        (lt_or_le (k - 2) (extra_size layout)))
        (lt_or_le k 2))
        (lt_or_le k 1)

    after-count : (q : ℕ) → task_count_place layout (rate_count layout s) < q → q < length s → allows s q (kind_at layout s q) ≡ true
    after-count q a b =
        let size : ℕ = task_size layout (rate_count layout s) in
        let j : ℕ = q - tasks_place layout (rate_count layout s) in
        let split = div-add-mod' (q - tasks_place layout (rate_count layout s)) (task_size layout (rate_count layout s)) in
        let rest = mod-lt (q - tasks_place layout (rate_count layout s)) {m = task_size layout (rate_count layout s)} (omega arith) in
        let task : (q - tasks_place layout (rate_count layout s)) / task_size layout (rate_count layout s) < task_count layout s =
        (div-lt_iff_lt-mul {k = task_size layout (rate_count layout s)} {x = q - tasks_place layout (rate_count layout s)} {y = task_count layout s} (omega arith)).1 (omega (arith, w.size)) in
        let at : period_place layout (rate_count layout s) ((q - tasks_place layout (rate_count layout s)) / task_size layout (rate_count layout s)) + (q - tasks_place layout (rate_count layout s)) % task_size layout (rate_count layout s) ≡ q =
        omega arith in
        in_range at (sym (kind_task layout s _ _ task rest) ∙ subst (λ (x : ℕ). kind_at layout s x ≡ kind_at layout s q) (sym at) refl) (task-word _ _ task rest)

    judged_right : (q : ℕ) → q < length s → allows s q (kind_at layout s q) ≡ true
    unfolding allows
    judged_right q h =
        ⊎_elim
        (λ (a : q < head_size layout). in_range refl (sym (kind_head layout s q a)) (w.head_word q a))
        (λ (a : head_size layout ≤ q).
        ⊎_elim
        (λ (b : q < head_size layout + 1).
        in_range {q = head_size layout} {k = RateCount} (omega arith) (sym (kind_rates layout s q (omega arith))) (true_between 2 most_rates (rate_count layout s) w.rates_range.0 w.rates_range.1))
        (λ (b : head_size layout + 1 ≤ q).
        ⊎_elim
        (λ (c : q < task_count_place layout (rate_count layout s)).
        let r = w.rate_range (q - head_size layout) (omega arith) (omega arith) in
        in_range {q = rate_place layout (q - head_size layout)} {k = Rate} (omega arith) (sym (kind_rate layout s q (omega arith) c)) (true_between 1 1000000 (rate layout s (q - head_size layout)) r.0 r.1))
        (λ (c : task_count_place layout (rate_count layout s) ≤ q).
        ⊎_elim
        (λ (d : task_count_place layout (rate_count layout s) < q). after-count q d h)
        (λ (d : q ≤ task_count_place layout (rate_count layout s)).
        in_range {q = task_count_place layout (rate_count layout s)} {k = TaskCount} (omega arith) (sym (kind_tasks layout s q (omega arith)))
        (true_between 1 most_tasks (task_count layout s) w.tasks_range.0 w.tasks_range.1))
        (lt_or_le (task_count_place layout (rate_count layout s)) q))
        (lt_or_le q (task_count_place layout (rate_count layout s))))
        (lt_or_le q (head_size layout + 1)))
        (lt_or_le q (head_size layout))

    pub no_fault : (q : ℕ) → WordFault layout s q → ⊥
    no_fault q f = ⊎_elim (λ a. true≢false (sym (judged_right q a.0) ∙ a.1)) (λ a. omega (arith, a.1, w.size)) f

-- A list is whole exactly when it has no fault: who builds a list shows that it passes check 2 from the facts of its
-- words.
pub whole_iff : (layout : Layout) (s : List ℕ) → IsWhole layout s ↔ ((q : ℕ) → WordFault layout s q → ⊥)
whole_iff layout s = (no_fault layout s, whole_of layout s)
