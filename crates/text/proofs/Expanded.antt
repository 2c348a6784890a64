-- The list of a script that names a chip: what stands where in it, and which checks it passes.
-- Assumes nothing.
use Prim.Native.Nat.{ℕ, zero, suc, ◌+◌, ◌-◌, ◌≤◌, ◌<◌}
use mathlib.Core.Path.{◌≡◌, refl, sym, ap, ◌∙◌}
use mathlib.Core.List.{List, [], ◌∷◌}
use mathlib.Core.Bool.{true}
use mathlib.Core.Option.{Option, none, some}
use mathlib.Core.Logic.{◌↔◌, ⊎_elim}
use native.Mathlib.Nat.{add-zero}
use native.Mathlib.Omega.{arith}
use lib.ListN.{length, get_or}
use lib.Seq.{get_or-append-add}
use borrow.Author.Tests.{lt-ltb}
use Rattle.numbers.specs.Numbers.{All, joined}
use Rattle.numbers.proofs.Lists.{each_at, all_at, joined_at}
use Rattle.numbers.proofs.Search.{no_lowest}
use Rattle.numbers.proofs.Tests.{lt_or_le, true_between}
use Rattle.layout.specs.Words.{head_kinds, extra_kinds, head_size, extra_size, head_kind, kind_in, allows, longest_period}
use Rattle.layout.specs.Words.{most_idle, longest_job, most_energy, word, idle, rate_count, task_count}
use Rattle.layout.specs.Words.{task_size, period_place, rate, period, cycles, first, energy}
use Rattle.layout.specs.declared.Layout.TheVariants.{Ordinary}
use Rattle.layout.specs.Whole.{IsWhole}
use Rattle.layout.proofs.Built.{built}
use Rattle.layout.proofs.Built as laws
use Rattle.chips.specs.Chips.{chip_count, chip_rate, chip_energy, chip_rates, chip_energies, chip_idle}
use Rattle.chips.specs.declared.Chip.{Chip}
use Rattle.chips.proofs.Limits.{most_cycles, most_cycles_lem, longer_over}
use Rattle.chips.proofs.Tables.{count_range, rates-length, rate_range, rates_rise, idle_range, energy_positive, energy_above_idle}
use Rattle.taskset.specs.Refusals.{Passes, Accepts, word_checks, idle_check}
use Rattle.taskset.specs.Sets.{Covered}
use Rattle.taskset.proofs.Idle.{covered_passes}
use Rattle.taskset.proofs.Sets.{job_time_at, words_pass}
use Rattle.text.specs.Text.{TaskLine, chip, Script, energy_count, TaskLineOk, ScriptOk, IsTextOf}
use Rattle.text.specs.Text.{idle_of, head_words, first_of, extra_words, task_words, words}
use Rattle.text.specs.Calls.{HasOver, over_check}
use Rattle.text.proofs.Sizes.{task_size_lem, words_size}
use Rattle.text.proofs.Copies.{NoneOver}

-- What a customer's own numbers are to be: a first release, where one is given, is below the period.
abbrev pub FirstIn : ℕ → Option ℕ → Type 0
FirstIn period none = Unit {0}
FirstIn period (some a) = a < period

pub record LineIn (l : TaskLine) : Type 0 where
  pub period : (1 ≤ l.period) × (l.period ≤ longest_period)
  pub cycles : (1 ≤ l.cycles) × (l.cycles ≤ longest_job)
  pub first : FirstIn l.period l.first

abbrev pub IdleIn : Option ℕ → Type 0
IdleIn none = Unit {0}
IdleIn (some h) = h ≤ most_idle

-- A script that names a chip.
abbrev pub chip_script : Chip → ℕ → Option ℕ → List TaskLine → Script
chip_script c g o ts = record { slack = g; idle = o; clock = chip c; tasks = ts }

-- The line of the task at place t.
abbrev pub line_at : List TaskLine → ℕ → TaskLine
line_at ts t = get_or ts t (record { period = 0; cycles = 0; energies = []; first = none })

head_length : (s : Script) → length (head_words s) ≡ head_size Ordinary
unfolding head_kinds
head_length s = refl

-- ---- what stands where
module _ (c : Chip) (g : ℕ) (o : Option ℕ) (ts : List TaskLine) (ok : ScriptOk (chip_script c g o ts)) where
  abbrev s : Script
  s = chip_script c g o ts

  abbrev m : ℕ
  m = length (chip_rates c)

  extra_length : (l : TaskLine) → length (l.period ∷ l.cycles ∷ extra_words l) ≡ task_size Ordinary 0
  unfolding extra_kinds
  extra_length l = refl

  abbrev tasks : List ℕ
  tasks = joined (task_words (chip c)) ts

  parts : words s ≡ built (head_words s) (chip_rates c) (length ts) tasks
  unfolding words
  parts = refl

  rates_is : rate_count Ordinary (words s) ≡ m
  rates_is = ap (rate_count Ordinary) parts ∙ laws.rates_is Ordinary (head_words s) (chip_rates c) (length ts) tasks (head_length s)

  rate_is : (r : ℕ) → 1 ≤ r → r ≤ m → rate Ordinary (words s) r ≡ chip_rate c r
  unfolding chip_rates
  rate_is r a b =
      let number : 1 + (r - 1) ≡ r = omega arith in
      ap (λ (l : List ℕ). rate Ordinary l r) parts ∙
      laws.rate_is Ordinary (head_words s) (chip_rates c) (length ts) tasks (head_length s) r a b ∙
      each_at (chip_rate c) 1 (chip_count c) (r - 1) (omega (arith, rates-length c)) 0 ∙ ap (chip_rate c) number

  tasks_is : task_count Ordinary (words s) ≡ length ts
  tasks_is = ap (task_count Ordinary) parts ∙ laws.tasks_is Ordinary (head_words s) (chip_rates c) (length ts) tasks (head_length s)

  sized : (ls : List TaskLine) → All (TaskLineOk (energy_count (chip c))) ls → All (λ l. length (task_words (chip c) l) ≡ task_size Ordinary m) ls
  sized [] a = tt
  sized (l ∷ ls) a = (task_size_lem (chip c) l a.0, sized ls a.1)

  -- The line of the task at t; word k of the task is that of its line.
  abbrev line : ℕ → TaskLine
  line t = line_at ts t

  module _ (t : ℕ) (h : t < length ts) where
    task-word : (k : ℕ) → k < task_size Ordinary m
        → word (words s) (period_place Ordinary (rate_count Ordinary (words s)) t + k) ≡ word (task_words (chip c) (line t)) k
    task-word k l =
        ap (λ (l : List ℕ). word l (period_place Ordinary (rate_count Ordinary l) t + k)) parts ∙
        laws.task-word_is Ordinary (head_words s) (chip_rates c) (length ts) tasks (head_length s) t k ∙
        joined_at (task_words (chip c)) (task_size Ordinary m) ts (sized ts ok.tasks.each) t k _ h l

    period_is : period Ordinary (words s) t ≡ (line t).period
    period_is = ap (word (words s)) (sym (add-zero (period_place Ordinary (rate_count Ordinary (words s)) t)))
        ∙ task-word 0 (omega arith)

    cycles_is : cycles Ordinary (words s) t ≡ (line t).cycles
    cycles_is = task-word 1 (omega arith)

    first_is : first Ordinary (words s) t ≡ first_of (line t).first
    unfolding extra_kinds
    first_is = task-word 2 (omega arith)

    energy_is : (r : ℕ) → 1 ≤ r → r ≤ m → energy Ordinary (words s) t r ≡ chip_energy c (line t).cycles r
    unfolding chip_energies
    energy_is r a b =
        let number : 1 + (r - 1) ≡ r = omega arith in
        let extra : List ℕ = (line t).period ∷ (line t).cycles ∷ extra_words (line t) in
        let size : length extra ≡ task_size Ordinary 0 = extra_length (line t) in
        let place : 1 + extra_size Ordinary + r ≡ length extra + (r - 1) = omega arith in
        task-word (1 + extra_size Ordinary + r) (omega arith) ∙ ap (word (task_words (chip c) (line t))) place ∙
        get_or-append-add extra (chip_energies c (line t).cycles) (r - 1) 0 ∙
        each_at (chip_energy c (line t).cycles) 1 (chip_count c) (r - 1) (omega (arith, rates-length c)) 0
        ∙ ap (chip_energy c (line t).cycles) number

    -- Refusal 9's cause goes by the cycles alone.
    pub over_iff : HasOver s (suc t) ↔ (most_cycles c < (line t).cycles)
    over_iff = (there, back)
      where
        place : suc t - 1 ≡ t
        place = omega arith

        there : HasOver s (suc t) → most_cycles c < (line t).cycles
        there x =
            ⊎_elim
            (λ (l : most_cycles c < (line t).cycles). l)
            (λ (l : (line t).cycles ≤ most_cycles c).
            let is = energy_is x.rate x.rate_from x.rate_to in
            let over : most_energy < energy Ordinary (words s) t x.rate = rw place at x.over in
            absurd (omega (arith, (most_cycles_lem c (line t).cycles).1 l x.rate x.rate_from (omega (arith, x.rate_to, rates-length c)))))
            (lt_or_le (most_cycles c) (line t).cycles)

        back : most_cycles c < (line t).cycles → HasOver s (suc t)
        back l =
            let x = longer_over c (line t).cycles l in
            let few : x.0 ≤ m = omega (arith, x.2, rates-length c) in
            record {
              from = omega arith;
              to = omega arith;
              rate = x.0;
              rate_from = x.1;
              rate_to = few;
              over = rw place (omega (arith, x.3, energy_is x.0 x.1 few));
            }

-- ---- which checks it passes
-- Where no task is the first with an energy over the largest, none has one.
pub passes_over : (s : Script) (t : List ℕ) → IsTextOf s t → Passes (over_check t) → NoneOver s
passes_over s t is pass w = no_lowest (HasOver s) (λ k l. pass k (s, is, w, l))

-- The idle energy that the list has is in its range: the chip's own is.
idle_most : (c : Chip) (o : Option ℕ) → IdleIn o → idle_of o (chip c) ≤ most_idle
idle_most c none h = (idle_range c).1
idle_most c (some i) h = h

-- A first release that the list has is below the period: none is 0, and a period is not.
first_below : (period : ℕ) (o : Option ℕ) → 1 ≤ period → FirstIn period o → first_of o < period
first_below period none low h = low
first_below period (some a) low h = h

-- Where its slack, its idle line if there is one, its periods, its cycles and its first releases are in their ranges, and
-- no energy is over the largest, a chip's list passes checks 2 and 3.
module _ (c : Chip) (g : ℕ) (o : Option ℕ) (ts : List TaskLine) (ok : ScriptOk (chip_script c g o ts))
    (slack_in : (1 ≤ g) × (g ≤ 1000)) (idle_in_lem : IdleIn o) (lines-in : All LineIn ts)
    (none : NoneOver (chip_script c g o ts)) where
  abbrev list : List ℕ
  list = words (chip_script c g o ts)

  line_in : (t : ℕ) → t < length ts → LineIn (line c g o ts ok t)
  line_in t h = all_at LineIn ts lines-in t _ h

  task : (t : ℕ) → t < task_count Ordinary list → t < length ts
  task t h = omega (arith, tasks_is c g o ts ok)

  head_in : (q : ℕ) → q < head_size Ordinary → allows list q (head_kind Ordinary q) ≡ true
  unfolding allows head_kinds head_kind kind_in words
  head_in zero h = true_between 1 1000 g slack_in.0 slack_in.1
  head_in (suc zero) h = true_between 0 most_idle (idle_of o (chip c)) (omega arith) (idle_most c o idle_in_lem)
  head_in (suc (suc q)) h = absurd (omega arith)

  extra_in : (t k : ℕ) → t < task_count Ordinary list → k < extra_size Ordinary
      → allows list (period_place Ordinary (rate_count Ordinary list) t + (2 + k)) (kind_in (extra_kinds Ordinary) k) ≡ true
  unfolding extra_kinds kind_in allows
  extra_in t k h l =
      let none : k ≡ 0 = omega arith in
      let p : ℕ = period_place Ordinary (rate_count Ordinary list) t in
      let own : p + (2 + 0) - 2 ≡ p = omega arith in
      let x = line_in t (task t h) in
      rw (none, own)
      (lt-ltb (first Ordinary list t) (period Ordinary list t) (omega (
        arith,
        first_is c g o ts ok t (task t h),
        period_is c g o ts ok t (task t h),
        first_below (line c g o ts ok t).period (line c g o ts ok t).first x.period.0 x.first,
      )))

  few : (r : ℕ) → r ≤ rate_count Ordinary list → r ≤ length (chip_rates c)
  few r b = omega (arith, rates_is c g o ts ok)

  energy_in : (t r : ℕ) → t < task_count Ordinary list → 1 ≤ r → r ≤ rate_count Ordinary list
      → (1 ≤ energy Ordinary list t r) × (energy Ordinary list t r ≤ most_energy)
  energy_in t r h a b =
      let l = line_in t (task t h) in
      let e = energy_is c g o ts ok t (task t h) r a (few r b) in (
        omega (arith, energy_positive c (line c g o ts ok t).cycles r l.cycles.0 a (omega (arith, few r b, rates-length c))),
        ⊎_elim
            (λ (over : most_energy < energy Ordinary list t r).
            let back : suc t - 1 ≡ t = omega arith in
            absurd (none tt (suc t) (record {
              from = omega arith;
              to = omega (arith, task t h);
              rate = r;
              rate_from = a;
              rate_to = few r b;
              over = rw back over;
            })))
            (λ (within : energy Ordinary list t r ≤ most_energy). within)
            (lt_or_le most_energy (energy Ordinary list t r)),
      )

  whole : IsWhole Ordinary list
  whole =
      let m = rates_is c g o ts ok in
      let n = tasks_is c g o ts ok in
      record {
        size = words_size (chip_script c g o ts) ok
            ∙ ap (λ (j : ℕ). period_place Ordinary j (length ts)) (sym m)
            ∙ ap (period_place Ordinary (rate_count Ordinary list)) (sym n);
        rates_range = (omega (arith, rates-length c, count_range c), omega (arith, rates-length c, count_range c));
        tasks_range = (omega (arith, ok.tasks.least), omega (arith, ok.tasks.most));
        head_word = head_in;
        rate_range = λ r a b.
            let e = rate_is c g o ts ok r a (few r b) in
            let k = rate_range c r a (omega (arith, few r b, rates-length c)) in
            (omega arith, omega arith);
        period_range = λ t h.
            let l = (line_in t (task t h)).period in
            let e = period_is c g o ts ok t (task t h) in
            (omega arith, omega arith);
        cycles_range = λ t h.
            let l = (line_in t (task t h)).cycles in
            let e = cycles_is c g o ts ok t (task t h) in
            (omega arith, omega arith);
        extra_word = extra_in;
        energy_range = energy_in;
      }

  rising : (r : ℕ) → 1 ≤ r → r < rate_count Ordinary list → rate Ordinary list r < rate Ordinary list (suc r)
  rising r a b =
      omega (
        arith,
        rate_is c g o ts ok r a (few r (omega arith)),
        rate_is c g o ts ok (suc r) (omega arith) (few (suc r) b),
        rates_rise c r a (omega (arith, few (suc r) b, rates-length c)),
      )

  pub list_passes : Accepts (word_checks Ordinary list)
  list_passes = words_pass Ordinary list whole rising

-- A chip's list passes check 10 where the text has no idle line, whatever else it says: no energy that was worked out is
-- below what the chip's own idle energy comes to in the job's time.
module _ (c : Chip) (g : ℕ) (ts : List TaskLine) (ok : ScriptOk (chip_script c g none ts)) where
  abbrev own : List ℕ
  own = words (chip_script c g none ts)

  idle_is : idle own ≡ chip_idle c
  unfolding words
  idle_is = refl

  own-covered : Covered Ordinary own
  own-covered t r h a b =
      let task : t < length ts = omega (arith, tasks_is c g none ts ok) in
      let few : r ≤ length (chip_rates c) = omega (arith, rates_is c g none ts ok) in
      rw (job_time_at Ordinary own t r a, idle_is, cycles_is c g none ts ok t task, rate_is c g none ts ok r a few, energy_is c g none ts ok t task r a few)
      (energy_above_idle c (line c g none ts ok t).cycles r a (omega (arith, rates-length c)))

  pub own_passes : Passes (idle_check Ordinary own)
  own_passes = covered_passes Ordinary own own-covered
