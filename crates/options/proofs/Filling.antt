-- The arrays of loads and energies, filled option by option.
-- Assumes nothing.
use Prim.Native.Nat.{ℕ, ◌+◌, ◌-◌, ◌*◌, ◌/◌, ◌≤◌, ◌<◌}
use mathlib.Core.Path.{◌≡◌, refl, ◌∙◌}
use mathlib.Core.List.{List}
use mathlib.Core.Logic.{⊎_elim}
use native.Mathlib.Decide.{ℕ_discrete}
use native.Mathlib.Nat.{eq-or-lt_of_le}
use native.Mathlib.Omega.{arith}
use lib.ListN.{get_or, set, length-set, replicate, length-replicate}
use lib.Seq.{get_or-set_same, get_or-set_other}
use Rattle.engine.specs.Arrays.{load_bound, energy_bound}
use Rattle.engine.proofs.Writing.{zeros_at}
use Rattle.layout.specs.Words.{most_rates, most_tasks, idle, rate_count, task_count, period, energy}
use Rattle.layout.specs.declared.Layout.{Layout}
use Rattle.taskset.specs.Quantities.{job_time, task_load, task_net}
use Rattle.taskset.specs.Sets.{IsSet}
use Rattle.taskset.proofs.Sets.{job_energy_at, task-load_small, task_net_small}
use Rattle.checks.specs.Steps.{OfCounts}
use Rattle.options.specs.Options.{Laid, LaidBoth}
use Rattle.options.specs.Posed.{SetGiven}

-- ---- one array
put_none : (f : ℕ → ℕ → ℕ) (bound m : ℕ) → 0 < bound → Laid f bound m 0 1 (replicate 512 0)
put_none f bound m some = record {
  size = length-replicate {A = ℕ} 512 0;
  small = λ k. omega (arith, zeros_at 512 k);
  before = λ u q l a b. absurd (omega arith);
  here = λ q a l. absurd (omega arith);
  elsewhere = λ k h. zeros_at 512 k;
}

put_more : (f : ℕ → ℕ → ℕ) (bound m t r v : ℕ) (d : List ℕ) → t < 32 → m ≤ 8 → 1 ≤ r → r ≤ m → v ≡ f t r → v < bound
    → Laid f bound m t r d
    → Laid f bound m t (r + 1) (set d (t * 16 + r) v)
put_more f bound m t r v d task rates from rate is fits p =
    record {
      size = length-set d (t * 16 + r) v ∙ p.size;
      small = λ k. at k (ℕ_discrete k (t * 16 + r));
      before = λ u q l a b. get_or-set_other d (t * 16 + r) (u * 16 + q) v 0 (omega arith) ∙ p.before u q l a b;
      here = λ q a l.
          ⊎_elim
          (λ (e : q ≡ r). rw e (same ∙ is))
          (λ (e : q < r). get_or-set_other d (t * 16 + r) (t * 16 + q) v 0 (omega arith) ∙ p.here q a e)
          (eq-or-lt_of_le (omega arith));
      elsewhere = λ k h.
          get_or-set_other d (t * 16 + r) k v 0 (λ e. h.here r from (omega arith) e) ∙
          p.elsewhere k (record { before = h.before; here = λ q a l e. h.here q a (omega arith) e });
    }
  where
    same : get_or (set d (t * 16 + r) v) (t * 16 + r) 0 ≡ v
    same = get_or-set_same d (t * 16 + r) v 0 (omega (arith, p.size))

    at : (k : ℕ) → Dec (k ≡ t * 16 + r) → get_or (set d (t * 16 + r) v) k 0 < bound
    at k (yes e) = rw (e, same) fits
    at k (no e) = rw (get_or-set_other d (t * 16 + r) k v 0 e) (p.small k)

-- The task is done, and the next begins.
put_next : (f : ℕ → ℕ → ℕ) (bound m t r : ℕ) (d : List ℕ) → r ≡ m + 1 → Laid f bound m t r d → Laid f bound m (t + 1) 1 d
put_next f bound m t r d e p = record {
  size = p.size;
  small = p.small;
  before = λ u q l a b.
      ⊎_elim (λ (z : u ≡ t). rw z (p.here q a (omega arith))) (λ (z : u < t). p.before u q z a b) (eq-or-lt_of_le (omega arith));
  here = λ q a l. absurd (omega arith);
  elsewhere = λ k h.
      p.elsewhere k (record {
        before = λ u q l a b z. h.before u q (omega arith) a b z;
        here = λ q a l z. h.before t q (omega arith) a (omega arith) z;
      });
}

-- ---- loads and energies of a set
pub both-none : (layout : Layout) (s : List ℕ) (m : ℕ) → LaidBoth layout s m 0 1 (replicate 512 0) (replicate 512 0)
both-none layout s m = record {
  loads = put_none (task_load layout s) load_bound m (omega arith);
  energies = put_none (task_net layout s) energy_bound m (omega arith);
}

pub both-next : (layout : Layout) (s : List ℕ) (m t r : ℕ) (ls es : List ℕ) → r ≡ m + 1 → LaidBoth layout s m t r ls es
    → LaidBoth layout s m (t + 1) 1 ls es
both-next layout s m t r ls es e b = record {
  loads = put_next (task_load layout s) load_bound m t r ls e b.loads;
  energies = put_next (task_net layout s) energy_bound m t r es e b.energies;
}

module _ {layout : Layout} {m n : ℕ} {s : List ℕ} (o : OfCounts layout m n s) {l : ℕ} (g : SetGiven layout s l) {t : ℕ} (i : t < n) where
  set_is : IsSet layout s
  set_is = g.set

  task_in : t < task_count layout s
  task_in = omega (arith, o.numbered)

  pub task_few : t < most_tasks
  task_few = omega (arith, task_in, set_is.whole.tasks_range.1)

  pub rates_few : m ≤ most_rates
  rates_few = omega (arith, o.counted, set_is.whole.rates_range.1)

  pub period_positive : 1 ≤ period layout s t
  period_positive = (set_is.whole.period_range t task_in).0

  -- the period p as it was read
  module _ (p : ℕ) (p-is : p ≡ period layout s t) where
    -- job time x and energy y at rate number r, and the idle energy h of a tick, as they were read
    module _ (r x y h : ℕ) (from : 1 ≤ r) (to : r ≤ m) where
      rate-number : r ≤ rate_count layout s
      rate-number = omega (arith, o.counted)

      -- Loads and energies are below the bounds of the arrays.
      pub load_fits : x ≡ job_time layout s t r → l / p * x < load_bound
      load_fits x-is =
          let most = task-load_small layout s set_is t r task_in from rate-number in
          rw (g.hyper, p-is, x-is) (omega (arith, most))

      -- What idle ticks draw in the job's time is no more than its energy, so that the rest is one.
      pub drawn_fits : x ≡ job_time layout s t r → y ≡ energy layout s t r → h ≡ idle s → h * x ≤ y
      drawn_fits x-is y-is h-is = rw (h-is, x-is, y-is) (g.covered t r task_in from rate-number)

      pub energy_fits : x ≡ job_time layout s t r → y ≡ energy layout s t r → h ≡ idle s
          → l / p * (y - h * x) < energy_bound
      energy_fits x-is y-is h-is =
          let most = task_net_small layout s set_is t r task_in from rate-number in
          rw (g.hyper, p-is, h-is, x-is, y-is, ← job_energy_at layout s t r from) (omega (arith, most))

      pub both-more : (ls es : List ℕ) → x ≡ job_time layout s t r → y ≡ energy layout s t r → h ≡ idle s
          → LaidBoth layout s m t r ls es
          → LaidBoth layout s m t (r + 1) (set ls (t * 16 + r) (l / p * x)) (set es (t * 16 + r) (l / p * (y - h * x)))
      both-more ls es x-is y-is h-is b = record {
        loads =
            put_more (task_load layout s) load_bound m t r (l / p * x) ls task_few rates_few from to (rw (g.hyper, p-is, x-is) refl)
            (load_fits x-is) b.loads;
        energies =
            put_more (task_net layout s) energy_bound m t r (l / p * (y - h * x)) es task_few rates_few from to
            (rw (g.hyper, p-is, h-is, x-is, y-is, ← job_energy_at layout s t r from) refl)
            (energy_fits x-is y-is h-is) b.energies;
      }
