-- What the loops over the ticks and over the tasks hold, and how they go on.
-- Assumes nothing.
use Prim.Native.Nat.{ℕ, suc, ◌+◌, ◌-◌, ◌≤◌, ◌<◌, min}
use mathlib.Core.Path.{◌≡◌, refl, sym, ap, ◌∙◌}
use mathlib.Core.List.{List}
use native.Mathlib.Omega.{arith}
use native.Mathlib.Nat.{sub-zero}
use native.Mathlib.Numerals.{add-one}
use lib.ListN.{length, get_or}
use Rattle.std.specs.Prelude.{Option, None}
use Rattle.numbers.proofs.Tests.{below_more}
use Rattle.schedule.specs.Walk.{Task, tasks_from}
use Rattle.schedule.specs.Counted.{walk_from}
use Rattle.schedule.proofs.Stretch.{walk_on}
use Rattle.ticks.specs.declared.Timing.{Timing}
use Rattle.ticks.specs.Arrays.{timing_at, task_at, Early, Begun, RunReady}
use Rattle.ticks.specs.declared.State.{State}
use Rattle.ticks.proofs.Stretches.{InStretch, stretch_start, stretch_over}
use Rattle.ticks.proofs.Releases.{Steady, Counted, counted_fit, Held, held_start, held_next, Gap, gap_is, gap_quiet, Part, part_start, part_end, offset_start, offset_steady}

-- Before tick t: what is left of the walk is the whole walk.
pub record AtTick (k : ℕ → Task) (n end t : ℕ) (late : Option ℕ) (s : State) : Type 0 where
  pub reached : t ≤ end
  pub on_time : late ≡ None
  pub held : Held k n t s
  pub early : Early n s.left s.due
  pub rest : walk_from (tasks_from k 0 n) t (end - t) ≡ walk_from (tasks_from k 0 n) 0 end

-- In tick t, with the turns of the tasks before place i over: `next` is the earliest release to come of theirs, or the
-- end where that is earlier.
pub record AtTask (k : ℕ → Task) (n end t i : ℕ) (late : Option ℕ) (next : ℕ) (s : State) : Type 0 where
  pub inside : i ≤ n
  pub on_time : late ≡ None
  pub part : Part k n t i s.left s.due
  pub counts : Counted k n t s
  pub early : Early n s.left s.due
  pub ahead : t < end → t < next
  pub within : next ≤ end
  pub least : (j : ℕ) → j < i → next ≤ get_or s.due j 0

-- The tasks that the code is given.
module _ {ts : List Timing} {end : ℕ} (ready : RunReady ts end) where
  pub steady : (i : ℕ) → i < length ts → Steady (task_at ts i)
  steady i h =
      let x = timing_at ts i in
      offset_steady x.first x.period x.time (ready.period i h).0 (ready.time i h)

  pub first_tick : {s : State} → Begun ts s → AtTick (task_at ts) (length ts) end 0 None s
  first_tick {s} b = record {
    reached = omega arith;
    on_time = refl;
    held = held_start ready.few (λ j x. let y = timing_at ts j in offset_start y.first y.period y.time) b;
    early = record {
      few = ready.few;
      lefts = rw b.left refl;
      dues = b.size;
      low = λ j x. omega (arith, b.due j x, ready.first j x);
    };
    rest = rw sub-zero refl;
  }

-- Every task has its turn.
pub turns_come : {k : ℕ → Task} {n end t : ℕ} {late : Option ℕ} {s : State} → AtTick k n end t late s → AtTask k n end t 0 late end s
turns_come v = record {
  inside = omega arith;
  on_time = v.on_time;
  part = part_start v.held;
  counts = v.held.counts;
  early = v.early;
  ahead = λ h. h;
  within = omega arith;
  least = λ j x. absurd (omega arith);
}

-- A task's turn: `next` is then the lesser of what it was and that task's next release.
pub turn_over : {k : ℕ → Task} {n end t i : ℕ} {late : Option ℕ} {next next' : ℕ} {s s' : State} → AtTask k n end t i late next s → i < n
    → Part k n t (i + 1) s'.left s'.due →
    Counted k n t s' → Early n s'.left s'.due → ((j : ℕ) → j < i → get_or s'.due j 0 ≡ get_or s.due j 0) →
    next' ≡ min next (get_or s'.due i 0) → AtTask k n end t (i + 1) late next' s'
turn_over {i = i} v h part counts early same e = record {
  inside = omega arith;
  on_time = v.on_time;
  part = part;
  counts = counts;
  early = early;
  ahead = λ x. omega (arith, v.ahead x, (part.passed i (omega arith)).reached);
  within = omega (arith, v.within);
  least = rw (add-one i) (below_more (λ j y. omega (arith, v.least j y, same j y)) (omega arith));
}

-- All turns are over before the end: the stretch up to `next` begins, and at its end the walk stands there.
module _ {k : ℕ → Task} {n end t i : ℕ} {late : Option ℕ} {next : ℕ} {s : State} (v : AtTask k n end t i late next s) (all : i ≡ n) (before : t < end) where
  gap : Gap n t next s.due
  gap = record { some = v.ahead before; least = λ j x. v.least j (omega arith) }

  pub stretch_comes : InStretch n t next t s s
  stretch_comes = stretch_start (omega (arith, gap.some)) v.early v.counts.inside (counted_fit v.counts)

  pub next_tick : {late₀ : Option ℕ} {t' : ℕ} {s₀ r : State} → AtTick k n end t late₀ s₀ → InStretch n t next t' s r → next ≤ t' → AtTick k n end t' late r
  next_tick {t' = t'} {r = r} u w over =
      let ks = tasks_from k 0 n in
      let a = part_end all v.part in
      let there : next ≡ t' = omega (arith, w.within) in
      let z : end - t ≡ suc (next - suc t) + (end - next) = omega (arith, gap.some, v.within) in
      rw (← there) (record {
        reached = v.within;
        on_time = v.on_time;
        held = held_next a v.counts gap (stretch_over w over k) w.due w.inside;
        early = w.early;
        rest =
            ap (λ (x : ℕ). walk_from ks x (end - next)) (sym (gap_is a gap)) ∙
            sym (walk_on ks t (next - suc t) (end - next) a.on_time (gap_quiet a gap)) ∙
            ap (walk_from ks t) (sym z) ∙ u.rest;
      })
