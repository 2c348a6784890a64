-- The walk by arrays: releases one task at a time, then the ticks up to the next release; what the arrays and the counts
-- hold before each tick with a release.
-- Assumes nothing.
use Prim.Native.Nat.{ℕ, zero, suc, ◌+◌, ◌-◌, ◌%◌, ◌≤◌, ◌<◌}
use mathlib.Core.Path.{◌≡◌, refl, sym, ap, ◌∙◌, subst}
use mathlib.Core.Bool.{true, false, ◌&&◌, and-false}
use mathlib.Core.List.{List, [], ◌∷◌, ◌++◌, map, append_assoc, append-nil}
use mathlib.Core.Logic.{◌⊎◌, inl, inr, ⊎_elim}
use native.Mathlib.Omega.{arith}
use native.Mathlib.Nat.{eq-or-lt_of_le, add-zero, zero-add, sub-zero, sub_self, zero-mod, add-mod_right}
use native.Mathlib.Numerals.{add-one}
use lib.Dec.{ltb}
use lib.ListN.{length, get_or, set, get_or-replicate}
use lib.Seq.{get_or-set_same, get_or-set_other}
use borrow.Author.Tests.{lt-ltb, le-ltb}
use Rattle.numbers.specs.Numbers.{over}
use Rattle.numbers.proofs.Tests.{below_more}
use Rattle.schedule.specs.Walk.{Task, tasks_from, Job, fresh, released, release, before, late, misses, offset}
use Rattle.schedule.specs.Counted.{missed, kept, busy_at, idle_at, preempted_at, late_task, walk_from}
use Rattle.schedule.proofs.ByPlace.{length-tasks, all-tasks}
use Rattle.schedule.proofs.Periodic.{multiples_apart}
use Rattle.schedule.proofs.Offset.{offset_there, offset-before, offset-between, offset-released}
use Rattle.schedule.specs.Stretch.{Going, ticks}
use Rattle.schedule.proofs.Stretch.{pending, going_at, Quiet, stretch, Fits, counts_fit}
use Rattle.schedule.proofs.Alike.{AllAlike, AlikeGoing, late-alike, release-alike, ticks-alike}
use Rattle.ticks.specs.Arrays.{jobs_from, blank, going, Inside, timing_at, Begun}
use Rattle.ticks.specs.declared.Timing.{Timing}
use Rattle.ticks.specs.declared.State.{State}
use Rattle.ticks.proofs.Jobs.{jobs_same}

-- ---- the next release
-- d is the first tick from t on at which the task releases a job, a full one
pub record Coming (k : Task) (t d : ℕ) : Type 0 where
  pub reached : t ≤ d
  pub quiet : (u : ℕ) → t ≤ u → u < d → k.arrives u ≡ 0
  pub there : k.arrives d ≡ k.time

-- jobs of full length, a period apart
pub record Steady (k : Task) : Type 0 where
  pub some : 0 < k.time
  pub next : (u : ℕ) → k.arrives u ≡ k.time → Coming k (suc u) (u + k.period)

coming-later : (k : Task) (t d : ℕ) → Coming k t d → (d ≡ t → ⊥) → (k.arrives t ≡ 0) × Coming k (suc t) d
coming-later k t d c ne =
    ⊎_elim
    (λ (e : t ≡ d). absurd (ne (sym e)))
    (λ (l : t < d). (c.quiet t (omega arith) l, record { reached = l; quiet = λ u a b. c.quiet u (omega arith) b; there = c.there }))
    (eq-or-lt_of_le c.reached)

-- ---- a release
release_full : (t : ℕ) (j : Job) (e : ℕ) → 0 < e
    → released t j e ≡ record { task = j.task; left = e; due = t + j.task.period }
release_full t j zero h = absurd (omega arith)
release_full t j (suc e) h = refl

abbrev pub job_at : (ℕ → Task) → List ℕ → List ℕ → ℕ → Job
job_at k l d i = record { task = k i; left = get_or l i 0; due = get_or d i 0 }

jobs_snoc : (k : ℕ → Task) (l d : List ℕ) (i m : ℕ)
    → jobs_from k l d i (suc m) ≡ jobs_from k l d i m ++ (job_at k l d (i + m) ∷ [])
jobs_snoc k l d i zero = ap (λ (x : ℕ). job_at k l d x ∷ []) (sym (add-zero i))
jobs_snoc k l d i (suc m) =
    ap (λ (r : List Job). job_at k l d i ∷ r)
    (jobs_snoc k l d (suc i) m ∙ ap (λ (x : ℕ). jobs_from k l d (suc i) m ++ (job_at k l d x ∷ [])) (omega arith))

-- released up to place i, and still to be released from there on
abbrev pub half : (ℕ → Task) → ℕ → ℕ → List ℕ → List ℕ → ℕ → List Job
half k n t l d i = jobs_from k l d 0 i ++ map (release t) (jobs_from k l d i (n - i))

half_step : (k : ℕ → Task) (n t : ℕ) (l d l' d' : List ℕ) (i : ℕ) → i < n →
    ((j : ℕ) → (j ≡ i → ⊥) → (get_or l' j 0 ≡ get_or l j 0) × (get_or d' j 0 ≡ get_or d j 0)) →
    job_at k l' d' i ≡ release t (job_at k l d i) → half k n t l' d' (suc i) ≡ half k n t l d i
half_step k n t l d l' d' i h same e =
    let q : n - i ≡ suc (n - suc i) = omega arith in
    let a = jobs_same k l' d' l d 0 i (λ j x y. same j (λ z. absurd (omega arith))) in
    let b = jobs_same k l' d' l d (suc i) (n - suc i) (λ j x y. same j (λ z. absurd (omega arith))) in
    let front : jobs_from k l' d' 0 (suc i) ≡ jobs_from k l d 0 i ++ (release t (job_at k l d i) ∷ []) =
    jobs_snoc k l' d' 0 i ∙ ap (λ (x : ℕ). jobs_from k l' d' 0 i ++ (job_at k l' d' x ∷ [])) (zero-add i) ∙
    ap (λ (js : List Job). js ++ (job_at k l' d' i ∷ [])) a ∙ ap (λ (j : Job). jobs_from k l d 0 i ++ (j ∷ [])) e in
    ap (λ (js : List Job). js ++ map (release t) (jobs_from k l' d' (suc i) (n - suc i))) front ∙
    ap (λ (js : List Job). (jobs_from k l d 0 i ++ (release t (job_at k l d i) ∷ [])) ++ map (release t) js) b ∙
    append_assoc (jobs_from k l d 0 i) (release t (job_at k l d i) ∷ []) (map (release t) (jobs_from k l d (suc i) (n - suc i))) ∙
    ap (λ (m : ℕ). jobs_from k l d 0 i ++ map (release t) (jobs_from k l d i m)) (sym q)

-- ---- the counts
-- what the state counts before tick t
pub record Counted (k : ℕ → Task) (n t : ℕ) (s : State) : Type 0 where
  pub busy : s.busy ≡ over (busy_at (tasks_from k 0 n)) 0 t
  pub idle : s.idle ≡ over (idle_at (tasks_from k 0 n)) 0 t
  pub preempted : s.preempted ≡ over (preempted_at (tasks_from k 0 n)) 0 t
  pub last : (going k n s).last ≡ pending (tasks_from k 0 n) t
  pub inside : Inside n s

module _ {k : ℕ → Task} {n t : ℕ} {s : State} (c : Counted k n t s) where
  -- no count passes its tick
  pub counted_fit : Fits t (going blank n s)
  counted_fit =
      let f = counts_fit (tasks_from k 0 n) t (before (tasks_from k 0 n) t) in
      record { busy = omega (arith, c.busy, f.busy); idle = omega (arith, c.idle, f.idle); preempted = omega (arith, c.preempted, f.preempted) }

  -- the arrays may change
  pub counted_on : (l d : List ℕ) → Counted k n t (record {
    left = l;
    due = d;
    busy = s.busy;
    idle = s.idle;
    preempted = s.preempted;
    last = s.last;
  })
  counted_on l d = record { busy = c.busy; idle = c.idle; preempted = c.preempted; last = c.last; inside = c.inside }

-- ---- before tick t: what the state holds
pub record Held (k : ℕ → Task) (n t : ℕ) (s : State) : Type 0 where
  pub jobs : AllAlike (jobs_from k s.left s.due 0 n) (before (tasks_from k 0 n) t)
  pub coming : (j : ℕ) → j < n → Coming (k j) t (get_or s.due j 0)
  pub counts : Counted k n t s

-- ---- while tick t's releases are made, up to place i
pub record Part (k : ℕ → Task) (n t i : ℕ) (l d : List ℕ) : Type 0 where
  pub done : AllAlike (half k n t l d i) (map (release t) (before (tasks_from k 0 n) t))
  pub late : late t (jobs_from k l d i (n - i)) ≡ misses (tasks_from k 0 n) t
  pub first : i + late_task t (jobs_from k l d i (n - i)) ≡ late_task t (before (tasks_from k 0 n) t)
  pub passed : (j : ℕ) → j < i → Coming (k j) (suc t) (get_or d j 0)
  pub ahead : (j : ℕ) → i ≤ j → j < n → Coming (k j) t (get_or d j 0)

pub part_start : {k : ℕ → Task} {n t : ℕ} {s : State} → Held k n t s → Part k n t 0 s.left s.due
part_start {k} {n} {t} {s} h =
    let js = jobs_from k s.left s.due 0 n in
    let same = late-alike t js (before (tasks_from k 0 n) t) h.jobs in record {
      done = rw sub-zero (release-alike t js (before (tasks_from k 0 n) t) h.jobs);
      late = rw sub-zero same.0;
      first = rw sub-zero (zero-add (late_task t js) ∙ same.1);
      passed = λ j x. absurd (omega arith);
      ahead = λ j x y. h.coming j y;
    }

-- the test at a place where no earlier job is late
on_time : (k : ℕ → Task) (n t i : ℕ) (l d : List ℕ) → i < n → ((k i).arrives t ≡ 0) ⊎ (get_or l i 0 ≤ 0) →
    (late t (jobs_from k l d i (n - i)) ≡ late t (jobs_from k l d (suc i) (n - suc i))) ×
    (i + late_task t (jobs_from k l d i (n - i)) ≡ suc i + late_task t (jobs_from k l d (suc i) (n - suc i)))
on_time k n t i l d h o =
    let q : n - i ≡ suc (n - suc i) = omega arith in
    let z = test o in
    (rw (q, z) refl, rw (q, z) (omega arith))
  where
    test : ((k i).arrives t ≡ 0) ⊎ (get_or l i 0 ≤ 0) → (ltb 0 ((k i).arrives t) && ltb 0 (get_or l i 0)) ≡ false
    test (inl e) = rw e refl
    test (inr e) = rw (le-ltb 0 (get_or l i 0) e) (and-false (ltb 0 ((k i).arrives t)))

module _ {k : ℕ → Task} {n t i : ℕ} {l d : List ℕ} (h : i < n) (s : Part k n t i l d) where
  -- no release at place i
  pub part_pass : (get_or d i 0 ≡ t → ⊥) → Part k n t (i + 1) l d
  part_pass ne =
      let c = coming-later (k i) t (get_or d i 0) (s.ahead i (omega arith) h) ne in
      let o = on_time k n t i l d h (inl c.0) in
      rw (add-one i) (record {
        done = subst (λ (js : List Job). AllAlike js (map (release t) (before (tasks_from k 0 n) t)))
            (sym (half_step k n t l d l d i h (λ j x. (refl, refl)) (ap (λ (x : ℕ). released t (job_at k l d i) x) (sym c.0)))) s.done;
        late = sym o.0 ∙ s.late;
        first = sym o.1 ∙ s.first;
        passed = below_more s.passed c.1;
        ahead = λ j x y. s.ahead j (omega arith) y;
      })

  -- a release at place i, of a task that is done
  pub part_take : i < length l → i < length d → Steady (k i) → get_or d i 0 ≡ t → get_or l i 0 ≤ 0
      → Part k n t (i + 1) (set l i (k i).time) (set d i (t + (k i).period))
  part_take hl hd st q z =
      let v = (k i).time in
      let w = t + (k i).period in
      let full : (k i).arrives t ≡ v = ap (k i).arrives (sym q) ∙ (s.ahead i (omega arith) h).there in
      let gl = get_or-set_same l i v 0 hl in
      let gd = get_or-set_same d i w 0 hd in
      let other : (j : ℕ) → (j ≡ i → ⊥) → (get_or (set l i v) j 0 ≡ get_or l j 0) × (get_or (set d i w) j 0 ≡ get_or d j 0) =
      λ j x. (get_or-set_other l i j v 0 x, get_or-set_other d i j w 0 x) in
      let o = on_time k n t i l d h (inr z) in
      let same = jobs_same k (set l i v) (set d i w) l d (suc i) (n - suc i) (λ j x y. other j (λ r. absurd (omega arith))) in
      rw (add-one i) (record {
        done = subst (λ (js : List Job). AllAlike js (map (release t) (before (tasks_from k 0 n) t)))
            (sym (half_step k n t l d (set l i v) (set d i w) i h other (rw (gl, gd, full) (sym (release_full t (job_at k l d i) v st.some))))) s.done;
        late = ap (late t) same ∙ sym o.0 ∙ s.late;
        first = ap (λ (js : List Job). suc i + late_task t js) same ∙ sym o.1 ∙ s.first;
        passed = below_more (λ j y. rw (other j (λ r. absurd (omega arith))).1 (s.passed j y)) (rw gd (st.next t full));
        ahead = λ j x y. rw (other j (λ r. absurd (omega arith))).1 (s.ahead j (omega arith) y);
      })

  -- a release at place i, of a task with work left
  pub part_miss : Steady (k i) → get_or d i 0 ≡ t → 0 < get_or l i 0
      → (misses (tasks_from k 0 n) t ≡ true) × (late_task t (before (tasks_from k 0 n) t) ≡ i + 1)
  part_miss st eq z =
      let q : n - i ≡ suc (n - suc i) = omega arith in
      let full : (k i).arrives t ≡ (k i).time = ap (k i).arrives (sym eq) ∙ (s.ahead i (omega arith) h).there in
      let some = st.some in
      let test : (ltb 0 ((k i).arrives t) && ltb 0 (get_or l i 0)) ≡ true = rw
      (lt-ltb 0 ((k i).arrives t) (omega arith), lt-ltb 0 (get_or l i 0) z) refl in
      (sym s.late ∙ rw (q, test) refl, sym s.first ∙ rw (q, test) refl)

-- ---- after tick t's releases: no task was late
pub record AfterReleases (k : ℕ → Task) (n t : ℕ) (l d : List ℕ) : Type 0 where
  pub on_time : misses (tasks_from k 0 n) t ≡ false
  pub jobs : AllAlike (jobs_from k l d 0 n) (map (release t) (before (tasks_from k 0 n) t))
  pub coming : (j : ℕ) → j < n → Coming (k j) (suc t) (get_or d j 0)

pub part_end : {k : ℕ → Task} {n t i : ℕ} {l d : List ℕ} → i ≡ n → Part k n t i l d → AfterReleases k n t l d
part_end {k} {n} {t} {i} {l} {d} q s =
    let z : n - i ≡ 0 = omega arith in record {
      on_time = sym s.late ∙ rw z refl;
      jobs =
          subst (λ (js : List Job). AllAlike js (map (release t) (before (tasks_from k 0 n) t))) (append-nil (jobs_from k l d 0 i) ∙ ap (jobs_from k l d 0) q) (rw z at s.done);
      coming = λ j x. s.passed j (omega arith);
    }

-- ---- a stretch after the releases, up to a tick that no release comes before
pub record Gap (n t next : ℕ) (d : List ℕ) : Type 0 where
  pub some : t < next
  pub least : (j : ℕ) → j < n → next ≤ get_or d j 0

module _ {k : ℕ → Task} {n t next : ℕ} {l d : List ℕ} (a : AfterReleases k n t l d) (g : Gap n t next d) where
  -- in code the stretch is next - t ticks long, in the laws one and as many as come after it
  pub gap_is : t + suc (next - suc t) ≡ next
  gap_is = omega (arith, g.some)

  pub gap_quiet : (u : ℕ) → t < u → u < t + suc (next - suc t) → Quiet (tasks_from k 0 n) u
  gap_quiet u x y =
      all-tasks (λ k. k.arrives u ≡ 0) k 0 n
      (λ j b z. (a.coming j (omega arith)).quiet u x (omega (arith, gap_is, g.least j (omega arith))))

pub held_next : {k : ℕ → Task} {n t next : ℕ} {s r : State} → AfterReleases k n t s.left s.due → Counted k n t s →
    Gap n t next s.due → going k n r ≡ ticks (next - t) (going k n s) → r.due ≡ s.due → Inside n r → Held k n next r
held_next {k} {n} {t} {next} {s} {r} a c g goes due inside =
    let ks = tasks_from k 0 n in
    let m = suc (next - suc t) in
    let z : next - t ≡ m = omega (arith, g.some) in
    let from : AlikeGoing (going k n s) (going_at ks t (map (release t) (before ks t))) =
    record { jobs = a.jobs; busy = c.busy; idle = c.idle; preempted = c.preempted; last = c.last } in
    let to = ap (λ (x : ℕ). going_at ks x (before ks x)) (gap_is a g) in
    let same : AlikeGoing (going k n r) (going_at ks next (before ks next)) =
    subst (λ (h : Going). AlikeGoing (going k n r) h) (stretch ks t (next - suc t) (gap_quiet a g) ∙ to)
    (subst (λ (h : Going). AlikeGoing h (ticks m (going_at ks t (map (release t) (before ks t))))) (sym (goes ∙ ap (λ (x : ℕ). ticks x (going k n s)) z))
    (ticks-alike m (going k n s) (going_at ks t (map (release t) (before ks t))) from)) in
    record {
      jobs = same.jobs;
      coming = rw due (λ j x.
          let v = a.coming j x in
          record { reached = g.least j x; quiet = λ u y e. v.quiet u (omega (arith, g.some)) e; there = v.there });
      counts = record { busy = same.busy; idle = same.idle; preempted = same.preempted; last = same.last; inside = inside };
    }

-- ---- the whole walk, from tick t with m to go
pub walk_from_miss : (ks : List Task) (t m : ℕ) → misses ks t ≡ true
    → walk_from ks t m ≡ missed t (late_task t (before ks t))
walk_from_miss ks t zero e = rw e refl
walk_from_miss ks t (suc m) e = rw e refl

pub walk_from_kept : (ks : List Task) (t : ℕ) → misses ks t ≡ false →
    walk_from ks t 0 ≡ kept (over (busy_at ks) 0 t) (over (idle_at ks) 0 t) (over (preempted_at ks) 0 t)
walk_from_kept ks t e = rw e refl

-- ---- before tick 0
fresh_jobs : (k : ℕ → Task) (l d : List ℕ) (i n : ℕ) → ((j : ℕ) → j < i + n → get_or l j 0 ≡ 0)
    → AllAlike (jobs_from k l d i n) (map fresh (tasks_from k i n))
fresh_jobs k l d i zero h = tt
fresh_jobs k l d i (suc n) h =
    let e = h i (omega arith) in
    (record { task = refl; left = e; due = λ x. absurd (omega arith) }, fresh_jobs k l d (suc i) n (λ j x. h j (omega arith)))

pub held_start : {k : ℕ → Task} {ts : List Timing} {s : State} → length ts ≤ 32
    → ((j : ℕ) → j < length ts → Coming (k j) 0 (timing_at ts j).first) → Begun ts s → Held k (length ts) 0 s
held_start {k} {ts} {s} few start b = record {
  jobs = fresh_jobs k s.left s.due 0 (length ts) (λ j x. rw b.left (get_or-replicate {A = ℕ} 32 j 0 0 (omega arith)));
  coming = λ j x. rw (b.due j x) (start j x);
  counts = record {
    busy = b.busy;
    idle = b.idle;
    preempted = b.preempted;
    last = rw b.last (sym (length-tasks k 0 (length ts)));
    inside = rw b.last tt;
  };
}

-- ---- a task that releases a job every p ticks from a on
module _ (a p c : ℕ) where
  pub offset_start : Coming (offset a p c) 0 a
  offset_start = record {
    reached = omega arith;
    quiet = λ u x y. offset-before a p c u y;
    there = offset_there a p c a (omega arith) (ap (λ (x : ℕ). x % p) (sub_self a) ∙ zero-mod p);
  }

  module _ (pos : 0 < p) (some : 0 < c) where
    pub offset_steady : Steady (offset a p c)
    offset_steady = record {
      some = some;
      next = λ u e.
          let w = offset-released a p c u (rw e some) in
          let z : (u + p) - a ≡ (u - a) + p = omega (arith, w.0) in record {
            reached = omega arith;
            quiet = λ v x y. offset-between a p c v (λ q.
                absurd (omega (arith, w.0, multiples_apart p (u - a) (v - a) (omega (arith, w.0)) w.1 q)));
            there = offset_there a p c (u + p) (omega (arith, w.0)) (ap (λ (x : ℕ). x % p) z ∙ add-mod_right (u - a) p ∙ w.1);
          };
    }
