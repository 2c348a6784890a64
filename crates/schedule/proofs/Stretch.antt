-- A stretch of ticks equals its ticks. Between two releases nothing changes but the job that runs: it loses a tick a
-- tick until it is finished; the stretch is busy while a job runs and idle after; and a job is cut short at the first
-- tick or not at all. This holds of all release streams, periodic or not.
-- Assumes nothing.
use Prim.Native.Nat.{ℕ, zero, suc, ◌+◌, ◌-◌, ◌≤◌, ◌<◌, min}
use mathlib.Core.Path.{◌≡◌, refl, sym, ap, ◌∙◌}
use mathlib.Core.Bool.{Bool, true, false, cond, not, ◌&&◌, ◌||◌, and-true, and-false}
use mathlib.Core.List.{List, [], ◌∷◌, map}
use mathlib.Core.Logic.{◌⊎◌, inl, inr, ⊎_elim}
use native.Mathlib.Omega.{arith}
use native.Mathlib.Nat.{zero-add, add-zero, suc-add}
use lib.Dec.{ltb, eqb}
use lib.ListN.{length}
use borrow.Author.Tests.{ltb-true, ltb-false, lt-ltb, le-ltb, eq-eqb}
use Rattle.numbers.specs.Numbers.{All, over}
use Rattle.numbers.proofs.Tests.{bool_cases}
use Rattle.numbers.proofs.Sums.{sum, over-end}
use Rattle.schedule.specs.Walk.{Task, Job, released, release, sooner, pick, work, run, before, late, misses}
use Rattle.schedule.specs.Counted.{ran, count, busy_at, idle_at, left_at, preempted_at, walk_from}
use Rattle.schedule.specs.Stretch.{Going, cuts, stays, ticked, ticks}
use Rattle.schedule.proofs.Picked.{left_of, run_cases, run-left, sooner-left}
use Rattle.schedule.proofs.State.{before-all, length_before, length-released}
use Rattle.schedule.proofs.Done.{busy_or-idle}

-- ---- the job at a place runs for some ticks
abbrev pub work_for : ℕ → List Job → ℕ → List Job
work_for v [] b = []
work_for v (j ∷ js) zero = record { task = j.task; left = j.left - v; due = j.due } ∷ js
work_for v (j ∷ js) (suc b) = j ∷ work_for v js b

abbrev holding : Job → List Job → ℕ → List Job
holding j js l = record { task = j.task; left = l; due = j.due } ∷ js

work-one : (js : List Job) (b : ℕ) → work js b ≡ work_for 1 js b
work-one [] b = refl
work-one (j ∷ js) zero = ap (holding j js) (omega arith)
work-one (j ∷ js) (suc b) = ap (λ (r : List Job). j ∷ r) (work-one js b)

work-more : (v : ℕ) (js : List Job) (b : ℕ) → work_for 1 (work_for v js b) b ≡ work_for (suc v) js b
work-more v [] b = refl
work-more v (j ∷ js) zero = ap (holding j js) (omega arith)
work-more v (j ∷ js) (suc b) = ap (λ (r : List Job). j ∷ r) (work-more v js b)

length-work : (v : ℕ) (js : List Job) (b : ℕ) → length (work_for v js b) ≡ length js
length-work v [] b = refl
length-work v (j ∷ js) zero = refl
length-work v (j ∷ js) (suc b) = ap suc (length-work v js b)

left-work : (v : ℕ) (js : List Job) (b : ℕ) → left_at (work_for v js b) b ≡ left_at js b - v
left-work v [] b = omega arith
left-work v (j ∷ js) zero = refl
left-work v (j ∷ js) (suc b) = left-work v js b

pub left_past : (js : List Job) (b : ℕ) → length js ≤ b → left_at js b ≡ 0
left_past [] b h = refl
left_past (j ∷ js) zero h = absurd (omega arith)
left_past (j ∷ js) (suc b) h = left_past js b (omega arith)

work_past : (js : List Job) (b : ℕ) → length js ≤ b → work js b ≡ js
work_past [] b h = refl
work_past (j ∷ js) zero h = absurd (omega arith)
work_past (j ∷ js) (suc b) h = ap (λ (r : List Job). j ∷ r) (work_past js b (omega arith))

-- A job that has run less than its ticks left is unfinished, so the pick stands.
sooner_stands : (v d : ℕ) (js : List Job) (b : ℕ) → v < left_at js b → sooner d (work_for v js b) ≡ sooner d js
sooner_stands v d [] b h = refl
sooner_stands v d (j ∷ js) zero h = rw (lt-ltb 0 (j.left - v) (omega arith), lt-ltb 0 j.left (omega arith)) refl
sooner_stands v d (j ∷ js) (suc b) h = ap (λ (x : Bool). (ltb 0 j.left && ltb j.due d) || x) (sooner_stands v d js b h)

pick_stands : (v : ℕ) (js : List Job) (b : ℕ) → v < left_at js b → pick (work_for v js b) ≡ pick js
pick_stands v [] b h = refl
pick_stands v (j ∷ js) zero h = rw (lt-ltb 0 (j.left - v) (omega arith), lt-ltb 0 j.left (omega arith)) refl
pick_stands v (j ∷ js) (suc b) h = rw (sooner_stands v j.due js b h, pick_stands v js b h) refl

-- A place that is picked is that of an unfinished job.
pub pick-left : (js : List Job) → pick js < length js → 0 < left_at js (pick js)
pick-left [] h = absurd (omega arith)
pick-left (j ∷ js) h =
    ⊎_elim (λ w. rw w.0 w.1) (λ w. rw w.0 (pick-left js (omega (arith, w.0)))) (run_cases j js)

-- ---- what a walk holds
pub same_going : {js js' : List Job} {b b' i i' p p' l l' : ℕ} → js ≡ js' → b ≡ b' → i ≡ i' → p ≡ p' → l ≡ l' →
    ◌≡◌ {A = Going} (record { jobs = js; busy = b; idle = i; preempted = p; last = l }) (record { jobs = js'; busy = b'; idle = i'; preempted = p'; last = l' })
same_going e f g h k = rw (e, f, g, h, k) refl

pub ticks_join : (m r : ℕ) (g : Going) → ticks (m + r) g ≡ ticks r (ticks m g)
ticks_join zero r g = ap (λ (x : ℕ). ticks x g) (zero-add r)
ticks_join (suc m) r g = ap (λ (x : ℕ). ticks x g) (suc-add m r) ∙ ticks_join m r (ticked g)

ticks-end : (m : ℕ) (g : Going) → ticks (suc m) g ≡ ticked (ticks m g)
ticks-end zero g = refl
ticks-end (suc m) g = ticks-end m (ticked g)

-- ---- where no job is cut short, and that one at most is
cuts-none : (n b last : ℕ) → (n ≤ b) ⊎ ((n ≤ last) ⊎ (b ≡ last)) → cuts n b last ≡ 0
unfolding cuts
cuts-none n b last (inl h) = rw (le-ltb b n h) refl
cuts-none n b last (inr (inl h)) = rw (le-ltb last n h, and-false (ltb b n)) refl
cuts-none n b last (inr (inr h)) = rw (eq-eqb b last h, and-false (ltb last n), and-false (ltb b n)) refl

pub count_few : (b : Bool) → count b ≤ 1
count_few true = omega arith
count_few false = omega arith

cuts_few : (n b last : ℕ) → cuts n b last ≤ 1
unfolding cuts
cuts_few n b last = count_few (ltb b n && (ltb last n && not (eqb b last)))

-- ---- ticks in which the same job runs
-- The job at b has run for v ticks: one preemption at most, at the first of them.
abbrev pub ran_for : ℕ → ℕ → Going → Going
ran_for v b g = record {
  jobs = work_for v g.jobs b;
  busy = g.busy + v;
  idle = g.idle;
  preempted = g.preempted + cuts (length g.jobs) b g.last;
  last = cond (ltb v (left_at g.jobs b)) b (length g.jobs);
}

pub more_left : (v l : ℕ) → ltb 0 (l - v) ≡ ltb v l
more_left v l =
    ⊎_elim
    (λ e. let h = ltb-true v l e in rw e (lt-ltb 0 (l - v) (omega arith)))
    (λ e. let h = ltb-false v l e in rw e (le-ltb 0 (l - v) (omega arith)))
    (bool_cases (ltb v l))

-- A place with ticks left is one of the list's.
pub in_list : (js : List Job) (b : ℕ) → 0 < left_at js b → b < length js
in_list js b h =
    ⊎_elim (λ e. ltb-true b (length js) e) (λ e. absurd (omega (arith, left_past js b (ltb-false b (length js) e)))) (bool_cases (ltb b (length js)))

ticked_busy : (g : Going) (b : ℕ) → pick g.jobs ≡ b → 0 < left_at g.jobs b → ticked g ≡ ran_for 1 b g
ticked_busy g b e h =
    let js = g.jobs in
    let n = length js in
    let test : ltb b n ≡ true = lt-ltb b n (in_list js b h) in
    same_going (rw e (work-one js b)) (rw (e, test) refl) (rw (e, test) (add-zero g.idle)) (rw e refl)
    (rw (e, work-one js b, left-work 1 js b, more_left 1 (left_at js b)) refl)

ticked_again : (g : Going) (b v : ℕ) → pick g.jobs ≡ b → 0 < v → v < left_at g.jobs b → ticked (ran_for v b g) ≡ ran_for (suc v) b g
ticked_again g b v e p h =
    let js = g.jobs in
    let n = length js in
    let l = left_at js b in
    let size = length-work v js b in
    let less : l - v - 1 ≡ l - suc v = omega arith in
    ticked_busy (ran_for v b g) b (pick_stands v js b h ∙ e) (omega (arith, left-work v js b)) ∙
    same_going (work-more v js b) (omega arith) refl
    (rw (size, lt-ltb v l h) (omega (arith, cuts-none n b b (inr (inr refl)))))
    (rw (size, left-work v js b) (ap (λ (x : Bool). cond x b n) (sym (more_left 1 (l - v)) ∙ ap (ltb 0) less ∙ more_left (suc v) l)))

-- So many ticks, at most those that the picked job has left.
pub ticks_busy : (g : Going) (b v : ℕ) → pick g.jobs ≡ b → v < left_at g.jobs b → ticks (suc v) g ≡ ran_for (suc v) b g
ticks_busy g b zero e h = ticked_busy g b e h
ticks_busy g b (suc v) e h =
    ticks-end (suc v) g ∙ ap ticked (ticks_busy g b v e (omega arith)) ∙ ticked_again g b (suc v) e (omega arith) h

-- ---- ticks in which no job runs
abbrev pub idled_for : ℕ → Going → Going
idled_for v g = record { jobs = g.jobs; busy = g.busy; idle = g.idle + v; preempted = g.preempted; last = length g.jobs }

ticked-idle : (g : Going) → length g.jobs ≤ pick g.jobs → ticked g ≡ idled_for 1 g
ticked-idle g h =
    let js = g.jobs in
    let n = length js in
    let b = pick js in
    let test : ltb b n ≡ false = le-ltb b n h in
    let same = work_past js b h in
    same_going same (rw test (add-zero g.busy)) (rw test refl)
    (omega (arith, cuts-none n b g.last (inl h)))
    (rw (same, left_past js b h) refl)

pub ticks-idle : (g : Going) (v : ℕ) → length g.jobs ≤ pick g.jobs → ticks (suc v) g ≡ idled_for (suc v) g
ticks-idle g zero h = ticked-idle g h
ticks-idle g (suc v) h =
    ticks-end (suc v) g ∙ ap ticked (ticks-idle g v h) ∙ ticked-idle (idled_for (suc v) g) h ∙ same_going refl refl (omega arith) refl refl

-- ---- a whole stretch
-- Where no job is picked, none has ticks left.
idle-none : (js : List Job) → length js ≤ pick js → sum left_of js ≡ 0
idle-none [] h = refl
idle-none (j ∷ js) h =
    ⊎_elim
    (λ w. absurd (omega (arith, w.0)))
    (λ w.
    let z = idle-none js (omega (arith, w.0)) in
    ⊎_elim (λ a. omega arith) (λ a. absurd (omega (arith, sooner-left j.due js a))) w.1)
    (run_cases j js)

-- One tick is busy if and only if work is left, and takes a tick of it.
one_busy : (js : List Job) →
    (count (ltb (pick js) (length js)) ≡ min 1 (sum left_of js)) × (sum left_of (run js) ≡ sum left_of js - 1) ×
    (count (not (ltb (pick js) (length js))) ≡ 1 - sum left_of js)
one_busy js =
    let r = run-left js in
    ⊎_elim
    (λ e. let q = rw e at r in rw e (omega (arith, q), omega (arith, q), omega (arith, q)))
    (λ e.
    let q = rw e at r in
    let z = idle-none js (ltb-false (pick js) (length js) e) in
    rw e (omega (arith, z), omega (arith, q, z), omega (arith, z)))
    (bool_cases (ltb (pick js) (length js)))

-- It is busy while work is left, and idle after.
ticks-work : (m : ℕ) (g : Going) →
    ((ticks m g).busy ≡ g.busy + min m (sum left_of g.jobs)) × ((ticks m g).idle ≡ g.idle + (m - sum left_of g.jobs))
ticks-work zero g = (omega arith, omega arith)
ticks-work (suc m) g =
    let o = one_busy g.jobs in
    let r = ticks-work m (ticked g) in
    (omega (arith, o, r), omega (arith, o, r))

-- A tick after another, with no release between them, cuts no job short: the one that ran runs on, or is finished.
no_cut : (g : Going) → cuts (length (ticked g).jobs) (pick (ticked g).jobs) (ticked g).last ≡ 0
no_cut g =
    let js = g.jobs in
    let b = pick js in
    let one = work-one js b in
    let l = left-work 1 js b in
    cuts-none (length (run js)) (pick (run js)) (stays (length js) (run js) b)
    (⊎_elim
    (λ e.
    let h = ltb-true 0 (left_at (run js) b) e in
    inr (inr (rw (e, one) (pick_stands 1 js b (omega (arith, h, rw (← one) at l))))))
    (λ (e : ltb 0 (left_at (run js) b) ≡ false). inr (inl (rw e (omega (arith, ap length one, length-work 1 js b)))))
    (bool_cases (ltb 0 (left_at (run js) b))))

-- So one job at most is cut short, at the first tick.
ticks_cut : (m : ℕ) (g : Going) → (ticks (suc m) g).preempted ≡ g.preempted + cuts (length g.jobs) (pick g.jobs) g.last
ticks_cut zero g = refl
ticks_cut (suc m) g = omega (arith, ticks_cut m (ticked g), no_cut g)

-- No count passes the number of ticks.
pub record Fits (t : ℕ) (g : Going) : Type 0 where
  pub busy : g.busy ≤ t
  pub idle : g.idle ≤ t
  pub preempted : g.preempted ≤ t

pub ticks_fit : (m t : ℕ) (g : Going) → Fits t g → Fits (t + m) (ticks m g)
ticks_fit m t g f =
    let w = ticks-work m g in
    record { busy = omega (arith, w, f.busy); idle = omega (arith, w, f.idle); preempted = preempted_fit m t g f.preempted }
  where
    preempted_fit : (m t : ℕ) (g : Going) → g.preempted ≤ t → (ticks m g).preempted ≤ t + m
    preempted_fit zero t g h = omega arith
    preempted_fit (suc m) t g h = omega (arith, ticks_cut m g, cuts_few (length g.jobs) (pick g.jobs) g.last)

-- ---- the walk's own ticks
-- The place of the job of the tick before t where it is unfinished, else the number of tasks.
abbrev pub pending : List Task → ℕ → ℕ
pending ks zero = length ks
pending ks (suc t) = stays (length ks) (before ks (suc t)) (ran ks t)

-- Before tick t's jobs run: the counts of the ticks before it.
abbrev pub going_at : List Task → ℕ → List Job → Going
going_at ks t js = record {
  jobs = js;
  busy = over (busy_at ks) 0 t;
  idle = over (idle_at ks) 0 t;
  preempted = over (preempted_at ks) 0 t;
  last = pending ks t;
}

-- The definition's preemption, by what is pending.
pub cut_cases : (n a b : ℕ) (z : Bool) → (z ≡ true → b < n) → count (ltb a n && (not (eqb a b) && z)) ≡ cuts n a (cond z b n)
unfolding cuts
cut_cases n a b true h = rw (lt-ltb b n (h refl), and-true (not (eqb a b))) refl
cut_cases n a b false h = rw (le-ltb n n (omega arith), and-false (not (eqb a b))) refl

preempted_is : (ks : List Task) (t : ℕ) → preempted_at ks t ≡ cuts (length ks) (ran ks t) (pending ks t)
preempted_is ks zero = sym (cuts-none (length ks) (ran ks zero) (length ks) (inr (inl (omega arith))))
preempted_is ks (suc t) =
    let b = ran ks t in
    cut_cases (length ks) (ran ks (suc t)) b (ltb 0 (left_at (before ks (suc t)) b))
    (λ e. omega (arith, in_list (before ks (suc t)) b (ltb-true 0 _ e), length_before ks (suc t)))

over-more : (f : ℕ → ℕ) (t : ℕ) → over f 0 t + f t ≡ over f 0 (suc t)
over-more f t = sym (over-end f 0 t ∙ ap (λ (x : ℕ). over f 0 t + f x) (zero-add t))

-- One tick is the definition's.
pub one_tick : (ks : List Task) (t : ℕ) → ticked (going_at ks t (map (release t) (before ks t))) ≡ going_at ks (suc t) (before ks (suc t))
one_tick ks t =
    rw (length-released ks t)
    (same_going refl (over-more (busy_at ks) t) (over-more (idle_at ks) t)
    (ap (λ (x : ℕ). over (preempted_at ks) 0 t + x) (sym (preempted_is ks t)) ∙ over-more (preempted_at ks) t) refl)

-- ---- ticks without a release
abbrev pub Quiet : List Task → ℕ → Type 0
Quiet ks t = All (λ k. k.arrives t ≡ 0) ks

none-released : (t : ℕ) (js : List Job) → All (λ j. j.task.arrives t ≡ 0) js → map (release t) js ≡ js
none-released t [] a = refl
none-released t (j ∷ js) a =
    ap (λ (x : Job). x ∷ map (release t) js) (ap (released t j) a.0) ∙ ap (λ (r : List Job). j ∷ r) (none-released t js a.1)

none-late : (t : ℕ) (js : List Job) → All (λ j. j.task.arrives t ≡ 0) js → late t js ≡ false
none-late t [] a = refl
none-late t (j ∷ js) a = rw a.0 (none-late t js a.1)

quiet_jobs : (ks : List Task) (t : ℕ) → Quiet ks t → All (λ j. j.task.arrives t ≡ 0) (before ks t)
quiet_jobs ks t q = before-all (λ k. k.arrives t ≡ 0) ks q t

-- THE STRETCH, from the releases of tick t on: its end is what its ticks make of it.
pub stretch : (ks : List Task) (t m : ℕ) → ((u : ℕ) → t < u → u < t + suc m → Quiet ks u) →
    ticks (suc m) (going_at ks t (map (release t) (before ks t))) ≡ going_at ks (t + suc m) (before ks (t + suc m))
stretch ks t zero q = let e : suc t ≡ t + 1 = omega arith in one_tick ks t ∙ ap (λ (x : ℕ). going_at ks x (before ks x)) e
stretch ks t (suc m) q =
    let here = none-released (suc t) (before ks (suc t)) (quiet_jobs ks (suc t) (q (suc t) (omega arith) (omega arith))) in
    let e : suc t + suc m ≡ t + suc (suc m) = omega arith in
    ap (ticks (suc m)) (one_tick ks t ∙ ap (going_at ks (suc t)) (sym here)) ∙
    stretch ks (suc t) m (λ u a b. q u (omega arith) (omega arith)) ∙
    ap (λ (x : ℕ). going_at ks x (before ks x)) e

-- Its counts: it is busy as long as the work lasts that is left after the releases of tick t, and idle after; and its
-- preemptions are those of its first tick, one at most.
pub record StretchCounts (ks : List Task) (t m work : ℕ) : Type 0 where
  pub busy : over (busy_at ks) 0 (t + suc m) ≡ over (busy_at ks) 0 t + min (suc m) work
  pub idle : over (idle_at ks) 0 (t + suc m) ≡ over (idle_at ks) 0 t + (suc m - work)
  pub preempted : over (preempted_at ks) 0 (t + suc m) ≡ over (preempted_at ks) 0 t + preempted_at ks t

pub stretch_counts : (ks : List Task) (t m : ℕ) → ((u : ℕ) → t < u → u < t + suc m → Quiet ks u) →
    StretchCounts ks t m (sum left_of (map (release t) (before ks t)))
stretch_counts ks t m q =
    let g = going_at ks t (map (release t) (before ks t)) in
    let e = sym (stretch ks t m q) in
    let w = ticks-work (suc m) g in
    record {
      busy = ap (λ (h : Going). h.busy) e ∙ w.0;
      idle = ap (λ (h : Going). h.idle) e ∙ w.1;
      preempted = ap (λ (h : Going). h.preempted) e ∙ ticks_cut m g ∙
          ap (λ (x : ℕ). over (preempted_at ks) 0 t + x) (rw (length-released ks t) (sym (preempted_is ks t)));
    }

-- Nothing is missed in it, so the walk goes on at its end.
pub walk_on : (ks : List Task) (t m r : ℕ) → misses ks t ≡ false → ((u : ℕ) → t < u → u < t + suc m → Quiet ks u) →
    walk_from ks t (suc m + r) ≡ walk_from ks (t + suc m) r
walk_on ks t zero r e q = rw (suc-add 0 r, zero-add r, e) (ap (λ (x : ℕ). walk_from ks x r) (omega arith))
walk_on ks t (suc m) r e q =
    rw (suc-add (suc m) r, e)
    (walk_on ks (suc t) m r (none-late (suc t) (before ks (suc t)) (quiet_jobs ks (suc t) (q (suc t) (omega arith) (omega arith))))
    (λ u a b. q u (omega arith) (omega arith)) ∙
    ap (λ (x : ℕ). walk_from ks x r) (omega arith))

-- ---- no count passes its tick
preempted_few : (ks : List Task) (t n : ℕ) → over (preempted_at ks) t n ≤ n
preempted_few ks t zero = omega arith
preempted_few ks t (suc n) =
    omega (arith, preempted_is ks t, cuts_few (length ks) (ran ks t) (pending ks t), preempted_few ks (suc t) n)

pub counts_fit : (ks : List Task) (t : ℕ) (js : List Job) → Fits t (going_at ks t js)
counts_fit ks t js = record {
  busy = omega (arith, busy_or-idle ks 0 t);
  idle = omega (arith, busy_or-idle ks 0 t);
  preempted = preempted_few ks 0 t;
}
