-- Earliest deadline first is enough: sporadic tasks within the capacity keep every deadline for ever, whatever their
-- releases. The invariant: before tick t, for every d, the work that is due by t + d, with the work still to come that
-- is due by then, is at most d.
-- Assumes nothing.
use Prim.Native.Nat.{ℕ, zero, suc, ◌+◌, ◌-◌, ◌≤◌, ◌<◌}
use mathlib.Core.Path.{◌≡◌, refl, sym, ◌∙◌}
use mathlib.Core.Bool.{false, ◌&&◌, true≢false}
use mathlib.Core.List.{List, [], ◌∷◌, map}
use mathlib.Core.Logic.{⊎_elim}
use native.Mathlib.Omega.{arith}
use native.Mathlib.Nat.{eq-zero-or-pos, add-zero}
use lib.Dec.{ltb}
use borrow.Author.Tests.{ltb-true}
use Rattle.numbers.specs.Numbers.{All}
use Rattle.numbers.proofs.Sums.{sum}
use Rattle.numbers.proofs.Tests.{bool_cases, or_true, and-true, lt_or_le}
use Rattle.schedule.specs.Walk.{Task, Job, fresh, released, release, work, pick, before, late, KeepsForEver}
use Rattle.schedule.proofs.Picked.{held, held_cases, run-held, work-held}
use Rattle.schedule.proofs.Demand.{Sporadic, Shares, Capacity, coming, load, fits_capacity, all_sporadic}
use Rattle.schedule.proofs.State.{sum-tasks, before-all}

-- ---- a release moves work from what comes to what is held
released-held : (D t : ℕ) (j : Job) (e : ℕ) → held D (released t j e) ≤ held D j + e
released-held D t j zero = omega arith
released-held D t j (suc e) = ⊎_elim (λ w. omega arith) (λ w. omega arith) (held_cases D (released t j (suc e)))

released-later : (D t : ℕ) (j : Job) (e : ℕ) → D < t + j.task.period → held D (released t j e) ≤ held D j
released-later D t j zero h = omega arith
released-later D t j (suc e) h = ⊎_elim (λ w. omega arith) (λ w. omega arith) (held_cases D (released t j (suc e)))

release-held : (t d : ℕ) (j : Job) →
    held (t + suc d) (release t j) + coming j.task (suc t) d ≤ held (t + suc d) j + coming j.task t (suc d)
release-held t d j =
    ⊎_elim
    (λ (h : suc d < j.task.period).
    let e : suc d - j.task.period ≡ 0 = omega arith in
    rw e (omega (arith, released-later (t + suc d) t j (j.task.arrives t) (omega arith))))
    (λ (h : j.task.period ≤ suc d).
    let e : suc (suc d) - j.task.period ≡ suc (suc d - j.task.period) = omega arith in
    rw e (omega (arith, released-held (t + suc d) t j (j.task.arrives t))))
    (lt_or_le (suc d) j.task.period)

releases_held : (t d : ℕ) (js : List Job) →
    sum (held (t + suc d)) (map (release t) js) + sum (λ j. coming j.task (suc t) d) js ≤
    sum (held (t + suc d)) js + sum (λ j. coming j.task t (suc d)) js
releases_held t d [] = omega arith
releases_held t d (j ∷ js) = omega (arith, release-held t d j, releases_held t d js)

fresh-held : (D : ℕ) (ks : List Task) → sum (held D) (map fresh ks) ≡ 0
fresh-held D [] = refl
fresh-held D (k ∷ ks) = ⊎_elim (λ w. omega (arith, fresh-held D ks)) (λ w. omega (arith, fresh-held D ks)) (held_cases D (fresh k))

module _ (ks : List Task) (capacity : Capacity ks) where
  in_time : (t d : ℕ) → sum (held (t + d)) (before ks t) + sum (λ k. coming k t d) ks ≤ d
  in_time zero d = omega (arith, fresh-held (0 + d) ks, capacity 0 d)
  in_time (suc t) d =
      let js = map (release t) (before ks t) in
      let e : suc t + d ≡ t + suc d = omega arith in
      let a = sum-tasks (λ k. coming k (suc t) d) ks t in
      let b = sum-tasks (λ k. coming k t (suc d)) ks t in
      let r = releases_held t d (before ks t) in
      let i = in_time t (suc d) in
      let f = capacity (suc t) d in
      rw e (⊎_elim
      (λ (z : sum (held (t + suc d)) js ≡ 0). omega (arith, work-held (t + suc d) js (pick js)))
      (λ (z : 0 < sum (held (t + suc d)) js). omega (arith, run-held (t + suc d) js z))
      (eq-zero-or-pos (sum (held (t + suc d)) js)))

  -- Nothing unfinished is due at t or before.
  pub none_due : (t : ℕ) → sum (held t) (before ks t) ≡ 0
  none_due t =
      let h = in_time t 0 in
      let e : t + 0 ≡ t = add-zero t in
      omega (arith, rw e at h)

-- ---- a release comes at the deadline of the job before it, or later
-- from t on, the task of the job releases nothing before the job's deadline
abbrev Ready : ℕ → Job → Type 0
Ready t j = (u : ℕ) → t ≤ u → 0 < j.task.arrives u → j.due ≤ u

released_ready : (t : ℕ) (j : Job) (e : ℕ) → Sporadic j.task → j.task.arrives t ≡ e → Ready t j → Ready (suc t) (released t j e)
released_ready t j zero s q r u h a = r u (omega arith) a
released_ready t j (suc e) s q r u h a = s.apart t u h (omega arith) a

release_ready : (t : ℕ) (js : List Job) → All (λ j. Sporadic j.task) js → All (Ready t) js → All (Ready (suc t)) (map (release t) js)
release_ready t [] s r = tt
release_ready t (j ∷ js) s r = (released_ready t j (j.task.arrives t) s.0 refl r.0, release_ready t js s.1 r.1)

work_ready : (t : ℕ) (js : List Job) (n : ℕ) → All (Ready t) js → All (Ready t) (work js n)
work_ready t [] n r = tt
work_ready t (j ∷ js) zero r = r
work_ready t (j ∷ js) (suc n) r = (r.0, work_ready t js n r.1)

fresh_ready : (ks : List Task) → All (Ready 0) (map fresh ks)
fresh_ready [] = tt
fresh_ready (k ∷ ks) = (λ u h a. omega arith, fresh_ready ks)

before_ready : (ks : List Task) → All Sporadic ks → (t : ℕ) → All (Ready t) (before ks t)
before_ready ks a zero = fresh_ready ks
before_ready ks a (suc t) =
    work_ready (suc t) (map (release t) (before ks t)) (pick (map (release t) (before ks t)))
    (release_ready t (before ks t) (before-all Sporadic ks a t) (before_ready ks a t))

not_late : (t : ℕ) (js : List Job) → All (Ready t) js → sum (held t) js ≡ 0 → late t js ≡ false
not_late t [] r z = refl
not_late t (j ∷ js) r z =
    ⊎_elim
    (λ e. absurd (⊎_elim
    (λ a.
    let o = and-true (ltb 0 (j.task.arrives t)) (ltb 0 j.left) a in
    let x = ltb-true 0 (j.task.arrives t) o.0 in
    let y = ltb-true 0 j.left o.1 in
    let d = r.0 t (omega arith) x in
    ⊎_elim (λ w. omega arith) (λ w. omega arith) (held_cases t j))
    (λ a. true≢false (sym a ∙ not_late t js r.1 (omega arith)))
    (or_true (ltb 0 (j.task.arrives t) && ltb 0 j.left) (late t js) e)))
    (λ e. e)
    (bool_cases (late t (j ∷ js)))

pub capacity_keeps : (ks : List Task) → All Sporadic ks → Capacity ks → KeepsForEver ks
capacity_keeps ks a c t = not_late t (before ks t) (before_ready ks a t) (none_due ks c t)

-- Sporadic tasks whose loads over L add up to at most L keep every deadline for ever.
pub fits_keeps : (L : ℕ) (ks : List Task) → 0 < L → All (Shares L) ks → sum (load L) ks ≤ L → KeepsForEver ks
fits_keeps L ks pos a fits = capacity_keeps ks (all_sporadic L ks a) (fits_capacity L ks pos a fits)
