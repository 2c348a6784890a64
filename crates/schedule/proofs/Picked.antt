-- What one tick of earliest-deadline-first does to the work that is due by a tick D: if there is any, it takes one tick
-- of it.
-- Assumes nothing.
use Prim.Native.Nat.{ℕ, zero, suc, pred, ◌+◌, ◌≤◌, ◌<◌}
use mathlib.Core.Path.{◌≡◌, refl, sym, ap}
use mathlib.Core.Bool.{Bool, true, false, cond, not, ◌&&◌, true≢false}
use mathlib.Core.List.{List, [], ◌∷◌, map}
use mathlib.Core.Logic.{◌⊎◌, inl, inr, ⊎_elim}
use native.Mathlib.Omega.{arith}
use lib.Dec.{ltb, leb, leb-suc-suc}
use lib.ListN.{length}
use borrow.Author.Tests.{ltb-true, ltb-false, leb-true, leb-false, lt-ltb, not-true, not-false}
use Rattle.numbers.proofs.Sums.{sum}
use Rattle.numbers.proofs.Tests.{bool_cases, or_true, or_false, and-true, and-false}
use Rattle.schedule.specs.Walk.{Task, Job, sooner, pick, work, run}
use Rattle.schedule.specs.Counted.{count}

-- the ticks left of a job, where its deadline is D or before
abbrev pub held : ℕ → Job → ℕ
held D j = cond (leb j.due D) j.left 0

abbrev pub left_of : Job → ℕ
left_of j = j.left

abbrev less : Job → Job
less j = record { task = j.task; left = pred j.left; due = j.due }

pub held_cases : (D : ℕ) (j : Job) → ((j.due ≤ D) × (held D j ≡ j.left)) ⊎ ((D < j.due) × (held D j ≡ 0))
held_cases D j =
    ⊎_elim
    (λ e. inl (leb-true j.due D e, ap (λ (b : Bool). cond b j.left 0) e))
    (λ e. inr (leb-false j.due D e, ap (λ (b : Bool). cond b j.left 0) e))
    (bool_cases (leb j.due D))

-- the same of the job with one tick less, in the fields of the job (`omega` takes `(less j).left` for an unknown)
less_cases : (D : ℕ) (j : Job) → ((j.due ≤ D) × (held D (less j) ≡ pred j.left)) ⊎ ((D < j.due) × (held D (less j) ≡ 0))
less_cases D j = held_cases D (less j)

sooner-none : (d D : ℕ) (js : List Job) → sooner d js ≡ false → D < d → sum (held D) js ≡ 0
sooner-none d D [] h lt = refl
sooner-none d D (j ∷ js) h lt =
    let o = or_false (ltb 0 j.left && ltb j.due d) (sooner d js) h in
    let r = sooner-none d D js o.1 lt in
    ⊎_elim
    (λ a. let z = ltb-false 0 j.left a in ⊎_elim (λ w. omega arith) (λ w. omega arith) (held_cases D j))
    (λ a. let z = ltb-false j.due d a in ⊎_elim (λ w. omega arith) (λ w. omega arith) (held_cases D j))
    (and-false (ltb 0 j.left) (ltb j.due d) o.0)

sooner_some : (d D : ℕ) (js : List Job) → sooner d js ≡ true → d ≤ D → 0 < sum (held D) js
sooner_some d D [] h lt = absurd (true≢false (sym h))
sooner_some d D (j ∷ js) h lt =
    ⊎_elim
    (λ a.
    let o = and-true (ltb 0 j.left) (ltb j.due d) a in
    let x = ltb-true 0 j.left o.0 in
    let y = ltb-true j.due d o.1 in
    ⊎_elim (λ w. omega arith) (λ w. omega arith) (held_cases D j))
    (λ a. omega (arith, sooner_some d D js a lt))
    (or_true (ltb 0 j.left && ltb j.due d) (sooner d js) h)

pub sooner-left : (d : ℕ) (js : List Job) → sooner d js ≡ true → 0 < sum left_of js
sooner-left d [] h = absurd (true≢false (sym h))
sooner-left d (j ∷ js) h =
    ⊎_elim
    (λ a. let x = ltb-true 0 j.left (and-true (ltb 0 j.left) (ltb j.due d) a).0 in omega arith)
    (λ a. omega (arith, sooner-left d js a))
    (or_true (ltb 0 j.left && ltb j.due d) (sooner d js) h)

-- The pick at the first job of a list: it runs, or the pick is among the others.
pub run_cases : (j : Job) (js : List Job) →
    ((pick (j ∷ js) ≡ zero) × (0 < j.left) × (sooner j.due js ≡ false)) ⊎
    ((pick (j ∷ js) ≡ suc (pick js)) × ((j.left ≤ 0) ⊎ (sooner j.due js ≡ true)))
run_cases j js =
    ⊎_elim
    (λ e.
    let o = and-true (ltb 0 j.left) (not (sooner j.due js)) e in
    inl (ap (λ (b : Bool). cond b zero (suc (pick js))) e, ltb-true 0 j.left o.0, not-true (sooner j.due js) o.1))
    (λ e. inr (
      ap (λ (b : Bool). cond b zero (suc (pick js))) e,
      ⊎_elim (λ a. inl (ltb-false 0 j.left a)) (λ a. inr (not-false (sooner j.due js) a)) (and-false (ltb 0 j.left) (not (sooner j.due js)) e),
    ))
    (bool_cases (ltb 0 j.left && not (sooner j.due js)))

-- If work is due by D, a tick takes one tick of it.
pub run-held : (D : ℕ) (js : List Job) → 0 < sum (held D) js → suc (sum (held D) (run js)) ≤ sum (held D) js
run-held D [] h = h
run-held D (j ∷ js) h =
    ⊎_elim
    (λ w. rw w.0 (⊎_elim
    (λ v. ⊎_elim (λ u. omega arith) (λ u. omega arith) (less_cases D j))
    (λ v. let z = sooner-none j.due D js w.2 v.0 in omega arith)
    (held_cases D j)))
    (λ w. rw w.0 (⊎_elim
    (λ (v : j.left ≤ 0). ⊎_elim (λ u. omega (arith, run-held D js (omega arith))) (λ u. omega (arith, run-held D js (omega arith))) (held_cases D j))
    (λ v. ⊎_elim (λ u. omega (arith, run-held D js (sooner_some j.due D js v u.0))) (λ u. omega (arith, run-held D js (omega arith))) (held_cases D j))
    w.1))
    (run_cases j js)

less-held : (D : ℕ) (j : Job) → held D (less j) ≤ held D j
less-held D j =
    ⊎_elim
    (λ v. ⊎_elim (λ u. omega arith) (λ u. omega arith) (less_cases D j))
    (λ v. ⊎_elim (λ u. omega arith) (λ u. omega arith) (less_cases D j))
    (held_cases D j)

-- A tick adds none.
pub work-held : (D : ℕ) (js : List Job) (n : ℕ) → sum (held D) (work js n) ≤ sum (held D) js
work-held D [] n = omega arith
work-held D (j ∷ js) zero = omega (arith, less-held D j)
work-held D (j ∷ js) (suc n) = omega (arith, work-held D js n)

-- A busy tick takes one tick of all that is left, an idle one none.
pub run-left : (js : List Job) → count (ltb (pick js) (length js)) + sum left_of (run js) ≡ sum left_of js
run-left [] = refl
run-left (j ∷ js) =
    ⊎_elim
    (λ w. rw (w.0, lt-ltb 0 (suc (length js)) (omega arith)) (one_less (left_of j) (left_of (less j)) (sum left_of js) w.1 refl))
    (λ w. rw (w.0, leb-suc-suc (suc (pick js)) (length js)) (omega (arith, run-left js)))
    (run_cases j js)
  where
    one_less : (l m r : ℕ) → 0 < l → m ≡ pred l → 1 + (m + r) ≡ l + r
    one_less l m r h e = omega arith

-- Tasks stay as they are.
pub work-task : (js : List Job) (n : ℕ) → map (λ j. j.task) (work js n) ≡ map (λ j. j.task) js
work-task [] n = refl
work-task (j ∷ js) zero = refl
work-task (j ∷ js) (suc n) = ap (λ (l : List Task). j.task ∷ l) (work-task js n)
