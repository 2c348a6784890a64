-- Jobs that agree in all that the walk looks at: the task, the ticks left and, where ticks are left, the deadline.
-- Assumes nothing.
use Prim.Native.Nat.{ℕ, zero, suc, pred, ◌+◌, ◌<◌}
use mathlib.Core.Path.{◌≡◌, refl, sym, ap, subst, ◌∙◌}
use mathlib.Core.Bool.{Bool, true, false, cond, not, ◌&&◌, ◌||◌}
use mathlib.Core.List.{List, [], ◌∷◌, map}
use native.Mathlib.Omega.{arith}
use lib.Dec.{ltb}
use lib.ListN.{length}
use borrow.Author.Tests.{ltb-true}
use Rattle.schedule.specs.Walk.{Task, Job, released, release, sooner, pick, work, run, late}
use Rattle.schedule.specs.Counted.{left_at, late_task}
use Rattle.schedule.specs.Stretch.{Going, ticked, ticks}

pub record Alike (i j : Job) : Type 0 where
  pub task : i.task ≡ j.task
  pub left : i.left ≡ j.left
  pub due : 0 < i.left → i.due ≡ j.due

abbrev pub AllAlike : List Job → List Job → Type 0
AllAlike [] [] = Unit {0}
AllAlike [] (j ∷ js) = ⊥
AllAlike (i ∷ is) [] = ⊥
AllAlike (i ∷ is) (j ∷ js) = Alike i j × AllAlike is js

-- ---- what the walk asks of them is the same
-- A test of the deadline is made only where ticks are left.
both : (x y y' : Bool) → (x ≡ true → y ≡ y') → (x && y) ≡ (x && y')
both true y y' h = h refl
both false y y' h = refl

test_alike : (f : ℕ → Bool) (i j : Job) → Alike i j → (ltb 0 i.left && f i.due) ≡ (ltb 0 j.left && f j.due)
test_alike f i j a =
    both (ltb 0 i.left) (f i.due) (f j.due) (λ x. ap f (a.due (ltb-true 0 i.left x))) ∙ ap (λ (l : ℕ). ltb 0 l && f j.due) a.left

sooner-alike : (d : ℕ) (is js : List Job) → AllAlike is js → sooner d is ≡ sooner d js
sooner-alike d [] [] a = refl
sooner-alike d [] (j ∷ js) a = absurd a
sooner-alike d (i ∷ is) [] a = absurd a
sooner-alike d (i ∷ is) (j ∷ js) a =
    ap (λ (x : Bool). x || sooner d is) (test_alike (λ e. ltb e d) i j a.0) ∙
    ap (λ (x : Bool). (ltb 0 j.left && ltb j.due d) || x) (sooner-alike d is js a.1)

pick-alike : (is js : List Job) → AllAlike is js → pick is ≡ pick js
pick-alike [] [] a = refl
pick-alike [] (j ∷ js) a = absurd a
pick-alike (i ∷ is) [] a = absurd a
pick-alike (i ∷ is) (j ∷ js) a =
    ap (λ (x : Bool). cond x zero (suc (pick is))) (test_alike (λ e. not (sooner e is)) i j a.0) ∙
    ap (λ (x : Bool). cond (ltb 0 j.left && not x) zero (suc (pick is))) (sooner-alike j.due is js a.1) ∙
    ap (λ (x : ℕ). cond (ltb 0 j.left && not (sooner j.due js)) zero (suc x)) (pick-alike is js a.1)

length-alike : (is js : List Job) → AllAlike is js → length is ≡ length js
length-alike [] [] a = refl
length-alike [] (j ∷ js) a = absurd a
length-alike (i ∷ is) [] a = absurd a
length-alike (i ∷ is) (j ∷ js) a = ap suc (length-alike is js a.1)

left-alike : (b : ℕ) (is js : List Job) → AllAlike is js → left_at is b ≡ left_at js b
left-alike b [] [] a = refl
left-alike b [] (j ∷ js) a = absurd a
left-alike b (i ∷ is) [] a = absurd a
left-alike zero (i ∷ is) (j ∷ js) a = a.0.left
left-alike (suc b) (i ∷ is) (j ∷ js) a = left-alike b is js a.1

-- The test of a task at its release, and the number of the first that is late.
late_test : (t : ℕ) (i j : Job) → Alike i j → (ltb 0 (i.task.arrives t) && ltb 0 i.left) ≡ (ltb 0 (j.task.arrives t) && ltb 0 j.left)
late_test t i j a = rw (a.task, a.left) refl

pub late-alike : (t : ℕ) (is js : List Job) → AllAlike is js → (late t is ≡ late t js) × (late_task t is ≡ late_task t js)
late-alike t [] [] a = (refl, refl)
late-alike t [] (j ∷ js) a = absurd a
late-alike t (i ∷ is) [] a = absurd a
late-alike t (i ∷ is) (j ∷ js) a =
    let r = late-alike t is js a.1 in
    (rw (late_test t i j a.0, r.0) refl, rw (late_test t i j a.0, r.1) refl)

-- ---- what the walk does to them keeps them alike
work-alike : (b : ℕ) (is js : List Job) → AllAlike is js → AllAlike (work is b) (work js b)
work-alike b [] [] a = tt
work-alike b [] (j ∷ js) a = absurd a
work-alike b (i ∷ is) [] a = absurd a
work-alike zero (i ∷ is) (j ∷ js) a =
    (record { task = a.0.task; left = ap pred a.0.left; due = λ h. a.0.due (omega arith) }, a.1)
work-alike (suc b) (i ∷ is) (j ∷ js) a = (a.0, work-alike b is js a.1)

run-alike : (is js : List Job) → AllAlike is js → AllAlike (run is) (run js)
run-alike is js a = rw (pick-alike is js a) (work-alike (pick js) is js a)

released-alike : (t e : ℕ) (i j : Job) → Alike i j → Alike (released t i e) (released t j e)
released-alike t zero i j a = a
released-alike t (suc e) i j a = record { task = a.task; left = refl; due = λ h. ap (λ (k : Task). t + k.period) a.task }

pub release-alike : (t : ℕ) (is js : List Job) → AllAlike is js → AllAlike (map (release t) is) (map (release t) js)
release-alike t [] [] a = tt
release-alike t [] (j ∷ js) a = absurd a
release-alike t (i ∷ is) [] a = absurd a
release-alike t (i ∷ is) (j ∷ js) a = (
  subst (λ (k : Task). Alike (released t i (k.arrives t)) (release t j)) (sym a.0.task) (released-alike t (j.task.arrives t) i j a.0),
  release-alike t is js a.1,
)

-- ---- the same of what a walk holds
pub record AlikeGoing (g h : Going) : Type 0 where
  pub jobs : AllAlike g.jobs h.jobs
  pub busy : g.busy ≡ h.busy
  pub idle : g.idle ≡ h.idle
  pub preempted : g.preempted ≡ h.preempted
  pub last : g.last ≡ h.last

ticked-alike : (g h : Going) → AlikeGoing g h → AlikeGoing (ticked g) (ticked h)
ticked-alike g h a =
    let p = pick-alike g.jobs h.jobs a.jobs in
    let n = length-alike g.jobs h.jobs a.jobs in
    let r = run-alike g.jobs h.jobs a.jobs in
    record {
      jobs = r;
      busy = rw (p, n, a.busy) refl;
      idle = rw (p, n, a.idle) refl;
      preempted = rw (p, n, a.preempted, a.last) refl;
      last = rw (n, left-alike (pick g.jobs) (run g.jobs) (run h.jobs) r, p) refl;
    }

pub ticks-alike : (m : ℕ) (g h : Going) → AlikeGoing g h → AlikeGoing (ticks m g) (ticks m h)
ticks-alike zero g h a = a
ticks-alike (suc m) g h a = ticks-alike m (ticked g) (ticked h) (ticked-alike g h a)
