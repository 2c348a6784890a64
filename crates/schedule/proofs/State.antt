-- The walk's state: its tasks stay those of the list, and what holds of each task holds of the task of each job.
-- Assumes nothing.
use Prim.Native.Nat.{ℕ, zero, suc}
use mathlib.Core.Path.{◌≡◌, refl, sym, ap, ◌∙◌, subst}
use mathlib.Core.Bool.{Bool, true, false, ◌&&◌, ◌||◌}
use mathlib.Core.List.{List, [], ◌∷◌, map}
use lib.Dec.{ltb}
use lib.ListN.{length}
use Rattle.numbers.specs.Numbers.{All}
use Rattle.numbers.proofs.Sums.{sum, sum-map}
use Rattle.schedule.specs.Walk.{Task, Job, fresh, released, release, pick, before, late, misses}
use Rattle.schedule.proofs.Picked.{work-task}

released-task : (t : ℕ) (j : Job) (e : ℕ) → (released t j e).task ≡ j.task
released-task t j zero = refl
released-task t j (suc e) = refl

release-tasks : (t : ℕ) (js : List Job) → map (λ j. j.task) (map (release t) js) ≡ map (λ j. j.task) js
release-tasks t [] = refl
release-tasks t (j ∷ js) =
    ap (λ (k : Task). k ∷ map (λ j. j.task) (map (release t) js)) (released-task t j (j.task.arrives t)) ∙
    ap (λ (l : List Task). j.task ∷ l) (release-tasks t js)

fresh-tasks : (ks : List Task) → map (λ j. j.task) (map fresh ks) ≡ ks
fresh-tasks [] = refl
fresh-tasks (k ∷ ks) = ap (λ (l : List Task). k ∷ l) (fresh-tasks ks)

pub before-tasks : (ks : List Task) (t : ℕ) → map (λ j. j.task) (before ks t) ≡ ks
before-tasks ks zero = fresh-tasks ks
before-tasks ks (suc t) =
    work-task (map (release t) (before ks t)) (pick (map (release t) (before ks t))) ∙ release-tasks t (before ks t) ∙ before-tasks ks t

pub sum-tasks : (f : Task → ℕ) (ks : List Task) (t : ℕ) → sum (λ j. f j.task) (before ks t) ≡ sum f ks
sum-tasks f ks t = sym (sum-map f (λ j. j.task) (before ks t)) ∙ ap (sum f) (before-tasks ks t)

all_map : (P : Task → Type 0) (js : List Job) → All P (map (λ j. j.task) js) → All (λ j. P j.task) js
all_map P [] a = tt
all_map P (j ∷ js) a = (a.0, all_map P js a.1)

pub before-all : (P : Task → Type 0) (ks : List Task) → All P ks → (t : ℕ) → All (λ j. P j.task) (before ks t)
before-all P ks a t = all_map P (before ks t) (subst (All P) (sym (before-tasks ks t)) a)

length-map : {A B : Type 0} (f : A → B) (xs : List A) → length (map f xs) ≡ length xs
length-map f [] = refl
length-map f (x ∷ xs) = ap suc (length-map f xs)

-- There are as many jobs as tasks, released or not.
pub length_before : (ks : List Task) (t : ℕ) → length (before ks t) ≡ length ks
length_before ks t = sym (length-map (λ j. j.task) (before ks t)) ∙ ap length (before-tasks ks t)

pub length-released : (ks : List Task) (t : ℕ) → length (map (release t) (before ks t)) ≡ length ks
length-released ks t = length-map (release t) (before ks t) ∙ length_before ks t

-- At tick 0 there is nothing to check.
pub none_at_start : (ks : List Task) → misses ks 0 ≡ false
none_at_start [] = refl
none_at_start (k ∷ ks) = go (ltb 0 (k.arrives 0)) (none_at_start ks)
  where
    go : (b : Bool) → late 0 (map fresh ks) ≡ false → ((b && ltb 0 0) || late 0 (map fresh ks)) ≡ false
    go true h = h
    go false h = h
