-- Tasks by place: what holds of the task at each place holds of the list, and sums go over the places.
-- Assumes nothing.
use Prim.Native.Nat.{ℕ, zero, suc, ◌+◌, ◌≤◌, ◌<◌}
use mathlib.Core.Path.{◌≡◌, refl, ap}
use native.Mathlib.Omega.{arith}
use lib.ListN.{length}
use Rattle.numbers.specs.Numbers.{All, over}
use Rattle.numbers.proofs.Sums.{sum}
use Rattle.schedule.specs.Walk.{Task, tasks_from}

pub length-tasks : (k : ℕ → Task) (i n : ℕ) → length (tasks_from k i n) ≡ n
length-tasks k i zero = refl
length-tasks k i (suc n) = ap suc (length-tasks k (suc i) n)

pub all-tasks : (P : Task → Type 0) (k : ℕ → Task) (i n : ℕ) → ((j : ℕ) → i ≤ j → j < i + n → P (k j)) → All P (tasks_from k i n)
all-tasks P k i zero h = tt
all-tasks P k i (suc n) h = (h i (omega arith) (omega arith), all-tasks P k (suc i) n (λ j a b. h j (omega arith) (omega arith)))

pub same_tasks : (k l : ℕ → Task) (i n : ℕ) → ((j : ℕ) → i ≤ j → j < i + n → k j ≡ l j) → tasks_from k i n ≡ tasks_from l i n
same_tasks k l i zero h = refl
same_tasks k l i (suc n) h = rw (h i (omega arith) (omega arith), same_tasks k l (suc i) n (λ j a b. h j (omega arith) (omega arith))) refl

pub sum_places : (f : Task → ℕ) (k : ℕ → Task) (i n : ℕ) → sum f (tasks_from k i n) ≡ over (λ j. f (k j)) i n
sum_places f k i zero = refl
sum_places f k i (suc n) = ap (λ (x : ℕ). f (k i) + x) (sum_places f k (suc i) n)
