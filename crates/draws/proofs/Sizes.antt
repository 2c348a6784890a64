-- How many words there are: those of a task, of all tasks, before them, and of the whole set.
-- Assumes nothing.
use Prim.Native.Nat.{ℕ, zero, suc, ◌*◌}
use mathlib.Core.Path.{◌≡◌, ◌∙◌}
use native.Mathlib.Nat.{suc-mul}
use native.Mathlib.Omega.{arith}
use lib.ListN.{length, length-append, length-replicate}
use Rattle.numbers.specs.Numbers.{each, joined}
use Rattle.numbers.proofs.Lists.{each-length}
use Rattle.layout.specs.Words.{head_size, tasks_place, task_size, period_place}
use Rattle.layout.specs.declared.Layout.TheVariants.{Ordinary}
use Rattle.layout.proofs.Layouts.{slack_in_head}
use Rattle.draws.specs.Generated.{five_rates, head_words, task_words, tasks_words, front_words, generated}

pub task_size_lem : (seed t : ℕ) → length (task_words seed t) ≡ task_size Ordinary five_rates
task_size_lem seed t = simp (length-append, length-replicate, each-length) (omega arith)

pub head_length : length head_words ≡ head_size Ordinary
head_length = simp length-replicate (omega (arith, slack_in_head Ordinary))

pub front_size : (n : ℕ) → length (front_words n) ≡ tasks_place Ordinary five_rates
unfolding front_words
front_size n = simp (length-append, length-replicate) (omega (arith, slack_in_head Ordinary))

-- Of n tasks from the one at i on.
pub tasks_size : (seed i n : ℕ) → length (joined (task_words seed) (each (λ t. t) i n)) ≡ n * task_size Ordinary five_rates
tasks_size seed i zero = omega arith
tasks_size seed i (suc n) =
    length-append (task_words seed i) (joined (task_words seed) (each (λ t. t) (suc i) n)) ∙
    omega (arith, task_size_lem seed i, tasks_size seed (suc i) n, suc-mul n (task_size Ordinary five_rates))

pub set_size : (seed n : ℕ) → length (generated seed n) ≡ period_place Ordinary five_rates n
unfolding generated
set_size seed n =
    length-append (front_words n) (tasks_words seed n) ∙ omega (arith, front_size n, tasks_size seed 0 n)
