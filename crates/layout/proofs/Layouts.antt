-- What holds of every layout: each law goes through the layouts, one by one.
-- Assumes nothing.
use Prim.Native.Nat.{ℕ, ◌+◌, ◌-◌, ◌*◌, ◌≤◌, ◌<◌}
use mathlib.Core.Path.{◌≡◌, refl}
use mathlib.Core.Bool.{true}
use mathlib.Core.List.{List}
use native.Mathlib.Bridge.{le_by_compare, IsLe}
use native.Mathlib.Nat.{mul-le-mul}
use native.Mathlib.Omega.{arith}
use borrow.Author.Tests.{lt-ltb}
use Rattle.layout.specs.Words.{head_kinds, extra_kinds, head_size, extra_size, most_rates, most_tasks, most_words}
use Rattle.layout.specs.Words.{slack_place, idle_place, task_size, period_place, word, kind_in, head_kind, allows}
use Rattle.layout.specs.declared.Layout.{Layout}
use Rattle.layout.specs.declared.Layout.TheVariants.{Ordinary}
use Rattle.layout.specs.declared.Kind.TheVariants.{Slack, Idle, First}

-- A head is short, and begins with the slack and the idle energy.
pub head_few : (layout : Layout) → head_size layout ≤ 8
unfolding head_kinds IsLe
head_few Ordinary = le_by_compare _ _ tt

pub slack_in_head : (layout : Layout) → slack_place < head_size layout
unfolding head_kinds IsLe
slack_in_head Ordinary = le_by_compare _ _ tt

pub slack_kind : (layout : Layout) → head_kind layout slack_place ≡ Slack
unfolding head_kinds head_kind kind_in
slack_kind Ordinary = refl

pub idle_in_head : (layout : Layout) → idle_place < head_size layout
unfolding head_kinds IsLe
idle_in_head Ordinary = le_by_compare _ _ tt

pub idle_kind : (layout : Layout) → head_kind layout idle_place ≡ Idle
unfolding head_kinds head_kind kind_in
idle_kind Ordinary = refl

-- Few words stand between a task's cycles and its energies.
pub extra_few : (layout : Layout) → extra_size layout ≤ 8
unfolding extra_kinds IsLe
extra_few Ordinary = le_by_compare _ _ tt

-- The first release is the first of them.
pub first_in_extra : (layout : Layout) → 0 < extra_size layout
unfolding extra_kinds IsLe
first_in_extra Ordinary = le_by_compare _ _ tt

pub first_kind : (layout : Layout) → kind_in (extra_kinds layout) 0 ≡ First
unfolding extra_kinds kind_in
first_kind Ordinary = refl

-- The words of at most 32 tasks are few.
pub task-words : (layout : Layout) (m t : ℕ) → m ≤ most_rates → t ≤ most_tasks → t * task_size layout m ≤ 576
task-words layout m t b c = omega (arith, mul-le-mul {n₁ = t} {m₁ = task_size layout m} {n₂ = 32} {m₂ = 18} c (omega (arith, extra_few layout)))

-- The words of the ordinary list at its largest, and a list of fewer rates or tasks has no more.
pub most_words_lem : period_place Ordinary most_rates most_tasks ≡ most_words
unfolding head_kinds extra_kinds
most_words_lem = refl

pub words_few : (m n : ℕ) → m ≤ most_rates → n ≤ most_tasks → period_place Ordinary m n ≤ most_words
words_few m n a b =
    omega (
      arith,
      most_words_lem,
      mul-le-mul {n₁ = n} {m₁ = task_size Ordinary m} {n₂ = most_tasks} {m₂ = task_size Ordinary most_rates} b (omega arith),
    )

-- What the ordinary list has beside document 01's words may be 0: in its head, behind the slack, and between a task's
-- cycles and its energies, p being the place of its period. In its head that is H.
pub zero_in_head : (s : List ℕ) (q : ℕ) → 0 < q → q < head_size Ordinary → word s q ≡ 0 → allows s q (head_kind Ordinary q) ≡ true
unfolding head_kinds head_kind kind_in allows
zero_in_head s q some h e =
    let one : q ≡ 1 = omega arith in
    rw (one, (rw one at e))

pub zero_in_extra : (s : List ℕ) (p k : ℕ) → 1 ≤ word s p → k < extra_size Ordinary → word s (p + (2 + k)) ≡ 0
    → allows s (p + (2 + k)) (kind_in (extra_kinds Ordinary) k) ≡ true
unfolding extra_kinds kind_in allows
zero_in_extra s p k some h e =
    let none : k ≡ 0 = omega arith in
    let own : p + (2 + 0) - 2 ≡ p = omega arith in
    rw (none, own, (rw none at e)) (lt-ltb 0 (word s p) some)
