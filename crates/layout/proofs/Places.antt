-- What the word at a place stands for, case by case.
-- Assumes nothing.
use Prim.Native.Nat.{ℕ, suc, ◌+◌, ◌-◌, ◌*◌, ◌/◌, ◌%◌, ◌≤◌, ◌<◌}
use mathlib.Core.Path.{◌≡◌, refl, ap, ◌∙◌}
use mathlib.Core.List.{List}
use native.Mathlib.Nat.{div-lt_iff_lt-mul, mul-add-div_right, mul-add-mod_self_right, div-eq_of_lt, mod-eq_of_lt, mul-le-mul_right, mul_comm, mul-suc}
use native.Mathlib.Omega.{arith}
use borrow.Author.Tests.{lt-ltb, le-ltb, eq-eqb, ne_eqb}
use Rattle.layout.specs.Words.{head_size, extra_kinds, extra_size, rate_count, task_count, task_count_place, tasks_place, task_size, period_place, word_count, kind_in, head_kind, task_kind, kind_at}
use Rattle.layout.specs.declared.Kind.TheVariants.{RateCount, Rate, TaskCount, Period, Cycles, Energy, LeftOver}
use Rattle.layout.specs.declared.Layout.{Layout}

-- Word k of task t stands before the end of n tasks.
pub before-end : (n size t k : ℕ) → t < n → k < size → t * size + k < n * size
before-end n size t k h i = omega (arith, mul-le-mul_right size h, mul_comm (suc t) size, mul-suc size t, mul_comm size t)

quotient : (size t k : ℕ) → k < size → (t * size + k) / size ≡ t
quotient size t k h = omega (arith, mul-add-div_right {m = size} (omega arith) t k, div-eq_of_lt h)

remainder : (size t k : ℕ) → k < size → (t * size + k) % size ≡ k
remainder size t k h = mul-add-mod_self_right t size k ∙ mod-eq_of_lt h

module _ (layout : Layout) (s : List ℕ) (q : ℕ) where
  pub kind_head : q < head_size layout → kind_at layout s q ≡ head_kind layout q
  unfolding kind_at
  kind_head h = simp (lt-ltb q (head_size layout) h)

  pub kind_rates : q ≡ head_size layout → kind_at layout s q ≡ RateCount
  unfolding kind_at
  kind_rates e = simp (le-ltb q (head_size layout) (omega arith), eq-eqb q (head_size layout) e)

  pub kind_rate : head_size layout < q → q < task_count_place layout (rate_count layout s) → kind_at layout s q ≡ Rate
  unfolding kind_at
  kind_rate a b = simp (le-ltb q (head_size layout) (omega arith), ne_eqb q (head_size layout) (λ e. omega arith), lt-ltb q (task_count_place layout (rate_count layout s)) b)

  pub kind_tasks : q ≡ task_count_place layout (rate_count layout s) → kind_at layout s q ≡ TaskCount
  unfolding kind_at
  kind_tasks e =
      simp (
        le-ltb q (head_size layout) (omega arith),
        ne_eqb q (head_size layout) (λ d. omega arith),
        le-ltb q (task_count_place layout (rate_count layout s)) (omega arith),
        eq-eqb q (task_count_place layout (rate_count layout s)) e,
      )

  pub kind_past : task_count_place layout (rate_count layout s) < q → word_count layout s ≤ q → kind_at layout s q ≡ LeftOver
  unfolding kind_at
  kind_past a h =
      simp (
        le-ltb q (head_size layout) (omega arith),
        ne_eqb q (head_size layout) (λ d. omega arith),
        le-ltb q (task_count_place layout (rate_count layout s)) (omega arith),
        ne_eqb q (task_count_place layout (rate_count layout s)) (λ d. omega arith),
        le-ltb q (word_count layout s) h,
      )

  -- past the task count, k words after the first task's place
  module _ (k : ℕ) (e : q ≡ tasks_place layout (rate_count layout s) + k) where
    pub kind_word : k / task_size layout (rate_count layout s) < task_count layout s → kind_at layout s q ≡ task_kind layout (k % task_size layout (rate_count layout s))
    unfolding kind_at
    kind_word h =
        let l = (div-lt_iff_lt-mul {k = task_size layout (rate_count layout s)} {x = k} {y = task_count layout s} (omega arith)).0 h in
        let d : q - tasks_place layout (rate_count layout s) ≡ k = omega arith in
        simp (
          le-ltb q (head_size layout) (omega arith),
          ne_eqb q (head_size layout) (λ d. omega arith),
          le-ltb q (task_count_place layout (rate_count layout s)) (omega arith),
          ne_eqb q (task_count_place layout (rate_count layout s)) (λ d. omega arith),
          lt-ltb q (word_count layout s) (omega arith),
          d,
        )

-- Word k of the task at t.
pub kind_task : (layout : Layout) (s : List ℕ) (t k : ℕ) → t < task_count layout s → k < task_size layout (rate_count layout s)
    → kind_at layout s (period_place layout (rate_count layout s) t + k) ≡ task_kind layout k
kind_task layout s t k h i =
    let size : ℕ = task_size layout (rate_count layout s) in
    kind_word layout s (period_place layout (rate_count layout s) t + k) (t * size + k) (omega arith) (omega (arith, quotient size t k i)) ∙
    ap (task_kind layout) (remainder size t k i)

-- The words of a task.
module _ (layout : Layout) where
  pub kind_period : task_kind layout 0 ≡ Period
  unfolding task_kind
  kind_period = refl

  pub kind_cycles : task_kind layout 1 ≡ Cycles
  unfolding task_kind
  kind_cycles = refl

  pub kind_extra : (k : ℕ) → k < extra_size layout → task_kind layout (2 + k) ≡ kind_in (extra_kinds layout) k
  unfolding task_kind
  kind_extra k h =
      let e : 2 + k - 2 ≡ k = omega arith in
      simp (ne_eqb (2 + k) 0 (λ d. omega arith), ne_eqb (2 + k) 1 (λ d. omega arith), lt-ltb (2 + k) (2 + extra_size layout) (omega arith), e)

  pub kind_energy : (r : ℕ) → 1 ≤ r → task_kind layout (1 + extra_size layout + r) ≡ Energy
  unfolding task_kind
  kind_energy r h =
      simp (
        ne_eqb (1 + extra_size layout + r) 0 (λ d. omega arith),
        ne_eqb (1 + extra_size layout + r) 1 (λ d. omega arith),
        le-ltb (1 + extra_size layout + r) (2 + extra_size layout) (omega arith),
      )
