-- A list that is put together of its parts, and what stands where in it: who builds a list has its words from here.
-- Assumes nothing.
use Prim.Native.Nat.{ℕ, suc, ◌+◌, ◌-◌, ◌*◌, ◌≤◌, ◌<◌}
use mathlib.Core.Path.{◌≡◌, refl, sym, ap, ◌∙◌}
use mathlib.Core.List.{List, ◌∷◌, ◌++◌}
use native.Mathlib.Omega.{arith}
use lib.ListN.{length, get_or, get_or-append}
use lib.Seq.{get_or-append-add}
use Rattle.layout.specs.Words.{head_size, word, rate_count, task_count, rate_place, task_count_place, task_size, period_place, rate}
use Rattle.layout.specs.declared.Layout.{Layout}

-- The head, the rate count and the rates, the task count and the words of the tasks.
abbrev pub built : List ℕ → List ℕ → ℕ → List ℕ → List ℕ
built head rates n tasks = head ++ (length rates ∷ (rates ++ (n ∷ tasks)))

module _ (layout : Layout) (head rates : List ℕ) (n : ℕ) (tasks : List ℕ) (size : length head ≡ head_size layout) where
  abbrev list : List ℕ
  list = built head rates n tasks

  abbrev rest : List ℕ
  rest = length rates ∷ (rates ++ (n ∷ tasks))

  pub head_is : (q : ℕ) → q < head_size layout → word list q ≡ word head q
  head_is q h = get_or-append head rest 0 q (omega arith)

  behind : (q k : ℕ) → q ≡ head_size layout + k → word list q ≡ word rest k
  behind q k e =
      let there : q ≡ length head + k = omega arith in
      ap (word list) there ∙ get_or-append-add head rest k 0

  pub rates_is : rate_count layout list ≡ length rates
  rates_is = behind (head_size layout) 0 (omega arith)

  pub rate_is : (r : ℕ) → 1 ≤ r → r ≤ length rates → rate layout list r ≡ get_or rates (r - 1) 0
  rate_is r a b =
      let k : suc (r - 1) ≡ r = omega arith in
      behind (rate_place layout r) r refl ∙ ap (word rest) (sym k) ∙ get_or-append rates (n ∷ tasks) 0 (r - 1) (omega arith)

  behind-rates : (k : ℕ) → word rest (suc (length rates) + k) ≡ word (n ∷ tasks) k
  behind-rates k = get_or-append-add (length rates ∷ rates) (n ∷ tasks) k 0

  pub tasks_is : task_count layout list ≡ n
  tasks_is =
      ap (λ (m : ℕ). word list (task_count_place layout m)) rates_is ∙
      behind (task_count_place layout (length rates)) (suc (length rates) + 0) (omega arith) ∙ behind-rates 0

  -- Word k of the task at t, among the words of the tasks.
  pub task-word_is : (t k : ℕ) → word list (period_place layout (rate_count layout list) t + k) ≡ word tasks (t * task_size layout (length rates) + k)
  task-word_is t k =
      let at : ℕ = t * task_size layout (length rates) + k in
      ap (λ (m : ℕ). word list (period_place layout m t + k)) rates_is ∙
      behind (period_place layout (length rates) t + k) (suc (length rates) + suc at) (omega arith) ∙ behind-rates (suc at)
