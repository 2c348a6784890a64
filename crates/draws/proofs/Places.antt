-- What stands at each place of a set's list.
-- Assumes nothing.
use Prim.Native.Nat.{ℕ, suc, ◌+◌, ◌-◌, ◌*◌, ◌≤◌, ◌<◌}
use mathlib.Core.Path.{◌≡◌, sym, ap, ◌∙◌}
use mathlib.Core.List.{List, [], ◌∷◌, ◌++◌, append_assoc}
use native.Mathlib.Nat.{zero-add, add-zero}
use native.Mathlib.Omega.{arith}
use lib.ListN.{length, replicate, length-replicate, get_or-replicate, get_or-append}
use lib.Seq.{get_or-append-add}
use Rattle.numbers.specs.Numbers.{each}
use Rattle.numbers.proofs.Lists.{each-length, each_all, each_at, joined_at}
use Rattle.layout.specs.Words.{head_size, extra_size, word, slack, rate_count, task_count, task_size, period_place, rate, period, cycles, energy}
use Rattle.layout.specs.declared.Layout.TheVariants.{Ordinary}
use Rattle.layout.proofs.Built.{built}
use Rattle.layout.proofs.Built as laws
use Rattle.draws.specs.Generated.{draw, drawn_period, drawn_cycles, drawn_energy, five_rates, head_words, rate_of, task_words, tasks_words, front_words, generated}
use Rattle.draws.proofs.Sizes.{head_length, task_size_lem}

module _ (seed n : ℕ) where
  abbrev s : List ℕ
  s = generated seed n

  abbrev rates : List ℕ
  rates = each rate_of 1 five_rates

  abbrev tasks : List ℕ
  tasks = tasks_words seed n

  parts : s ≡ built head_words rates n tasks
  unfolding generated front_words
  parts =
      append_assoc head_words (five_rates ∷ (rates ++ (n ∷ []))) tasks ∙
      ap (λ (l : List ℕ). head_words ++ (five_rates ∷ l)) (append_assoc rates (n ∷ []) tasks)

  -- ---- the head and the rates
  pub slack_is : slack s ≡ 100
  slack_is = ap slack parts

  pub head_zero : (q : ℕ) → 0 < q → q < head_size Ordinary → word s q ≡ 0
  head_zero q some h =
      let k : suc (q - 1) ≡ q = omega arith in
      ap (λ (l : List ℕ). word l q) parts ∙ laws.head_is Ordinary head_words rates n tasks head_length q h ∙
      ap (word head_words) (sym k) ∙ get_or-replicate (head_size Ordinary - 1) (q - 1) 0 0 (omega arith)

  pub rates_is : rate_count Ordinary s ≡ five_rates
  rates_is = ap (rate_count Ordinary) parts ∙ laws.rates_is Ordinary head_words rates n tasks head_length

  pub rate_is : (r : ℕ) → 1 ≤ r → r ≤ five_rates → rate Ordinary s r ≡ rate_of r
  rate_is r a b =
      let number : 1 + (r - 1) ≡ r = omega arith in
      ap (λ (l : List ℕ). rate Ordinary l r) parts ∙ laws.rate_is Ordinary head_words rates n tasks head_length r a b ∙
      each_at rate_of 1 five_rates (r - 1) (omega arith) 0 ∙ ap rate_of number

  pub tasks_is : task_count Ordinary s ≡ n
  tasks_is = ap (task_count Ordinary) parts ∙ laws.tasks_is Ordinary head_words rates n tasks head_length

  -- ---- the tasks
  module _ (t : ℕ) (h : t < n) where
    -- Word k of the task at t.
    pub task-word : (k : ℕ) → k < task_size Ordinary five_rates
        → word s (period_place Ordinary (rate_count Ordinary s) t + k) ≡ word (task_words seed t) k
    task-word k l =
        let size : ℕ = task_size Ordinary five_rates in
        ap (λ (l : List ℕ). word l (period_place Ordinary (rate_count Ordinary l) t + k)) parts ∙
        laws.task-word_is Ordinary head_words rates n tasks head_length t k ∙
        joined_at (task_words seed) size (each (λ j. j) 0 n) (each_all (λ j. j) (λ j. length (task_words seed j) ≡ size) 0 n (λ j a b. task_size_lem seed j))
        t k 0 (omega (arith, each-length (λ (j : ℕ). j) 0 n)) l ∙
        ap (λ (j : ℕ). word (task_words seed j) k) (each_at (λ j. j) 0 n t h 0 ∙ zero-add t)

    pub period_is : period Ordinary s t ≡ drawn_period (draw seed (3 * t))
    period_is = ap (word s) (sym (add-zero (period_place Ordinary (rate_count Ordinary s) t))) ∙ task-word 0 (omega arith)

    pub cycles_is : cycles Ordinary s t ≡ drawn_cycles (draw seed (3 * t + 1))
    cycles_is = task-word 1 (omega arith)

    abbrev energies : List ℕ
    energies = each (drawn_energy (draw seed (3 * t + 2))) 1 five_rates

    -- Behind the period and the cycles.
    behind_two : (k : ℕ) → word (task_words seed t) (2 + k) ≡ word (replicate (extra_size Ordinary) 0 ++ energies) k
    behind_two k =
        get_or-append-add (drawn_period (draw seed (3 * t)) ∷ drawn_cycles (draw seed (3 * t + 1)) ∷ [])
        (replicate (extra_size Ordinary) 0 ++ energies) k 0

    pub extra_zero : (k : ℕ) → k < extra_size Ordinary → word s (period_place Ordinary (rate_count Ordinary s) t + (2 + k)) ≡ 0
    extra_zero k l =
        task-word (2 + k) (omega arith) ∙ behind_two k ∙
        get_or-append (replicate (extra_size Ordinary) 0) energies 0 k (omega (arith, length-replicate {A = ℕ} (extra_size Ordinary) 0)) ∙
        get_or-replicate (extra_size Ordinary) k 0 0 l

    pub energy_is : (r : ℕ) → 1 ≤ r → r ≤ five_rates → energy Ordinary s t r ≡ drawn_energy (draw seed (3 * t + 2)) r
    energy_is r a b =
        let zeros : List ℕ = replicate (extra_size Ordinary) 0 in
        let place : 1 + extra_size Ordinary + r ≡ 2 + (length zeros + (r - 1)) =
        omega (arith, length-replicate {A = ℕ} (extra_size Ordinary) 0) in
        let number : 1 + (r - 1) ≡ r = omega arith in
        task-word (1 + extra_size Ordinary + r) (omega arith) ∙ ap (word (task_words seed t)) place ∙
        behind_two (length zeros + (r - 1)) ∙ get_or-append-add zeros energies (r - 1) 0 ∙
        each_at (drawn_energy (draw seed (3 * t + 2))) 1 five_rates (r - 1) (omega arith) 0 ∙ ap (drawn_energy (draw seed (3 * t + 2))) number
