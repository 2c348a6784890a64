-- The sets that the generator makes (document 02, note 1): its state, its draws, and the list of words that a seed and a
-- task count give.
use Rattle.std.specs.Prelude.{ℕ, zero, suc, ◌+◌, ◌-◌, ◌*◌, ◌/◌, ◌%◌, ◌^◌, List, [], ◌∷◌, ◌++◌, get_or, replicate}
use Rattle.numbers.specs.Numbers.{each, joined}
use Rattle.layout.specs.Words.{head_size, extra_size}
use Rattle.layout.specs.declared.Layout.TheVariants.{Ordinary}

-- STATE AND DRAWS.

-- "Its state goes to state × 1,664,525 + 1,013,904,223, both steps wrapping at 32 bits"
unfoldable pub next : ℕ → ℕ
next state = (state * 1664525 % 2 ^ 32 + 1013904223) % 2 ^ 32

-- The state after k steps; "a seed word" is the state before the first.
unfoldable pub state_after : ℕ → ℕ → ℕ
state_after seed zero = seed
state_after seed (suc k) = next (state_after seed k)

-- "a draw is the new state divided by 65,536, rounded down": draw k, counted from 0.
unfoldable pub draw : ℕ → ℕ → ℕ
draw seed k = state_after seed (suc k) / 65536

-- A TASK. "Each task takes three draws": the task at t, counted from 0, takes draws 3 t, 3 t + 1 and 3 t + 2.

-- "10, 20, 25, 40, 50, 100, 200, 400": "entry" 0 is 10.
abbrev pub periods : List ℕ
periods = 10 ∷ 20 ∷ 25 ∷ 40 ∷ 50 ∷ 100 ∷ 200 ∷ 400 ∷ []

-- "the period is entry (draw mod 8) of" these
abbrev pub drawn_period : ℕ → ℕ
drawn_period x = get_or periods (x % 8) 0

-- "cycles are 1 + draw mod 1,000"
abbrev pub drawn_cycles : ℕ → ℕ
drawn_cycles x = 1 + x % 1000

-- "the energy at rate j is (2 + draw mod 9) × j × j": one draw for all rates.
abbrev pub drawn_energy : ℕ → ℕ → ℕ
drawn_energy x j = (2 + x % 9) * j * j

-- THE LIST. "The set has slack 100 and five rates, 100 × j for rate j." What a list has beside the words that note 1
-- names, in its head or between a task's cycles and its energies, is 0: note 4's H, and note 6's A "from the generator".
abbrev pub five_rates : ℕ
five_rates = 5

abbrev pub head_words : List ℕ
head_words = 100 ∷ replicate (head_size Ordinary - 1) 0

abbrev pub rate_of : ℕ → ℕ
rate_of j = 100 * j

abbrev pub task_words : ℕ → ℕ → List ℕ
task_words seed t =
    drawn_period (draw seed (3 * t)) ∷ drawn_cycles (draw seed (3 * t + 1)) ∷
    (replicate (extra_size Ordinary) 0 ++ each (drawn_energy (draw seed (3 * t + 2))) 1 five_rates)

-- The words of n tasks, those at 0 to n - 1; the words before them; and all of them.
abbrev pub tasks_words : ℕ → ℕ → List ℕ
tasks_words seed n = joined (task_words seed) (each (λ t. t) 0 n)

unfoldable pub front_words : ℕ → List ℕ
front_words n = head_words ++ (five_rates ∷ (each rate_of 1 five_rates ++ (n ∷ [])))

unfoldable pub generated : ℕ → ℕ → List ℕ
generated seed n = front_words n ++ tasks_words seed n
