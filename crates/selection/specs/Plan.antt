-- Which plan is selected (document 01, 'A task set' and 'Which plan'), over any loads and energies.
-- Tasks stand at places from 0 here; rate numbers count from 1.
use Rattle.std.specs.Prelude.{ℕ, zero, suc, ◌+◌, ◌*◌, ◌/◌, ◌^◌, ◌≤◌, ◌<◌, ◌≡◌, List, ◌⊎◌, length, get_or, replicate}
use Rattle.numbers.specs.Numbers.{ceil, total, LeastPower}

-- A task set as far as the choice goes: N tasks, M rates, the limit L, and "Task load at a rate" and "Task energy at a
-- rate" by the task's place and the rate number.
pub record Problem : Type 0 where
  pub count : ℕ
  pub rates : ℕ
  pub limit : ℕ
  pub load : ℕ → ℕ → ℕ
  pub energy : ℕ → ℕ → ℕ

-- "A plan is a rate number for each task."
pub record IsPlan (p : Problem) (P : List ℕ) : Type 0 where
  pub size : length P ≡ p.count
  pub above : (t : ℕ) → t < p.count → 1 ≤ get_or P t 0
  pub below : (t : ℕ) → t < p.count → get_or P t 0 ≤ p.rates

-- "Its load and energy are the sums."
abbrev pub plan_load : Problem → List ℕ → ℕ
plan_load p P = total p.load p.count P

abbrev pub plan_energy : Problem → List ℕ → ℕ
plan_energy p P = total p.energy p.count P

-- "It fits when its load is at most L."
pub record Fitting (p : Problem) (P : List ℕ) : Type 0 where
  pub plan : IsPlan p P
  pub fits : plan_load p P ≤ p.limit

-- "For a unit d, a rounded task energy is the task energy divided by d, rounded up."
abbrev pub rounded_task : Problem → ℕ → ℕ → ℕ → ℕ
rounded_task p d t r = ceil (p.energy t r) d

-- "A plan's rounded energy is the sum of those."
abbrev pub rounded : Problem → ℕ → List ℕ → ℕ
rounded p d P = total (rounded_task p d) p.count P

-- "Let k(d) be the least rounded energy of a plan that fits." Which plans count is a parameter, Ok: for document 01
-- those that fit.
pub record IsLeastOf (Ok : List ℕ → Type 0) (p : Problem) (d k : ℕ) : Type 0 where
  pub plan : List ℕ
  pub ok : Ok plan
  pub reached : rounded p d plan ≡ k
  pub least : (Q : List ℕ) → Ok Q → k ≤ rounded p d Q

-- "the lowest rate number for task N, then for task N - 1, and so on down to task 1": of the first n tasks, P's numbers
-- are Q's, or lower at the last task where they differ.
abbrev pub NotAfter : ℕ → List ℕ → List ℕ → Type 0
NotAfter zero P Q = Unit {0}
NotAfter (suc n) P Q = (get_or P n 0 < get_or Q n 0) ⊎ ((get_or P n 0 ≡ get_or Q n 0) × NotAfter n P Q)

-- "Among fitting plans with rounded energy k(d), take those with least load. Among these take the lowest rate number
-- for task N .."
pub record IsChosenOf (Ok : List ℕ → Type 0) (p : Problem) (d : ℕ) (P : List ℕ) : Type 0 where
  pub ok : Ok P
  pub least_energy : (Q : List ℕ) → Ok Q → rounded p d P ≤ rounded p d Q
  pub least_load : (Q : List ℕ) → Ok Q → rounded p d Q ≡ rounded p d P → plan_load p P ≤ plan_load p Q
  pub lowest : (Q : List ℕ) → Ok Q → rounded p d Q ≡ rounded p d P → plan_load p Q ≡ plan_load p P → NotAfter p.count P Q

-- "the plan with every task at rate M"
unfoldable pub fastest : Problem → List ℕ
fastest p = replicate p.count p.rates

-- "2,000 × N"
abbrev pub threshold : Problem → ℕ
threshold p = 2000 * p.count

-- "G × k(d) at least 2,000 × N"; and below it.
abbrev pub QualifiesOf : (List ℕ → Type 0) → Problem → ℕ → ℕ → Type 0
QualifiesOf Ok p G d = (k : ℕ) × IsLeastOf Ok p d k × (threshold p ≤ G * k)

abbrev pub FallsShortOf : (List ℕ → Type 0) → Problem → ℕ → ℕ → Type 0
FallsShortOf Ok p G d = (k : ℕ) × IsLeastOf Ok p d k × (G * k < threshold p)

-- 2 ^ a is the unit used; a, first and b are exponents. "The first unit is the smallest power of two not below the
-- energy of the plan with every task at rate M; 1 if that energy is 0. Units are halved from there. The unit used is
-- the first with G × k(d) at least 2,000 × N, or 1 if none before it qualifies."
pub record IsUsedOf (Ok : List ℕ → Type 0) (p : Problem) (G a : ℕ) : Type 0 where
  pub first : ℕ
  pub is_first : LeastPower (plan_energy p (fastest p)) first
  pub tried : a ≤ first
  pub stops : (a ≡ 0) ⊎ QualifiesOf Ok p G (2 ^ a)
  pub goes_on : (b : ℕ) → a < b → b ≤ first → FallsShortOf Ok p G (2 ^ b)

-- P is the plan selected, with 2 ^ a the unit used.
pub record IsPlannedOf (Ok : List ℕ → Type 0) (p : Problem) (G a : ℕ) (P : List ℕ) : Type 0 where
  pub used : IsUsedOf Ok p G a
  pub chosen : IsChosenOf Ok p (2 ^ a) P

-- Document 01's plan: chosen among those that fit.
abbrev pub IsPlanned : Problem → ℕ → ℕ → List ℕ → Type 0
IsPlanned p = IsPlannedOf (Fitting p) p

-- "Working words needed: W = (N + 1) × (F + 1), where F is 4,000 × N / G rounded down."
abbrev pub last_column : ℕ → ℕ → ℕ
last_column n g = 4000 * n / g

abbrev pub work_words : ℕ → ℕ → ℕ
work_words n g = (n + 1) * (last_column n g + 1)

-- "M to the power N is over 1,000,000" (document 02, note 7): so many plans the dull engine goes through at most.
abbrev pub most_plans : ℕ
most_plans = 1000000
