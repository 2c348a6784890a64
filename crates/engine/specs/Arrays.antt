-- Arrays of loads and energies, the functions over them, and what an engine that chooses a plan by them is asked and
-- gives. Not part of what a reader must believe: the calls' contracts speak of the set's own problem.
use Rattle.std.specs.Prelude.{ℕ, ◌+◌, ◌*◌, ◌^◌, ◌≤◌, ◌<◌, ◌≡◌, List, length, get_or, take, drop}
use Rattle.numbers.specs.Numbers.{ceil}
use Rattle.selection.specs.Plan.{Problem, plan_load, plan_energy, fastest, IsPlanned}
use Rattle.engine.specs.declared.Request.{Request}
use Rattle.engine.specs.declared.Choice.{Choice}

-- What stands for rate number r of the task at place t.
abbrev pub option_at : List ℕ → ℕ → ℕ → ℕ
option_at s t r = get_or s (t * 16 + r) 0

-- d is d₀ with the places from lo up to hi holding g, and every other place as it was.
pub record Written (g : ℕ → ℕ) (lo hi : ℕ) (d₀ d : List ℕ) : Type 0 where
  pub same : length d ≡ length d₀
  pub here : (p : ℕ) → lo ≤ p → p < hi → get_or d p 0 ≡ g p
  pub below : (p : ℕ) → p < lo → get_or d p 0 ≡ get_or d₀ p 0
  pub above : (p : ℕ) → hi ≤ p → get_or d p 0 ≡ get_or d₀ p 0

-- How large options may be: what every load, and every energy and its cost by a unit, is below. Sums of 32 loads fit 64
-- bits, with nothing to spare; those of 32 energies are far below, as the unit rule wants them: the first unit is a
-- power of two not below such a sum.
abbrev pub load_bound : ℕ
load_bound = 2 ^ 59

abbrev pub energy_bound : ℕ
energy_bound = 2 ^ 47

-- Every option is below a bound.
abbrev pub Small : ℕ → List ℕ → Type 0
Small bound options = (k : ℕ) → get_or options k 0 < bound

-- What the sum over a plan's first tasks asks, of loads or of energies.
pub record SumReady (tasks : ℕ) (options plan : List ℕ) : Type 0 where
  pub few : tasks ≤ 32
  pub room : tasks ≤ length plan
  pub numbers : (t : ℕ) → t < tasks → get_or plan t 0 ≤ 8
  pub small : Small load_bound options

-- An energy by the unit 2 ^ exponent; and what costs by a unit ask.
abbrev pub cost_of : List ℕ → ℕ → ℕ → ℕ
cost_of energies exponent k = ceil (get_or energies k 0) (2 ^ exponent)

pub record RoundReady (tasks exponent value : ℕ) (energies : List ℕ) : Type 0 where
  pub few : tasks ≤ 32
  pub power : value ≡ 2 ^ exponent
  pub low : exponent ≤ 63
  pub small : Small energy_bound energies

-- The problem that the arrays give.
abbrev pub arrays : Request → List ℕ → List ℕ → Problem
arrays q loads energies = record {
  count = q.tasks;
  rates = q.rates;
  limit = q.limit;
  load = option_at loads;
  energy = option_at energies;
}

-- What every request keeps to: numbers in range, and a plan that fits.
pub record Asked (q : Request) (loads energies : List ℕ) : Type 0 where
  pub tasks : q.tasks ≤ 32
  pub rates : (1 ≤ q.rates) × (q.rates ≤ 8)
  pub small : q.limit < 2000000000
  pub slacks : (1 ≤ q.slack) × (q.slack ≤ 1000)
  pub fits : plan_load (arrays q loads energies) (fastest (arrays q loads energies)) ≤ q.limit

-- What every engine asks besides: sums that fit, and room for the plan.
pub record EngineReady (q : Request) (loads energies plan : List ℕ) : Type 0 where
  pub asked : Asked q loads energies
  pub loads_fit : Small load_bound loads
  pub energies_fit : Small energy_bound energies
  pub plan_room : q.tasks ≤ length plan

-- What every engine gives: the plan selected in the first words of the plan list, its unit, load and energy; every
-- other word of that list as before.
pub record ChosenBy (q : Request) (loads energies plan plan' : List ℕ) (c : Choice) : Type 0 where
  pub exponent : ℕ
  pub unit_is : c.unit ≡ 2 ^ exponent
  pub planned : IsPlanned (arrays q loads energies) q.slack exponent (take q.tasks plan')
  pub load_is : c.load ≡ plan_load (arrays q loads energies) (take q.tasks plan')
  pub energy_is : c.energy ≡ plan_energy (arrays q loads energies) (take q.tasks plan')
  pub rest : drop q.tasks plan' ≡ drop q.tasks plan
  pub plan_size : length plan' ≡ length plan
