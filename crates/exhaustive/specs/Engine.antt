-- What the functions of the engine take and give. Not part of what a reader must believe.
use Rattle.std.specs.Prelude.{ℕ, ◌+◌, ◌^◌, ◌≤◌, ◌<◌, ◌≡◌, List, ◌⊎◌, Option, Some, IfSome, IsSomeAnd, MatchOption, length, get_or}
use Rattle.numbers.specs.Numbers.{total}
use Rattle.selection.specs.Plan.{Problem, plan_load, plan_energy, rounded, Fitting, IsChosenOf, IsUsedOf, most_plans}
use Rattle.engine.specs.declared.Request.{Request}
use Rattle.engine.specs.Arrays.{option_at, load_bound, energy_bound, Small, arrays, Asked, EngineReady}
use Rattle.exhaustive.specs.Order.{rank}
use Rattle.exhaustive.specs.declared.Sums.{Sums}
use Rattle.exhaustive.specs.declared.Best.{Best}
use Rattle.exhaustive.specs.declared.Used.{Used}

-- The first n numbers of P are 1 to m.
pub record Numbered (m n : ℕ) (P : List ℕ) : Type 0 where
  pub above : (t : ℕ) → t < n → 1 ≤ get_or P t 0
  pub below : (t : ℕ) → t < n → get_or P t 0 ≤ m

-- ---- what is best so far
-- A plan with sums s stays behind what was kept: it does not fit, or costs more, or as much with no lower load.
abbrev pub Behind : ℕ → Sums → Option Best → Type 0
Behind limit s kept =
    s.load ≤ limit → IsSomeAnd kept (λ b. (b.sums.cost ≤ s.cost) × (s.cost ≡ b.sums.cost → b.sums.load ≤ s.load))

-- It fits and goes before what was kept, if anything was.
pub record Ahead (limit : ℕ) (s : Sums) (kept : Option Best) : Type 0 where
  pub fits : s.load ≤ limit
  pub before : IfSome kept (λ b. (s.cost ≤ b.sums.cost) × (s.cost ≡ b.sums.cost → s.load < b.sums.load))

-- What is kept after a look at the plan of rank i, whose sums are s.
abbrev pub Looked : ℕ → Sums → ℕ → Option Best → Option Best → Type 0
Looked limit s i kept r =
    ((r ≡ kept) × Behind limit s kept) ⊎ ((r ≡ Some (record { sums = s; rank = i })) × Ahead limit s kept)

-- What was kept is a plan that fits, of a rank below i, and the best of those: of least cost, then of least load, then
-- the first.
pub record Kept (p : Problem) (i : ℕ) (b : Best) : Type 0 where
  pub plan : List ℕ
  pub fit : Fitting p plan
  pub cost_is : plan_energy p plan ≡ b.sums.cost
  pub load_is : plan_load p plan ≡ b.sums.load
  pub rank_is : rank p.rates p.count plan ≡ b.rank
  pub before : b.rank < i
  pub least_cost : (Q : List ℕ) → Fitting p Q → rank p.rates p.count Q < i → b.sums.cost ≤ plan_energy p Q
  pub least_load : (Q : List ℕ) → Fitting p Q → rank p.rates p.count Q < i → plan_energy p Q ≡ b.sums.cost
      → b.sums.load ≤ plan_load p Q
  pub first : (Q : List ℕ) → Fitting p Q → rank p.rates p.count Q < i → plan_energy p Q ≡ b.sums.cost
      → plan_load p Q ≡ b.sums.load → b.rank ≤ rank p.rates p.count Q

-- The plans of a rank below i were looked at: none was kept where none fits.
abbrev pub Seen : Problem → ℕ → Option Best → Type 0
Seen p i kept = MatchOption kept ((Q : List ℕ) → Fitting p Q → rank p.rates p.count Q < i → ⊥) (Kept p i)

-- ---- the plan in hand
-- What the arrays keep to: numbers in range, few plans, and sums that fit.
pub record ArraysReady (q : Request) (loads cost : List ℕ) : Type 0 where
  pub tasks : (1 ≤ q.tasks) × (q.tasks ≤ 32)
  pub rates : (1 ≤ q.rates) × (q.rates ≤ 8)
  pub few : q.rates ^ q.tasks ≤ most_plans
  pub loads_fit : Small load_bound loads
  pub costs_fit : Small energy_bound cost

-- The first numbers of P are a plan with task 1 at rate 1, and s are its sums.
pub record InHand (q : Request) (loads cost P : List ℕ) (s : Sums) : Type 0 where
  pub size : length P ≡ 32
  pub first : get_or P 0 0 ≡ 1
  pub numbered : Numbered q.rates q.tasks P
  pub load_is : s.load ≡ total (option_at loads) q.tasks P
  pub cost_is : s.cost ≡ total (option_at cost) q.tasks P

-- Sums in which the option at one place is replaced by the one at another: what is asked, and what is given. A sum of
-- loads may leave no room for one load more, so that the one is taken away before the other is added.
pub record ChangeReady (loads cost : List ℕ) (s : Sums) (from to : ℕ) : Type 0 where
  pub places : (from < 512) × (to < 512)
  pub within : (get_or loads from 0 ≤ s.load) × (get_or cost from 0 ≤ s.cost)
  pub load_fits : s.load + get_or loads to 0 < 2 ^ 64 + get_or loads from 0
  pub cost_fits : s.cost + get_or cost to 0 < 2 ^ 64 + get_or cost from 0

pub record Changed (loads cost : List ℕ) (s : Sums) (from to : ℕ) (r : Sums) : Type 0 where
  pub loads_are : r.load + get_or loads from 0 ≡ s.load + get_or loads to 0
  pub costs_are : r.cost + get_or cost from 0 ≡ s.cost + get_or cost to 0

-- The plans that differ from one in task 1's rate alone: what a look at them asks.
pub record BlockReady (q : Request) (loads cost : List ℕ) (s : Sums) (i : ℕ) (kept : Option Best) : Type 0 where
  pub plan : List ℕ
  pub hand : InHand q loads cost plan s
  pub rank_is : rank q.rates q.tasks plan ≡ i
  pub seen : Seen (arrays q loads cost) i kept

-- What going on from a plan gives: the plan of a rank higher by as many as there are rates, if there is one.
pub record Advanced (q : Request) (loads cost P P' : List ℕ) (r : Sums) : Type 0 where
  pub hand : InHand q loads cost P' r
  pub next : rank q.rates q.tasks P + q.rates < q.rates ^ q.tasks
      → rank q.rates q.tasks P' ≡ rank q.rates q.tasks P + q.rates

-- ---- a unit, and the unit used
-- What the search for the unit asks, where plans is the number of all plans.
pub record AllReady (q : Request) (loads energies : List ℕ) (plans : ℕ) : Type 0 where
  pub asked : Asked q loads energies
  pub some : 1 ≤ q.tasks
  pub few : q.rates ^ q.tasks ≤ most_plans
  pub loads_fit : Small load_bound loads
  pub energies_fit : Small energy_bound energies
  pub plans_are : plans ≡ q.rates ^ q.tasks

-- b is the plan chosen by unit d.
pub record ChosenAt (p : Problem) (d : ℕ) (b : Best) : Type 0 where
  pub plan : List ℕ
  pub chosen : IsChosenOf (Fitting p) p d plan
  pub cost_is : rounded p d plan ≡ b.sums.cost
  pub load_is : plan_load p plan ≡ b.sums.load
  pub rank_is : rank p.rates p.count plan ≡ b.rank

-- The unit used, and the plan chosen by it.
pub record UnitUsed (q : Request) (loads energies : List ℕ) (u : Used) : Type 0 where
  pub exponent : ℕ
  pub unit_is : u.unit ≡ 2 ^ exponent
  pub used : IsUsedOf (Fitting (arrays q loads energies)) (arrays q loads energies) q.slack exponent
  pub best : ChosenAt (arrays q loads energies) (2 ^ exponent) u.best

-- ---- the engine
-- What writing the plan of rank i asks and gives.
pub record PutReady (m n i : ℕ) (plan : List ℕ) : Type 0 where
  pub rates : (1 ≤ m) × (m ≤ 8)
  pub room : n ≤ length plan
  pub is_rank : i < m ^ n

pub record PlanPut (m n i : ℕ) (plan plan' : List ℕ) : Type 0 where
  pub same : length plan' ≡ length plan
  pub numbered : Numbered m n plan'
  pub rank_is : rank m n plan' ≡ i
  pub rest : (p : ℕ) → n ≤ p → get_or plan' p 0 ≡ get_or plan p 0

-- What the engine asks: what every engine does, a task, and few plans.
pub record ExhaustiveReady (q : Request) (loads energies plan : List ℕ) : Type 0 where
  pub engine : EngineReady q loads energies plan
  pub some : 1 ≤ q.tasks
  pub few : q.rates ^ q.tasks ≤ most_plans
