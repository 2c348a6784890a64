-- From a plan list whose first words are the plan chosen to what an engine gives.
-- Assumes nothing.
use Prim.Native.Nat.{ℕ, ◌^◌, ◌≤◌, ◌<◌}
use mathlib.Core.Path.{◌≡◌, sym, ap, ◌∙◌}
use mathlib.Core.List.{List}
use native.Mathlib.Omega.{arith}
use lib.ListN.{length, get_or, take, length-take}
use lib.Seq.{get_or-take}
use Rattle.numbers.specs.Numbers.{total}
use Rattle.numbers.proofs.Sums.{total_same}
use Rattle.selection.specs.Plan.{Problem, Fitting, IsUsedOf, IsChosenOf}
use Rattle.engine.specs.declared.Request.{Request}
use Rattle.engine.specs.Arrays.{option_at, load_bound, Small, SumReady, arrays, EngineReady, ChosenBy}
use Rattle.engine.proofs.Writing.{rest_same}

module _ {q : Request} {loads energies plan₀ : List ℕ} (g : EngineReady q loads energies plan₀)
    (plan : List ℕ) (same : length plan ≡ length plan₀) where
  pub front_size : length (take q.tasks plan) ≡ q.tasks
  front_size = omega (arith, length-take q.tasks plan, g.plan_room)

  pub front_at : (t : ℕ) → t < q.tasks → get_or (take q.tasks plan) t 0 ≡ get_or plan t 0
  front_at t l = get_or-take q.tasks plan t 0 l

  sums : (f : ℕ → ℕ → ℕ) → total f q.tasks plan ≡ total f q.tasks (take q.tasks plan)
  sums f = total_same f f q.tasks plan (take q.tasks plan) (λ t l. ap (f t) (sym (front_at t l)))

  abbrev this : Problem
  this = arrays q loads energies

  module _ (exponent : ℕ) (chosen : IsChosenOf (Fitting this) this (2 ^ exponent) (take q.tasks plan)) where
    pub sum_ready : (options : List ℕ) → Small load_bound options → SumReady q.tasks options plan
    sum_ready options small = record {
      few = g.asked.tasks;
      room = omega (arith, g.plan_room);
      numbers = λ t l. omega (arith, front_at t l, chosen.ok.plan.below t l, g.asked.rates.1);
      small = small;
    }

    pub chosen_by : {u l e : ℕ} → u ≡ 2 ^ exponent → IsUsedOf (Fitting this) this q.slack exponent
        → l ≡ total (option_at loads) q.tasks plan → e ≡ total (option_at energies) q.tasks plan
        → ((p : ℕ) → q.tasks ≤ p → get_or plan p 0 ≡ get_or plan₀ p 0)
        → ChosenBy q loads energies plan₀ plan (record { unit = u; load = l; energy = e })
    chosen_by power used x y rest = record {
      exponent = exponent;
      unit_is = power;
      planned = record { used = used; chosen = chosen };
      load_is = x ∙ sums (option_at loads);
      energy_is = y ∙ sums (option_at energies);
      rest = rest_same q.tasks plan₀ plan same rest;
      plan_size = same;
    }
