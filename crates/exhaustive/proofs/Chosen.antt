-- From the best of all plans, by the costs of a unit, to the plan chosen by it; the unit used; and the plan list.
-- Assumes nothing.
use Prim.Native.Nat.{ℕ, ◌+◌, ◌*◌, ◌^◌, ◌≤◌, ◌<◌, zero-le}
use mathlib.Core.Path.{◌≡◌, sym, ap, ◌∙◌}
use mathlib.Core.List.{List}
use mathlib.Core.Logic.{⊎_elim}
use native.Mathlib.Nat.{mul-le-mul_right}
use native.Mathlib.Omega.{arith}
use lib.ListN.{get_or, take, replicate}
use lib.Seq.{ext_get_or}
use Rattle.std.specs.Prelude.{Option, Some, IsSome}
use Rattle.numbers.specs.Numbers.{total}
use Rattle.numbers.proofs.Tests.{lt_or_le}
use Rattle.numbers.proofs.Powers.{power_positive}
use Rattle.numbers.proofs.Rounding.{ceil_least}
use Rattle.numbers.proofs.Sums.{total_same}
use Rattle.selection.specs.Plan.{Problem, IsPlan, Fitting, rounded_task, rounded, plan_energy, fastest}
use Rattle.selection.specs.Plan.{IsLeastOf, IsChosenOf}
use Rattle.selection.proofs.Fastest.{fastest_fits}
use Rattle.engine.specs.declared.Request.{Request}
use Rattle.engine.specs.Arrays.{option_at, Written, load_bound, energy_bound, Small, cost_of, arrays, ChosenBy}
use Rattle.engine.specs.Arrays.{SumReady}
use Rattle.engine.proofs.Writing.{zeros_at}
use Rattle.engine.proofs.Chosen.{front_size, front_at, sum_ready, chosen_by}
use Rattle.exhaustive.specs.declared.Best.{Best}
use Rattle.exhaustive.specs.declared.Used.{Used}
use Rattle.exhaustive.specs.Order.{rank}
use Rattle.exhaustive.specs.Engine.{Numbered, Seen, ArraysReady, AllReady, ChosenAt, UnitUsed}
use Rattle.exhaustive.specs.Engine.{PutReady, PlanPut, ExhaustiveReady}
use Rattle.exhaustive.proofs.Order.{rank_below, rank_order, rank_same}
use Rattle.exhaustive.proofs.Seeing.{plan_numbered, some_kept}

-- ---- one unit
-- The arrays with the costs of any unit 2 ^ a keep to what the engine asks of them.
module _ {q : Request} {loads energies : List ℕ} {plans : ℕ} (g : AllReady q loads energies plans) (a : ℕ)
    {cost : List ℕ} (w : Written (cost_of energies a) 0 (q.tasks * 16) (replicate 512 0) cost) where
  costs_small : Small energy_bound cost
  costs_small k =
      ⊎_elim
      (λ (l : k < q.tasks * 16).
      let e = get_or energies k 0 in
      omega (
        arith,
        w.here k zero-le l,
        ceil_least e (2 ^ a) e (power_positive a) (omega (arith, mul-le-mul_right e (power_positive a))),
        g.energies_fit k,
      ))
      (λ (l : q.tasks * 16 ≤ k). omega (arith, w.above k l, zeros_at 512 k))
      (lt_or_le k (q.tasks * 16))

  pub all_posed : ArraysReady q loads cost
  all_posed = record {
    tasks = (g.some, g.asked.tasks);
    rates = g.asked.rates;
    few = g.few;
    loads_fit = g.loads_fit;
    costs_fit = costs_small;
  }

  abbrev p : Problem
  p = arrays q loads energies

  abbrev by_cost : Problem
  by_cost = arrays q loads cost

  -- A plan fits by the costs where it fits by the energies, and costs its rounded energy.
  refit : (e e' : List ℕ) {Q : List ℕ} → Fitting (arrays q loads e) Q → Fitting (arrays q loads e') Q
  refit e e' f = record {
    plan = record { size = f.plan.size; above = f.plan.above; below = f.plan.below };
    fits = f.fits;
  }

  to : {Q : List ℕ} → Fitting p Q → Fitting by_cost Q
  to = refit energies cost

  back : {Q : List ℕ} → Fitting by_cost Q → Fitting p Q
  back = refit cost energies

  costs : (Q : List ℕ) → IsPlan p Q → plan_energy by_cost Q ≡ rounded p (2 ^ a) Q
  costs Q f =
      total_same (option_at cost) (rounded_task p (2 ^ a)) q.tasks Q Q
      (λ t l. w.here (t * 16 + get_or Q t 0) zero-le (omega (arith, f.below t l, g.asked.rates.1)))

  ranked : {Q : List ℕ} → Fitting p Q → rank q.rates q.tasks Q < q.rates ^ q.tasks
  ranked {Q} f = rank_below q.rates q.tasks Q (plan_numbered f.plan)

  fast : Fitting p (fastest p)
  fast = fastest_fits p g.asked.rates.0 g.asked.fits

  pub some_best : (kept : Option Best) → Seen by_cost (q.rates ^ q.tasks) kept → IsSome kept
  some_best kept seen = some_kept by_cost (q.rates ^ q.tasks) kept seen (fastest p) (to fast) (ranked fast)

  pub all_chosen : {b : Best} → Seen by_cost (q.rates ^ q.tasks) (Some b) → ChosenAt p (2 ^ a) b
  all_chosen {b} kept =
      let kept_cost : rounded p (2 ^ a) kept.plan ≡ b.sums.cost = sym (costs kept.plan (back kept.fit).plan) ∙ kept.cost_is in
      record {
        plan = kept.plan;
        chosen = record {
          ok = back kept.fit;
          least_energy = λ Q f. omega (arith, kept_cost, costs Q f.plan, kept.least_cost Q (to f) (ranked f));
          least_load = λ Q f e.
              omega (arith, kept.load_is, kept.least_load Q (to f) (ranked f) (costs Q f.plan ∙ e ∙ kept_cost));
          lowest = λ Q f e l.
              rank_order q.rates q.tasks kept.plan Q (plan_numbered kept.fit.plan) (plan_numbered f.plan)
              (omega (
                arith,
                kept.rank_is,
                kept.first Q (to f) (ranked f) (costs Q f.plan ∙ e ∙ kept_cost) (l ∙ kept.load_is),
              ));
        };
        cost_is = kept_cost;
        load_is = kept.load_is;
        rank_is = kept.rank_is;
      }

-- The chosen plan's cost is k(d).
pub best_least : {p : Problem} {d : ℕ} {b : Best} → ChosenAt p d b → IsLeastOf (Fitting p) p d b.sums.cost
best_least c = record {
  plan = c.plan;
  ok = c.chosen.ok;
  reached = c.cost_is;
  least = λ Q f. omega (arith, c.cost_is, c.chosen.least_energy Q f);
}

-- ---- the engine
module _ {q : Request} {loads energies plan₀ : List ℕ} (g : ExhaustiveReady q loads energies plan₀) where
  module _ {o : Used} (u : UnitUsed q loads energies o) where
    best-numbered : Numbered q.rates q.tasks u.best.plan
    best-numbered = plan_numbered u.best.chosen.ok.plan

    pub put_ready : PutReady q.rates q.tasks o.best.rank plan₀
    put_ready = record {
      rates = g.engine.asked.rates;
      room = g.engine.plan_room;
      is_rank = rw (← u.best.rank_is) (rank_below q.rates q.tasks u.best.plan best-numbered);
    }

    module _ {plan : List ℕ} (w : PlanPut q.rates q.tasks o.best.rank plan₀ plan) where
      abbrev own : Problem
      own = arrays q loads energies

      -- The words written are the chosen plan's, since no two plans share a rank.
      same : (t : ℕ) → t < q.tasks → get_or u.best.plan t 0 ≡ get_or plan t 0
      same =
          rank_same q.rates q.tasks u.best.plan plan best-numbered w.numbered
          (u.best.rank_is ∙ sym w.rank_is)

      front : u.best.plan ≡ take q.tasks plan
      front =
          let size = u.best.chosen.ok.plan.size in
          ext_get_or 0 u.best.plan (take q.tasks plan) (size ∙ sym (front_size g.engine plan w.same))
          (λ t l.
          let task : t < q.tasks = omega arith in
          same t task ∙ sym (front_at g.engine plan w.same t task))

      chosen : IsChosenOf (Fitting own) own (2 ^ u.exponent) (take q.tasks plan)
      chosen = rw (← front) u.best.chosen

      pub plan_ready : (options : List ℕ) → Small load_bound options → SumReady q.tasks options plan
      plan_ready = sum_ready g.engine plan w.same u.exponent chosen

      pub engine_chosen : {e : ℕ} → e ≡ total (option_at energies) q.tasks plan
          → ChosenBy q loads energies plan₀ plan (record { unit = o.unit; load = o.best.sums.load; energy = e })
      engine_chosen sum =
          chosen_by g.engine plan w.same u.exponent chosen u.unit_is u.used
          (sym u.best.load_is ∙
          total_same (option_at loads) (option_at loads) q.tasks u.best.plan plan
          (λ t l. ap (option_at loads t) (same t l)))
          sum w.rest
