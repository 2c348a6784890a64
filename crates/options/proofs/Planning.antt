-- From what an engine chose over the arrays to what a call that plans gives: it is what document 01 selects of what is
-- planned.
-- Assumes nothing.
use Rattle.std.specs.Prelude.{Ok, Err}
use Prim.Native.Nat.{ℕ, ◌+◌, ◌*◌, ◌^◌, ◌≤◌, ◌<◌}
use mathlib.Core.Path.{◌≡◌, refl, ◌∙◌}
use mathlib.Core.List.{List}
use mathlib.Core.Logic.{⊎_elim}
use native.Mathlib.Omega.{arith}
use lib.ListN.{length, take, get_or}
use lib.Seq.{get_or-take}
use Rattle.numbers.proofs.Tests.{lt_or_le}
use Rattle.selection.specs.Plan.{Problem, Fitting, IsPlan}
use Rattle.selection.proofs.Same.{load_same, energy_same, fitting_same, planned_same}
use Rattle.layout.specs.Words.{idle}
use Rattle.layout.specs.declared.Layout.{Layout}
use Rattle.taskset.specs.Quantities.{reported_energy}
use Rattle.taskset.specs.Planning.{Planning, planning}
use Rattle.taskset.specs.Refusals.{IsShort, Check, Accepts, ◌▹◌, none_check}
use Rattle.taskset.specs.Calls.{planner_values, SetAfter, Selected, HoldsPlan, RateNumbers, PlanGives}
use Rattle.taskset.specs.declared.Refusal.TheVariants.{NoPlan}
use Rattle.taskset.proofs.Checks.{accepts_next, refuses_next}
use Rattle.taskset.proofs.DemandThree.{PlansList}
use Rattle.taskset.proofs.Idle.{reported_is}
use Rattle.taskset.proofs.Margin.{list_in_bits}
use Rattle.engine.specs.Arrays.{arrays, EngineReady, ChosenBy}
use Rattle.engine.specs.declared.Request.{Request}
use Rattle.engine.specs.declared.Choice.{Choice}
use Rattle.options.specs.Posed.{SetGiven, Poses}
use Rattle.taskset.specs.Answers.{ok_planned}
use Rattle.taskset.specs.declared.Measured.{Measured}

-- Where a list is not too short, it is long enough.
pub long_enough : (needed lent : ℕ) → ((k : ℕ) → IsShort needed lent k → ⊥) → needed ≤ lent
long_enough needed lent pass =
    ⊎_elim (λ (h : lent < needed). absurd (pass needed (h, refl))) (λ (h : needed ≤ lent). h) (lt_or_le lent needed)

-- ---- anything that is planned, where cs are the call's checks before 7.
-- They have passed, and no plan fits.
pub none_given : (m : Planning) (cs : List Check) → Accepts cs → (plan : List ℕ) → ((P : List ℕ) → Fitting m.problem P → ⊥)
    → PlanGives (cs ▹ none_check (Fitting m.problem)) m plan plan (Err NoPlan)
none_given m cs accepts plan none = (refuses_next cs (none_check (Fitting m.problem)) 0 accepts (refl, none), refl)

-- A request, q.
module _ {m : Planning} {loads energies : List ℕ} {q : Request} (p : Poses m loads energies q) where
  abbrev array : Problem
  array = arrays q loads energies

  pub engine_ready : {plan : List ℕ} → m.problem.count ≤ length plan → EngineReady q loads energies plan
  engine_ready room = record {
    asked = p.asked;
    loads_fit = p.loads_fit;
    energies_fit = p.energies_fit;
    plan_room = omega (arith, p.same.count);
  }

  -- What was chosen is what document 01 selects.
  module _ {plan plan' : List ℕ} {c : Choice} (chose : ChosenBy q loads energies plan plan' c) where
    abbrev P : List ℕ
    P = take q.tasks plan'

    plan_is : IsPlan array P
    plan_is = chose.planned.chosen.ok.plan

    fits : Fitting m.problem P
    fits = fitting_same array m.problem p.same P chose.planned.chosen.ok

    -- l is the hyper-period, and x the energy reported of the plan.
    module _ {l x : ℕ} (l-is : l ≡ m.hyper) (x-is : x ≡ m.energy P) where
      selected : Selected m P (planner_values (ok_planned c.unit c.load l x))
      selected = record {
        exponent = chose.exponent;
        planned =
            rw (← p.slack_is)
            (planned_same array m.problem p.same p.asked.rates.0 q.slack chose.exponent P
            chose.planned);
        values_are =
            cc (chose.unit_is, chose.load_is ∙ load_same array m.problem p.same P plan_is, l-is, x-is);
      }

      holds : HoldsPlan m.problem.count P plan plan'
      holds = rw (← p.same.count) (record { front = refl; rest = chose.rest })

      pub plan_given_lem : (cs : List Check) → Accepts cs
          → PlanGives (cs ▹ none_check (Fitting m.problem)) m plan plan' (ok_planned c.unit c.load l x)
      plan_given_lem cs accepts = (
        accepts_next cs (none_check (Fitting m.problem)) accepts (λ k none. none.1 P fits),
        (P, selected, holds),
      )

      pub numbers : RateNumbers m plan' (ok_planned c.unit c.load l x)
      numbers t h =
          let at = get_or-take q.tasks plan' t 0 (omega (arith, p.same.count)) in
          let low : 1 ≤ get_or plan' t 0 = omega (arith, at, plan_is.above t (omega (arith, p.same.count))) in
          let high : get_or plan' t 0 ≤ m.problem.rates
          = omega (arith, at, p.same.rates, plan_is.below t (omega (arith, p.same.count))) in
          record { from_1 = low; to_m = high; place = omega arith }

-- ---- a list
-- What has passed the checks before 7 is a set.
pub set_given : {layout : Layout} {s : List ℕ} {cs : List Check} → PlansList layout s cs
    → (p : Measured) → SetAfter cs layout s (Ok p) → SetGiven layout s p.hyper
set_given plans p after = record { set = plans.set after.0; covered = plans.covered after.0; hyper = after.3 }

module _ {layout : Layout} {s : List ℕ} {l : ℕ} (given : SetGiven layout s l)
    {loads energies : List ℕ} {q : Request} (p : Poses (planning layout s) loads energies q)
    {plan plan' : List ℕ} {c : Choice} (chose : ChosenBy q loads energies plan plan' c) where
  -- With the idle energy of every tick the energy is the one reported.
  pub energy_is : c.energy + idle s * l ≡ reported_energy layout s (take q.tasks plan')
  energy_is =
      rw given.hyper
      (omega (
        arith,
        chose.energy_is,
        energy_same (arrays q loads energies) (planning layout s).problem p.same (take q.tasks plan') (plan_is p chose),
        reported_is layout s given.covered (take q.tasks plan') (fits p chose).plan (fits p chose).fits,
      ))

  pub energy_fits : c.energy + idle s * l < 2 ^ 64
  energy_fits =
      omega (arith, energy_is, (list_in_bits layout s given.set).energies (take q.tasks plan') (fits p chose))
