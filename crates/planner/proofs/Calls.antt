-- From the functions below it to the call: what the checks give is what the engine asks for, and what is chosen over the
-- arrays is what document 01 selects of the list.
-- Assumes nothing.
use Rattle.std.specs.Prelude.{Ok, Err}
use Prim.Native.Nat.{ℕ, ◌+◌, ◌*◌, ◌^◌, ◌<◌}
use mathlib.Core.Path.{refl, subst}
use mathlib.Core.List.{List, [], ◌∷◌}
use native.Mathlib.Omega.{arith}
use lib.ListN.{length}
use Rattle.selection.specs.Plan.{Fitting}
use Rattle.layout.specs.Words.{idle_place, idle}
use Rattle.taskset.specs.Quantities.{problem_of}
use Rattle.taskset.specs.Planning.{planning, layout_of, work_of}
use Rattle.layout.specs.declared.Layout.{Layout}
use Rattle.taskset.specs.Refusals.{number, second, Check, Refuses, Passes, none_check, ready_checks, planner_checks}
use Rattle.taskset.specs.Refusals.{idle_check, hyper_check}
use Rattle.checks.proofs.Judging.{after}
use Rattle.taskset.specs.Calls.{SetAfter, RateNumbers, Cleared, PlannerGives}
use Rattle.taskset.specs.declared.Refusal.{Refusal}
use Rattle.taskset.specs.declared.Refusal.TheVariants.{NoPlan}
use Rattle.taskset.specs.declared.Engine.{Engine}
use Rattle.taskset.proofs.Checks.{refuses_before}
use Rattle.taskset.proofs.DemandThree.{PlansList, engine_plans, list_plans, answer_owes}
use Rattle.engine.specs.declared.Request.{Request}
use Rattle.engine.specs.declared.Choice.{Choice}
use Rattle.checks.specs.Steps.{OfCounts}
use Rattle.taskset.specs.declared.Measured.{Measured}
use Rattle.options.specs.Posed.{SetGiven, Poses}
use Rattle.options.proofs.Planning.{set_given, none_given, energy_is, energy_fits, plan_given_lem, numbers}
use Rattle.planner.specs.Answers.{PlannerCall}
use Rattle.planner.specs.Engines.{EngineAsked, EngineChose}
use Rattle.planner.proofs.Engines.{asked, clears-own}
use Rattle.taskset.specs.Answers.{Checked, PlannerAnswer, ok_planned}

-- What meets document 01's definition keeps what demand 3 asks of it.
called : (e : Engine) (s plan work plan' work' : List ℕ) (a : PlannerAnswer) → PlannerGives e s plan work plan' work' a
    → RateNumbers (planning (layout_of e) s) plan' a → PlannerCall e s plan work plan' work' a
called e s plan work plan' work' a g n =
    let plans = list_plans (engine_plans e s (length plan) (length work)) in
    record {
      gives = g;
      numbers = n;
      owes =
          answer_owes (planning (layout_of e) s) (ready_checks e s (length plan) (length work)) plans plan plan' a g.0;
    }

-- A refusal by the checks before 7 is the call's, and leaves the lists as they were.
pub ready_refused : (e : Engine) (s plan work : List ℕ) (r : Refusal)
    → SetAfter (ready_checks e s (length plan) (length work)) (layout_of e) s (Err r)
    → PlannerCall e s plan work plan work (Err r)
ready_refused e s plan work r h =
    let refuses : Refuses (planner_checks e s (length plan) (length work)) (number r) (second r)
    = refuses_before (ready_checks e s (length plan) (length work)) (none_check (Fitting (problem_of (layout_of e) s)))
    (number r) (second r) h in
    called e s plan work plan work (Err r) ((refuses, refl), refl) tt

-- A set has passed the checks before 7, which measured it so.
pub record Prepared (e : Engine) (s plan work : List ℕ) (v : Measured) : Type 0 where
  pub after : SetAfter (ready_checks e s (length plan) (length work)) (layout_of e) s (Ok v)

module _ {e : Engine} {s plan work : List ℕ} {v : Measured} (prepared : Prepared e s plan work v) where
  abbrev checks : List Check
  checks = ready_checks e s (length plan) (length work)

  plans : PlansList (layout_of e) s checks
  plans = engine_plans e s (length plan) (length work)

  good : SetAfter checks (layout_of e) s (Ok v)
  good = prepared.after

  pub given : SetGiven (layout_of e) s v.hyper
  given = set_given plans v good

  pub counted : OfCounts (layout_of e) v.rates v.tasks s
  counted = record { whole = given.set.whole; counted = good.1; numbered = good.2 }

  pub words_given : idle_place < length s
  words_given = omega (arith, given.set.whole.size)

  -- No plan fits.
  pub none_fits : ((P : List ℕ) → Fitting (problem_of (layout_of e) s) P → ⊥)
      → PlannerCall e s plan work plan work (Err NoPlan)
  none_fits none =
      called e s plan work plan work (Err NoPlan)
      (none_given (planning (layout_of e) s) checks good.0 plan none, refl) tt

  -- A request for the set, and what was chosen for it.
  module _ {loads energies : List ℕ} {q : Request} (p : Poses (planning (layout_of e) s) loads energies q) where
    pub engine_asked : EngineAsked e q loads energies plan work
    engine_asked = asked e s plan work good.0 given.set p

    module _ {plan' work' : List ℕ} {c : Choice} (chose : EngineChose e q loads energies plan work plan' work' c) where
      pub sum_fits : c.energy + idle s * v.hyper < 2 ^ 64
      sum_fits = energy_fits given p chose.chosen

      cleared : Cleared (work_of e s) work work'
      cleared = subst (λ (w : ℕ). Cleared w work work') (clears-own e s p) chose.cleared

      pub chosen_given : PlannerCall e s plan work plan' work' (ok_planned c.unit c.load v.hyper (c.energy + idle s * v.hyper))
      chosen_given =
          called e s plan work plan' work' (ok_planned c.unit c.load v.hyper (c.energy + idle s * v.hyper))
          (plan_given_lem p chose.chosen good.3 (energy_is given p chose.chosen) checks good.0, cleared)
          (numbers p chose.chosen good.3 (energy_is given p chose.chosen))

-- Check 4 after check 10: what it answers where no energy is below what idle ticks draw.
pub after-idle : (layout : Layout) (s : List ℕ) → Passes (idle_check layout s) → (a : Checked) → SetAfter (hyper_check layout s ∷ []) layout s a
    → SetAfter (idle_check layout s ∷ hyper_check layout s ∷ []) layout s a
after-idle layout s pass = after layout s (idle_check layout s ∷ []) (hyper_check layout s ∷ []) (pass, tt)
