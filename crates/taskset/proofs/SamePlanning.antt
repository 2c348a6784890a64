-- Two plannings that agree in all that a call which plans gives: where its checks agree too, what is given of the one is
-- given of the other.
-- Assumes nothing.
use Rattle.std.specs.Prelude.{Ok, Err}
use Prim.Native.Nat.{ℕ, ◌≤◌}
use mathlib.Core.Path.{◌≡◌, refl, subst, ◌∙◌}
use mathlib.Core.List.{List}
use Rattle.selection.specs.Plan.{Fitting, IsPlanned}
use Rattle.selection.specs.Same.{Same}
use Rattle.selection.proofs.Same.{load_same, planned_same}
use Rattle.taskset.specs.Refusals.{number, second, Check}
use Rattle.taskset.specs.Planning.{Planning}
use Rattle.taskset.specs.Calls.{planner_values, Selected, HoldsPlan, PlanGives, Cleared, WorkAfter}
use Rattle.taskset.proofs.Checks.{AllAgree, agree_accepts, agree_refuses}
use Rattle.taskset.specs.Answers.{PlannerAnswer}

-- There is a rate, and energies are the same where a plan fits.
pub record SamePlanning (m n : Planning) : Type 0 where
  pub problems : Same m.problem n.problem
  pub some_rate : 1 ≤ m.problem.rates
  pub slacks : m.slack ≡ n.slack
  pub hypers : m.hyper ≡ n.hyper
  pub energies : (P : List ℕ) → Fitting m.problem P → m.energy P ≡ n.energy P

module _ {m n : Planning} (alike : SamePlanning m n) where
  selected_same : (P values : List ℕ) → Selected m P values → Selected n P values
  selected_same P values c =
      let ok = c.planned.chosen.ok in
      let load = load_same m.problem n.problem alike.problems P ok.plan in
      let hyper = alike.hypers in
      let reported = alike.energies P ok in
      record {
        exponent = c.exponent;
        planned =
            subst (λ (g : ℕ). IsPlanned n.problem g c.exponent P) alike.slacks
            (planned_same m.problem n.problem alike.problems alike.some_rate m.slack c.exponent P c.planned);
        values_are = c.values_are ∙ cc;
      }

  pub plan_same : {cs ds : List Check} → AllAgree cs ds → (plan plan' : List ℕ) (x : PlannerAnswer)
      → PlanGives cs m plan plan' x → PlanGives ds n plan plan' x
  plan_same agree plan plan' (Ok p) g = (
    agree_accepts agree g.0,
    (
      g.1.0,
      selected_same g.1.0 (planner_values (Ok p)) g.1.1,
      subst (λ (k : ℕ). HoldsPlan k g.1.0 plan plan') alike.problems.count g.1.2,
    ),
  )
  plan_same agree plan plan' (Err r) g = (agree_refuses agree (number r) (second r) g.0, g.1)

pub work-after_same : {v w : ℕ} → v ≡ w → (work work' : List ℕ) (x : PlannerAnswer)
    → WorkAfter v work work' x → WorkAfter w work work' x
work-after_same e work work' (Ok p) g = subst (λ (k : ℕ). Cleared k work work') e g
work-after_same e work work' (Err r) g = g

-- A call that clears no words leaves them as they were.
pub untouched : (work : List ℕ) (x : PlannerAnswer) → WorkAfter 0 work work x
untouched work (Ok p) = refl
untouched work (Err r) = refl
