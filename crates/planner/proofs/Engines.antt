-- Each engine, from what its call has checked to what it asks, and from what it chose to what the call gives.
-- Assumes nothing.
use Prim.Native.Nat.{ℕ, ◌^◌, ◌≤◌, ◌<◌}
use mathlib.Core.Path.{◌≡◌, refl, ap₂}
use mathlib.Core.List.{List}
use mathlib.Core.Logic.{⊎_elim}
use native.Mathlib.Omega.{arith}
use lib.ListN.{length}
use Rattle.numbers.proofs.Tests.{lt_or_le}
use Rattle.selection.specs.Plan.{work_words, most_plans}
use Rattle.engine.specs.declared.Request.{Request}
use Rattle.layout.specs.Words.{rate_count, task_count}
use Rattle.layout.specs.declared.Layout.TheVariants.{Ordinary}
use Rattle.taskset.specs.Planning.{planning, layout_of, work_of}
use Rattle.taskset.specs.Refusals.{Accepts, ready_checks}
use Rattle.taskset.specs.declared.Engine.{Engine}
use Rattle.taskset.specs.declared.Engine.TheVariants.{Table, Exhaustive}
use Rattle.taskset.specs.Sets.{IsSet}
use Rattle.taskset.proofs.Checks.{passed}
use Rattle.options.specs.Posed.{Poses}
use Rattle.options.proofs.Planning.{long_enough, engine_ready}
use Rattle.planner.specs.Engines.{Asks, clears, EngineAsked}

-- ---- what an engine asks, of a request for a list that has passed the checks before 7
own_asks : (e : Engine) (s : List ℕ) (planLength : ℕ) (work : List ℕ) → Accepts (ready_checks e s planLength (length work))
    → IsSet (layout_of e) s → {loads energies : List ℕ} {q : Request}
    → Poses (planning (layout_of e) s) loads energies q → Asks e q work
own_asks (Table layout) s pl work a set p =
    rw (p.slack_is, p.same.count)
    (long_enough _ _ (passed 5 (ready_checks (Table layout) s pl (length work)) refl a))
own_asks Exhaustive s pl work a set p =
    (omega (arith, p.same.count, set.whole.tasks_range.0), rw (p.same.rates, p.same.count) few)
  where
    few : rate_count Ordinary s ^ task_count Ordinary s ≤ most_plans
    few =
        ⊎_elim
        (λ (h : most_plans < rate_count Ordinary s ^ task_count Ordinary s).
        absurd (passed 11 (ready_checks Exhaustive s pl (length work)) refl a 0 (refl, h)))
        (λ (h : rate_count Ordinary s ^ task_count Ordinary s ≤ most_plans). h)
        (lt_or_le most_plans (rate_count Ordinary s ^ task_count Ordinary s))

-- And the words that it clears are those of the list.
pub clears-own : (e : Engine) (s : List ℕ) {loads energies : List ℕ} {q : Request}
    → Poses (planning (layout_of e) s) loads energies q → clears e q ≡ work_of e s
clears-own (Table layout) s p = ap₂ work_words p.same.count p.slack_is
clears-own Exhaustive s p = refl

room_passed : (e : Engine) (s : List ℕ) (planLength workLength : ℕ) → Accepts (ready_checks e s planLength workLength)
    → task_count (layout_of e) s ≤ planLength
room_passed (Table layout) s pl wl a = long_enough _ _ (passed 6 (ready_checks (Table layout) s pl wl) refl a)
room_passed Exhaustive s pl wl a = long_enough _ _ (passed 6 (ready_checks Exhaustive s pl wl) refl a)

pub asked : (e : Engine) (s plan work : List ℕ) → Accepts (ready_checks e s (length plan) (length work)) → IsSet (layout_of e) s
    → {loads energies : List ℕ} {q : Request} → Poses (planning (layout_of e) s) loads energies q
    → EngineAsked e q loads energies plan work
asked e s plan work a set p = record {
  engine = engine_ready p (room_passed e s (length plan) (length work) a);
  own = own_asks e s (length plan) work a set p;
}
