-- From the unit used and its table to the plan, its sums, and every word of the two lists.
-- Assumes nothing.
use Prim.Native.Nat.{ℕ, ◌+◌, ◌*◌, ◌^◌, ◌≤◌}
use mathlib.Core.Path.{◌≡◌, sym, ap, ap₂, ◌∙◌}
use mathlib.Core.List.{List, ◌++◌}
use native.Mathlib.Omega.{arith}
use lib.ListN.{length, take, drop, replicate, length-replicate, length-take}
use lib.ListN.{length-drop, length-append}
use Rattle.numbers.specs.Numbers.{total}
use Rattle.selection.specs.Plan.{Fitting, IsChosenOf, last_column, work_words}
use Rattle.selection.proofs.Bounds.{last_small}
use Rattle.selection.proofs.Agree.{way_places}
use Rattle.engine.specs.declared.Request.{Request}
use Rattle.engine.specs.Arrays.{option_at, load_bound, Small, SumReady, arrays}
use Rattle.engine.proofs.Writing.{zeros_at, rest_same}
use Rattle.engine.proofs.Chosen.{front_size, front_at, sum_ready, chosen_by}
use Rattle.table.specs.Rows.{Framed}
use Rattle.choice.specs.declared.Used.{Used}
use Rattle.choice.specs.Choice.{ChoiceReady, Chose}
use Rattle.choice.specs.Units.{frame_of, WayReady, WayTaken, SearchReady, UnitUsed}
use Rattle.choice.proofs.Trying.{narrow_words, chosen_is}

-- ---- the choice
module _ {q : Request} {loads energies plan₀ work₀ : List ℕ} (g : ChoiceReady q loads energies plan₀ work₀) where
  pub search_ready : SearchReady q loads energies (replicate 512 0) work₀
  search_ready = record {
    asked = g.engine.asked;
    energies_fit = g.engine.energies_fit;
    load_none = zeros_at 512;
    work_room = g.work_room;
  }

  pub last_low : last_column q.tasks q.slack ≤ 128000
  last_low = last_small q.tasks q.slack g.engine.asked.tasks g.engine.asked.slacks.0

  module _ {load cost work : List ℕ} {o : Used} (u : UnitUsed q loads energies work₀ load cost work o) where
    pub framed : Framed o.frame load
    framed = rw u.frame_is (record {
      tasks = g.engine.asked.tasks;
      rates = g.engine.asked.rates.1;
      small = omega (arith, g.engine.asked.small);
      loads = u.loads_low;
    })

    pub way_ready : WayReady o.frame o.least cost load work plan₀
    way_ready = rw u.frame_is (record {
      holds = u.holds;
      place = u.place;
      some = u.some;
      room = g.engine.plan_room;
    })

    -- The table used is no larger than the words that are cleared.
    pub own-words : (q.tasks + 1) * o.frame.columns ≤ work_words q.tasks q.slack
    own-words = narrow_words q.tasks q.slack o.frame.columns u.narrow

    module _ {plan : List ℕ} (taken : WayTaken o.frame o.least cost load plan₀ plan) where
      w : WayTaken (frame_of q (q.limit + 1) o.frame.columns) o.least cost load plan₀ plan
      w = rw u.frame_is at taken

      chosen : IsChosenOf (Fitting (arrays q loads energies)) (arrays q loads energies) (2 ^ u.exponent) (take q.tasks plan)
      chosen =
          chosen_is q loads energies load cost u.exponent g.engine.asked.rates.1 u.loads_cut u.costs
          o.least u.some u.before
          (take q.tasks plan) (front_size g.engine plan w.same)
          (way_places (option_at cost) (option_at load) q.rates (q.limit + 1) q.tasks o.least plan (take q.tasks plan)
          (λ t l. sym (front_at g.engine plan w.same t l)) w.way)

      pub plan_ready : (options : List ℕ) → Small load_bound options → SumReady q.tasks options plan
      plan_ready = sum_ready g.engine plan w.same u.exponent chosen

      pub chose : {z : List ℕ} {l e f : ℕ} → l ≡ total (option_at loads) q.tasks plan
          → e ≡ total (option_at energies) q.tasks plan → f ≡ last_column q.tasks q.slack
          → z ≡ replicate (length (take ((q.tasks + 1) * (f + 1)) work)) 0
          → Chose q loads energies plan₀ work₀ plan (z ++ drop ((q.tasks + 1) * (f + 1)) work) (record { unit = o.unit; load = l; energy = e })
      chose {z} {l} {e} {f} x y is zeros =
          let words : ℕ = work_words q.tasks q.slack in
          let all : (q.tasks + 1) * (f + 1) ≡ words = ap (λ (k : ℕ). (q.tasks + 1) * (k + 1)) is in
          let size : length (take ((q.tasks + 1) * (f + 1)) work) ≡ words =
          omega (arith, all, length-take ((q.tasks + 1) * (f + 1)) work, u.work_size, g.work_room) in
          let cleared : z ++ drop ((q.tasks + 1) * (f + 1)) work ≡ replicate words 0 ++ drop words work₀ =
          rw all
          (ap₂ (λ (a b : List ℕ). a ++ b) (zeros ∙ ap (λ (k : ℕ). replicate k 0) size)
          (rest_same words work₀ work u.work_size u.above)) in
          record {
            chosen = chosen_by g.engine plan w.same u.exponent chosen u.unit_is u.used x y w.rest;
            cleared = cleared;
            work_size =
                ap length cleared ∙
                omega (
                  arith,
                  length-append (replicate {A = ℕ} words 0) (drop words work₀),
                  length-replicate {A = ℕ} words 0,
                  length-drop words work₀,
                  g.work_room,
                );
          }
