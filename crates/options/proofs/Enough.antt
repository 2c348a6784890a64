-- The checks of a call that plans, up to 6: 2, 3, 10 and 4, then one of its own, c, then the plan list.
-- Assumes nothing.
use Rattle.std.specs.Prelude.{Ok, Err}
use Prim.Native.Nat.{ℕ, ◌≤◌, ◌<◌}
use mathlib.Core.Path.{refl}
use mathlib.Core.List.{List, [], ◌∷◌}
use native.Mathlib.Omega.{arith}
use Rattle.layout.specs.Words.{task_count}
use Rattle.layout.specs.declared.Layout.{Layout}
use Rattle.layout.proofs.Whole.{whole_of}
use Rattle.taskset.specs.Refusals.{number, second, Check, Passes, Accepts}
use Rattle.taskset.specs.Refusals.{◌▹◌, idle_checks, hyper_check, room_check}
use Rattle.taskset.specs.Calls.{SetAfter}
use Rattle.taskset.specs.declared.Refusal.{Refusal}
use Rattle.taskset.specs.declared.Refusal.TheVariants.{TooShort}
use Rattle.checks.specs.Steps.{OfCounts, PassedAfter}
use Rattle.taskset.proofs.Checks.{no_word_fault, accepts_next, refuses_next, refuses_back, refuses_before, passed}
use Rattle.taskset.specs.declared.Measured.{Measured}

-- A set that passes checks 2, 3, 10 and 4: what the checks answered.
pub record SetPassed (layout : Layout) (s : List ℕ) (p : Measured) : Type 0 where
  pub after : SetAfter (idle_checks layout s ▹ hyper_check layout s) layout s (Ok p)

-- Its counts are the list's own.
pub counts_of : {layout : Layout} {s : List ℕ} {p : Measured} → SetPassed layout s p → OfCounts layout p.rates p.tasks s
counts_of {layout} {s} passed-set = record {
  whole =
      whole_of layout s
      (no_word_fault layout s (passed 2 (idle_checks layout s ▹ hyper_check layout s) refl passed-set.after.0));
  counted = passed-set.after.1;
  numbered = passed-set.after.2;
}

module _ (layout : Layout) (s : List ℕ) (c : Check) (planLength : ℕ) where
  abbrev set : List Check
  set = idle_checks layout s ▹ hyper_check layout s

  abbrev room : Check
  room = room_check (task_count layout s) planLength

  -- A refusal of the set is this call's.
  pub set_refused : (r : Refusal) → SetAfter set layout s (Err r)
      → SetAfter (set ▹ c ▹ room) layout s (Err r)
  set_refused r h = refuses_before (set ▹ c) room (number r) (second r) (refuses_before set c (number r) (second r) h)

  module _ {p : Measured} (passed-set : SetPassed layout s p) where
    good : SetAfter set layout s (Ok p)
    good = passed-set.after

    -- The call's own check holds.
    pub own_refused : (r : Refusal) → PassedAfter (c ∷ []) (Err r) → SetAfter (set ▹ c ▹ room) layout s (Err r)
    own_refused r h =
        refuses_before (set ▹ c) room (number r) (second r) (refuses_back set (c ∷ []) (number r) (second r) good.0 h)

    -- It passes, and the plan list is too short, or long enough.
    module _ (pass : Passes c) where
      own : Accepts (set ▹ c)
      own = accepts_next set c good.0 pass

      pub plan_short : planLength < p.tasks → SetAfter (set ▹ c ▹ room) layout s (Err (TooShort p.tasks))
      plan_short h = refuses_next (set ▹ c) room p.tasks own (omega (arith, good.2), good.2)

      pub is_ready : p.tasks ≤ planLength → SetAfter (set ▹ c ▹ room) layout s (Ok p)
      is_ready h = (accepts_next (set ▹ c) room own (λ k x. omega (arith, x.0, good.2)), good.1, good.2, good.3)
