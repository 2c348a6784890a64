-- "The planner still answers for a common release" (document 02, note 6), and so does the dull engine: the call on two
-- lists that differ in first releases alone. Where both pass check 2, one answer and one plan are given for both, whatever
-- words the lists lent hold, if only their lengths are the same; and where the same lists are lent, the same lists are
-- given back.
-- Assumes nothing.
use mathlib.Core.Path.{◌≡◌}
use mathlib.Core.List.{List}
use Prim.Native.Nat.{ℕ}
use lib.ListN.{length}
use Rattle.taskset.specs.Planning.{planning, layout_of}
use Rattle.taskset.specs.Refusals.{Passes, word_check}
use Rattle.taskset.specs.Calls.{DifferInFirsts, PlannerGives}
use Rattle.taskset.specs.declared.Engine.{Engine}
use Rattle.taskset.proofs.Unique.{SameGiven, planner_unique, SamePlan, planner_by_lengths}
use Rattle.taskset.proofs.Firsts.{alike_of, alike_sym, gives_same}
use Rattle.planner.specs.Answers.{PlannerCall}
use Rattle.taskset.specs.Answers.{PlannerAnswer}

module _ (e : Engine) (s s' : List ℕ) (differ : DifferInFirsts (layout_of e) s s')
    (pass : Passes (word_check (layout_of e) s)) (pass' : Passes (word_check (layout_of e) s')) where
  -- What the call gives for s' is what it would give for s.
  as_for_s : (plan work plan' work' : List ℕ) (b : PlannerAnswer)
      → PlannerCall e s' plan work plan' work' b → PlannerGives e s plan work plan' work' b
  as_for_s plan work plan' work' b y =
      gives_same e s' s (alike_sym (alike_of (layout_of e) s s' differ)) pass' pass plan work plan' work' b y.gives

  pub firsts_ignored : (plan₁ work₁ plan₁' work₁' plan₂ work₂ plan₂' work₂' : List ℕ) (a b : PlannerAnswer)
      → length plan₁ ≡ length plan₂ → length work₁ ≡ length work₂
      → PlannerCall e s plan₁ work₁ plan₁' work₁' a → PlannerCall e s' plan₂ work₂ plan₂' work₂' b
      → SamePlan (planning (layout_of e) s) a b plan₁' plan₂'
  firsts_ignored plan₁ work₁ p₁ w₁ plan₂ work₂ p₂ w₂ a b f g x y =
      planner_by_lengths e s plan₁ work₁ p₁ w₁ plan₂ work₂ p₂ w₂ a b f g x.gives (as_for_s plan₂ work₂ p₂ w₂ b y)

  pub firsts_ignored_throughout : (plan work plan₁ work₁ plan₂ work₂ : List ℕ) (a b : PlannerAnswer)
      → PlannerCall e s plan work plan₁ work₁ a → PlannerCall e s' plan work plan₂ work₂ b → SameGiven a b plan₁ work₁ plan₂ work₂
  firsts_ignored_throughout plan work p₁ w₁ p₂ w₂ a b x y =
      planner_unique e s plan work p₁ w₁ p₂ w₂ a b x.gives (as_for_s plan work p₂ w₂ b y)
