-- The planner and the dull engine over the contracts of their calls, and of their C entries: "where both succeed the
-- four numbers and the plan list are equal" (document 02, note 7); 5 and 11 apart, all is.
-- Assumes nothing.
use Prim.Native.Nat.{ℕ, ◌+◌, ◌*◌, ◌^◌}
use mathlib.Core.Path.{◌≡◌, sym, ◌∙◌}
use mathlib.Core.List.{List, [], ◌∷◌, ◌++◌}
use mathlib.Core.Logic.{inl, inr, ⊎_elim}
use native.Mathlib.Omega.{arith}
use lib.ListN.{length}
use Rattle.selection.specs.Plan.{Fitting}
use Rattle.layout.specs.Words.{task_count}
use Rattle.layout.specs.declared.Layout.TheVariants.{Ordinary}
use Rattle.taskset.specs.Quantities.{problem_of, work_needed}
use Rattle.taskset.specs.Refusals.{number, second, Check, work_check, many_check, room_check, none_check}
use Rattle.taskset.specs.Calls.{code, planner_values, PlanGives}
use Rattle.taskset.specs.declared.Engine.TheVariants.{Table, Exhaustive}
use Rattle.taskset.specs.declared.Refusal.{Refusal}
use Rattle.taskset.proofs.Checks.{AllSingle, accepts_back, accepts_leave, refuses_leave}
use Rattle.taskset.proofs.Unique.{short_single, none_single, single_next, covered_single, plan_unique}
use Rattle.taskset.proofs.TwoEngines.{refused_with, both, set, rest, both_single, leave, one_answer}
use Rattle.planner.specs.Answers.{PlannerCall}
use Rattle.entries.specs.Entry.{result_size, EntryGives, PlanEntry, DullEntry}
use Rattle.entries.proofs.Unique.{entry_unique}
use Rattle.taskset.specs.Answers.{PlannerAnswer}

-- ---- the calls. On one list and one plan list, unless the planner refuses with 5 or the dull engine with 11, there is
-- one answer, a plan's four numbers or a refusal, and one plan list, whatever working words are lent.
pub calls_agree : (s plan work other plan₁ work₁ plan₂ other₂ : List ℕ) (a b : PlannerAnswer)
    → PlannerCall (Table Ordinary) s plan work plan₁ work₁ a → PlannerCall Exhaustive s plan other plan₂ other₂ b
    → (refused_with a ≡ 5 → ⊥) → (refused_with b ≡ 11 → ⊥) → (a ≡ b) × (plan₁ ≡ plan₂)
calls_agree s plan work other plan₁ work₁ plan₂ other₂ a b x y =
    one_answer s plan work other plan₁ work₁ plan₂ other₂ a b x.gives y.gives

-- ---- the entries. Unless the planner's returns 5 with W or the dull engine's 11, both return the same number, and leave
-- the same plan list and the same result bytes.
module _ (s plan d : List ℕ) where
  -- The checks that both make after 5 or 11.
  abbrev after : List Check
  after =
      room_check (task_count Ordinary s) (length plan) ∷ room_check result_size (length d) ∷
      none_check (Fitting (problem_of Ordinary s)) ∷ []

  after_single : AllSingle (set s ++ after)
  after_single =
      single_next (set s ++ (room_check (task_count Ordinary s) (length plan) ∷ room_check result_size (length d) ∷ []))
      (none_check (Fitting (problem_of Ordinary s)))
      (single_next (set s ++ (room_check (task_count Ordinary s) (length plan) ∷ [])) (room_check result_size (length d))
      (single_next (set s) (room_check (task_count Ordinary s) (length plan)) (covered_single Ordinary s)
      (short_single (task_count Ordinary s) (length plan)))
      (short_single result_size (length d)))
      (none_single (Fitting (problem_of Ordinary s)))

  -- What an entry gives is what it would give without a check c that is not the one that refuses.
  module _ (c : Check) (x : ℕ) (other : (r : Refusal) → x ≡ code r → (number r ≡ c.number) × c.cause (second r) → ⊥)
      (plan' : List ℕ) (Gives : PlannerAnswer → Type 0) (Unchanged : Type 0)
      (gives : (a : PlannerAnswer) → Gives a → PlanGives (set s ++ (c ∷ rest s (length plan))) (both s) plan plan' a)
      (same : Unchanged → plan' ≡ plan) where
    without : (d' : List ℕ) → EntryGives (set s ++ (c ∷ after)) Gives planner_values Unchanged d d' x
        → EntryGives (set s ++ after) (PlanGives (set s ++ rest s (length plan)) (both s) plan plan') planner_values
        (plan' ≡ plan) d d' x
    without d' =
        ⊎_elim
        (λ g. inl (
          g.0,
          accepts_leave c after (set s) g.1,
          leave (set s) c (rest s (length plan)) (both s) plan plan' g.0
              (λ k h. (accepts_back (set s) (c ∷ after) g.1).0 k h.1) (gives g.0 g.2),
          g.3,
          g.4,
        ))
        (λ g. inr (
          g.0,
          refuses_leave c after (set s) (number g.0) (second g.0) (other g.0 g.2) g.1,
          g.2,
          same g.3,
          g.4,
        ))

  pub entries_agree : (work plan₁ work₁ d₁ plan₂ d₂ : List ℕ) (x y : ℕ)
      → (x ≡ 5 * 2 ^ 32 + work_needed Ordinary s → ⊥) → (y ≡ 11 * 2 ^ 32 → ⊥)
      → PlanEntry (Table Ordinary) s plan work d plan₁ work₁ d₁ x → DullEntry s plan d plan₂ d₂ y
      → (x ≡ y) × (plan₁ ≡ plan₂) × (d₁ ≡ d₂)
  entries_agree work plan₁ work₁ d₁ plan₂ d₂ x y not-5 not-11 g h =
      entry_unique (set s ++ after) after_single (PlanGives (set s ++ rest s (length plan)) (both s) plan)
      planner_values (λ l. l ≡ plan)
      (λ l₁ l₂ a b p q. plan_unique (set s ++ rest s (length plan)) (both_single s (length plan)) (both s) plan l₁ l₂ a b p q)
      (λ l₁ l₂ p q. p ∙ sym q) plan₁ plan₂ d d₁ d₂ x y
      (without (work_check (work_needed Ordinary s) (length work)) x (λ r e z. not-5 (omega (arith, e, z.0, z.1.1)))
      plan₁ _ _ (λ a z. z.0) (λ z. z.0) d₁ g.gives)
      (without (many_check Ordinary s) y (λ r e z. not-11 (omega (arith, e, z.0, z.1.0)))
      plan₂ _ _ (λ a z. z.0) (λ z. z.0) d₂ h.gives)
