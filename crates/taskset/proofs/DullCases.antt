-- The edges of document 02's note 7, proved of the definitions: which powers are over 1,000,000, and where 11 stands
-- among the dull engine's checks. The plans that it gives are in WorkedDull.antt.
-- Assumes nothing.
use Prim.Native.Nat.{ℕ, zero, suc, ◌^◌, ◌≤◌, ◌<◌}
use native.Mathlib.Bridge.{le_by_compare, IsLe}
use mathlib.Core.Path.{◌≡◌, refl}
use mathlib.Core.List.{List, [], ◌∷◌, ◌++◌}
use native.Mathlib.Omega.{arith}
use lib.ListN.{length, replicate}
use Rattle.numbers.specs.Numbers.{each, gcd_in, gcd, lcm, running}
use Rattle.numbers.proofs.Search.{seek}
use Rattle.selection.specs.Plan.{most_plans}
use Rattle.layout.specs.Words.{head_kinds, extra_kinds, kind_in, kind_at, head_kind, task_kind, allows, rate_count, task_count}
use Rattle.layout.specs.declared.Layout.TheVariants.{Ordinary}
use Rattle.taskset.specs.Refusals.{Passes, ◌▹◌}
use Rattle.taskset.specs.Refusals.{many_check, planner_checks}
use Rattle.taskset.specs.declared.Engine.TheVariants.{Exhaustive}
use Rattle.taskset.specs.declared.Refusal.{Refusal}
use Rattle.taskset.specs.declared.Refusal.TheVariants.{TooLong, TooManyPlans}
use Rattle.taskset.proofs.Checks.{nothing, same, refuses_early, refuses_next}
use Rattle.taskset.proofs.Verdict.{is_bad, is_fall, is_over, is_below, has_below, shape_of}
use Rattle.taskset.proofs.Verdict.{cover_of, after_shape, covered_of}
use Rattle.taskset.proofs.Declined.{Declines, set, answered, set_refused}
use Rattle.taskset.specs.Answers.{ok_measured}

-- n tasks of 1 cycle, released together, with m energies of 1; the last has period p, the others q.
tasks : ℕ → ℕ → ℕ → ℕ → List ℕ
tasks m p q zero = []
tasks m p q (suc zero) = p ∷ 1 ∷ 0 ∷ replicate m 1
tasks m p q (suc (suc n)) = (q ∷ 1 ∷ 0 ∷ replicate m 1) ++ tasks m p q (suc n)

-- Slack 100, the rates 1 to m, and these tasks.
many : ℕ → ℕ → ℕ → ℕ → List ℕ
many m n p q = 100 ∷ 0 ∷ m ∷ (each (λ r. r) 1 m ++ (n ∷ tasks m p q n))

abbrev pub DullDeclined : List ℕ → Refusal → Type 0
DullDeclined = Declines Exhaustive

module _ (s : List ℕ) where
  too_many : (m n l : ℕ) → covered_of Ordinary s ≡ ok_measured m n l
      → most_plans < rate_count Ordinary s ^ task_count Ordinary s → DullDeclined s TooManyPlans
  too_many m n l e over plan work = (
    (
      refuses_early (set Ordinary s ▹ many_check Ordinary s) (planner_checks Exhaustive s (length plan) (length work))
          (same (same (same (same (same nothing)))))
          11 0 (refuses_next (set Ordinary s) (many_check Ordinary s) 0 (answered Ordinary s (ok_measured m n l) e).0 (refl, over)),
      refl,
    ),
    refl,
  )

  pub few : rate_count Ordinary s ^ task_count Ordinary s ≤ most_plans → Passes (many_check Ordinary s)
  few h k many = omega (arith, many.1)

pub record DullCases : Type 0 where
  -- "11, M to the power N is over 1,000,000, with 0". The most that are not over: 2^19, 3^12 and 7^7 = 823,543; the
  -- fewest that are: 2^20 = 1,048,576; and the most there are, 8^32. 11 stands before 6 and 7: a plan list of no words
  -- makes no difference.
  plans_2_19 : Passes (many_check Ordinary (many 2 19 100 100))
  plans_3_12 : Passes (many_check Ordinary (many 3 12 100 100))
  plans_7_7 : Passes (many_check Ordinary (many 7 7 100 100))
  plans_2_20 : DullDeclined (many 2 20 100 100) TooManyPlans
  plans_8_32 : DullDeclined (many 8 32 100 100) TooManyPlans
  -- ".. after 4": the 20th period passes the limit, and that is refused.
  after_4 : DullDeclined (many 2 20 9999999 10000000) (TooLong 101)

pub dull_cases : DullCases
unfolding many tasks covered_of shape_of cover_of after_shape is_bad is_fall is_over is_below has_below head_kinds extra_kinds kind_in kind_at head_kind task_kind allows seek gcd_in gcd lcm running IsLe
dull_cases = record {
  plans_2_19 = few (many 2 19 100 100) (le_by_compare _ _ tt);
  plans_3_12 = few (many 3 12 100 100) (le_by_compare _ _ tt);
  plans_7_7 = few (many 7 7 100 100) (le_by_compare _ _ tt);
  plans_2_20 = too_many (many 2 20 100 100) 2 20 100 refl (le_by_compare _ _ tt);
  plans_8_32 = too_many (many 8 32 100 100) 8 32 100 refl (le_by_compare _ _ tt);
  after_4 = set_refused Exhaustive (many 2 20 9999999 10000000) (TooLong 101) refl;
}
