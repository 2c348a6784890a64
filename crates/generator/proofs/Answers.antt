-- From the checks and the words to the call's answer.
-- Assumes nothing.
use Rattle.std.specs.Prelude.{Ok, Err}
use Rattle.std.proofs.Common.{◌≡◌, ℕ, ◌^◌, ◌<◌, ◌≤◌, true, false, List, [], ◌∷◌, length, sym, refl, ◌∙◌, subst, inl, ⊎_elim, true≢false, arith, Ok, Err}
use Rattle.numbers.specs.Numbers.{between}
use Rattle.numbers.proofs.Tests.{bool_cases, lt_or_le, between_true}
use Rattle.layout.specs.Words.{most_tasks, period_place}
use Rattle.layout.specs.declared.Layout.TheVariants.{Ordinary}
use Rattle.layout.proofs.Layouts.{words_few}
use Rattle.taskset.specs.Refusals.{Passes, Accepts, Refuses, room_check}
use Rattle.taskset.specs.declared.Refusal.{Refusal}
use Rattle.taskset.specs.declared.Refusal.TheVariants.{BadWord, TooShort}
use Rattle.taskset.proofs.Checks.{accepts_next, refuses_next, refuses_before}
use Rattle.taskset.proofs.Copied.{copied, front_is}
use Rattle.lists.specs.Writing.{placed}
use Rattle.draws.specs.Generated.{five_rates, generated}
use Rattle.draws.specs.Calls.{count_check, generator_checks, PassesChecks, GeneratorCall}
use Rattle.generator.specs.Steps.{RoomAfter}
use Rattle.draws.proofs.Sizes.{set_size}
use Rattle.draws.proofs.Passing.{passes_checks}

-- ---- the checks
in_count : (n : ℕ) → Passes (count_check n) → (1 ≤ n) × (n ≤ most_tasks)
in_count n pass =
    ⊎_elim
    (λ (e : between 1 most_tasks n ≡ true). between_true 1 most_tasks n e)
    (λ (e : between 1 most_tasks n ≡ false). absurd (pass _ (e, refl)))
    (bool_cases (between 1 most_tasks n))

module _ (n lent : ℕ) where
  pub count_refused : between 1 most_tasks n ≡ false → RoomAfter n lent (Err (BadWord 0))
  count_refused e seed = refuses_before (count_check n ∷ []) (room_check (length (generated seed n)) lent) 2 0 (inl (refl, (e, refl)))

  module _ (in_range : between 1 most_tasks n ≡ true) (k : ℕ) (needed : k ≡ period_place Ordinary five_rates n) where
    counted : Accepts (count_check n ∷ [])
    counted = ((λ j h. true≢false (sym in_range ∙ h.0)), tt)

    pub room_refused : lent < k → RoomAfter n lent (Err (TooShort k))
    room_refused h seed =
        let size = set_size seed n in
        refuses_next (count_check n ∷ []) (room_check (length (generated seed n)) lent) k counted (omega arith, needed ∙ sym size)

    pub room-enough : k ≤ lent → RoomAfter n lent (Ok k)
    room-enough h seed =
        let size = set_size seed n in
        let room = room_check (length (generated seed n)) lent in
        (accepts_next (count_check n ∷ []) room counted (λ j f. omega (arith, f.0)), needed ∙ sym size)

-- A second number is small.
pub second_small : (seed n lent m k : ℕ) → Refuses (generator_checks seed n lent) m k → k < 2 ^ 32
second_small seed n lent m k h = ⊎_elim (λ a. omega (arith, a.1.1)) (λ b. later b.0 b.1) h
  where
    later : Passes (count_check n) → Refuses (room_check (length (generated seed n)) lent ∷ []) m k → k < 2 ^ 32
    later pass r =
        ⊎_elim
        (λ a. omega (arith, a.1.1, set_size seed n, words_few five_rates n (omega arith) (in_count n pass).1))
        (λ b. absurd b.1) r

-- ---- the answer
module _ (seed n : ℕ) (d : List ℕ) where
  -- A refusal of the checks is the call's, and changes nothing.
  pub refused : (r : Refusal) → RoomAfter n (length d) (Err r) → GeneratorCall seed n d d (Err r)
  refused r h = record { gives = (h seed, refl); owes = tt }

  -- What passes them has 1 to 32 tasks, and room.
  module _ (k : ℕ) (room : RoomAfter n (length d) (Ok k)) where
    pub count_range : (1 ≤ n) × (n ≤ most_tasks)
    count_range = in_count n (room seed).0.0

    pub fits : length (generated seed n) ≤ length d
    fits =
        ⊎_elim
        (λ (h : length d < length (generated seed n)). absurd ((room seed).0.1.0 (length (generated seed n)) (h, refl)))
        (λ (h : length (generated seed n) ≤ length d). h)
        (lt_or_le (length d) (length (generated seed n)))

    pub wrote : (d' : List ℕ) → d' ≡ placed (generated seed n) d → GeneratorCall seed n d d' (Ok k)
    unfolding placed
    wrote d' e =
        let c = copied (generated seed n) d d' k (room seed).1 e in
        record {
          gives = ((room seed).0, c);
          owes = subst PassesChecks (sym (front_is (generated seed n) d d' k c)) (passes_checks seed n count_range.0 count_range.1);
        }
