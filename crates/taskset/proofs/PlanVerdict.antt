-- Check 8 as a function that computes, and that its verdict is the one the definition gives.
-- Assumes nothing.
use Prim.Native.Nat.{ℕ, ◌≤◌, ◌<◌, min}
use mathlib.Core.Path.{◌≡◌, refl, sym, ◌∙◌, subst}
use mathlib.Core.Bool.{Bool, cond, not, true≢false}
use mathlib.Core.Option.{Option, none, some}
use mathlib.Core.List.{List}
use mathlib.Core.Logic.{inl, inr, ⊎_elim}
use native.Mathlib.Omega.{arith}
use borrow.Author.Tests.{lt-ltb, le-ltb, not-true, not-false}
use lib.Dec.{ltb}
use lib.ListN.{length, get_or}
use Rattle.numbers.specs.Numbers.{between}
use Rattle.numbers.proofs.Tests.{lt_or_le, cond_true, cond_false}
use Rattle.numbers.proofs.Search.{first, first_holds, first-before}
use Rattle.taskset.specs.Refusals.{PlanFault, IsBadPlan}

module _ (m n : ℕ) (P : List ℕ) where
  unfoldable pub is_unfit : ℕ → Bool
  is_unfit k = not (between 1 m (get_or P k 0))

  -- The first bad word of those that a plan of n words has; the end of these where there is none.
  abbrev pub first_unfit : ℕ
  first_unfit = first is_unfit 0 (min (length P) n)

  -- The second number of refusal 8, or none.
  unfoldable pub plan_verdict : Option ℕ
  plan_verdict =
      cond (ltb first_unfit (min (length P) n)) (some first_unfit)
      (cond (ltb (length P) n) (some (length P))
      (cond (ltb n (length P)) (some n)
      none))

  -- What a verdict says.
  abbrev pub PlanSays : Option ℕ → Type 0
  PlanSays none = (k : ℕ) → PlanFault m n P k → ⊥
  PlanSays (some k) = IsBadPlan m n P k

  -- A fault before the first bad word, or before the end where there is none, is none.
  none_before : (k : ℕ) → k < first_unfit → k < min (length P) n → PlanFault m n P k → ⊥
  unfolding is_unfit
  none_before k l h f =
      ⊎_elim
      (λ w. true≢false (sym (not-false _ (first-before is_unfit 0 (min (length P) n) k (omega arith) l)) ∙ w.1))
      (λ w. ⊎_elim (λ v. absurd (omega arith)) (λ v. absurd (omega arith)) w)
      f

  unfit : first_unfit < min (length P) n → IsBadPlan m n P first_unfit
  unfolding is_unfit
  unfit h = record {
    here = inl (omega arith, not-true _ (first_holds is_unfit 0 (min (length P) n) h));
    before = λ j l f. none_before j l (omega arith) f;
  }

  pub plan_verdict_says : PlanSays plan_verdict
  unfolding plan_verdict
  plan_verdict_says =
      ⊎_elim
      (λ (a : first_unfit < min (length P) n). says (cond_true _ _ _ (lt-ltb _ _ a)) (unfit a))
      (λ (a : min (length P) n ≤ first_unfit).
      ⊎_elim
      (λ (b : length P < n).
      says (cond_false _ _ _ (le-ltb _ _ a) ∙ cond_true _ _ _ (lt-ltb _ _ b))
      (record { here = inr (inl (refl, b)); before = λ j l f. none_before j (omega arith) (omega arith) f }))
      (λ (b : n ≤ length P).
      ⊎_elim
      (λ (c : n < length P).
      says (cond_false _ _ _ (le-ltb _ _ a) ∙ cond_false _ _ _ (le-ltb _ _ b) ∙ cond_true _ _ _ (lt-ltb _ _ c))
      (record { here = inr (inr (refl, c)); before = λ j l f. none_before j (omega arith) (omega arith) f }))
      (λ (c : length P ≤ n).
      says (cond_false _ _ _ (le-ltb _ _ a) ∙ cond_false _ _ _ (le-ltb _ _ b) ∙ cond_false _ _ _ (le-ltb _ _ c)) (λ k f. no_fault a b c k f))
      (lt_or_le n (length P)))
      (lt_or_le (length P) n))
      (lt_or_le first_unfit (min (length P) n))
    where
      says : {x : Option ℕ} → plan_verdict ≡ x → PlanSays x → PlanSays plan_verdict
      says {x} e h = subst PlanSays (sym e) h

      no_fault : min (length P) n ≤ first_unfit → n ≤ length P → length P ≤ n → (k : ℕ) → PlanFault m n P k → ⊥
      no_fault a b c k f =
          ⊎_elim
          (λ w. none_before k (omega (arith, w.0)) (omega (arith, w.0)) f)
          (λ w. ⊎_elim (λ v. absurd (omega arith)) (λ v. absurd (omega arith)) w)
          f
