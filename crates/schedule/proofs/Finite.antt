-- A finite walk says 'kept' exactly where no tick up to its last misses, so wherever its tasks keep every deadline for
-- ever, and then each of its ticks is busy or idle. That of periodic tasks to L says it exactly where they keep every
-- deadline for ever, and then its busy ticks are the load.
-- Assumes nothing.
use Prim.Native.Nat.{ℕ, zero, suc, ◌+◌, ◌≤◌, ◌<◌}
use mathlib.Core.Path.{◌≡◌, refl, sym, ap, subst, ◌∙◌}
use mathlib.Core.Bool.{Bool, false, cond}
use mathlib.Core.List.{List}
use mathlib.Core.Logic.{⊎_elim, ◌↔◌}
use native.Mathlib.Omega.{arith}
use native.Mathlib.Nat.{eq-or-lt_of_le, zero-add, add-zero, suc-add, add-suc}
use Rattle.numbers.proofs.Sums.{sum}
use Rattle.numbers.specs.Numbers.{All, over}
use Rattle.numbers.proofs.Tests.{bool_cases}
use Rattle.schedule.specs.Walk.{Task, misses, KeepsForEver}
use Rattle.schedule.specs.Counted.{kept, busy_at, idle_at, missed_at, kept_to, walk_from, walk, IsKept}
use Rattle.schedule.proofs.Demand.{load}
use Rattle.schedule.proofs.Done.{busy_or-idle}
use Rattle.schedule.proofs.Periodic.{Regular, kept_busy, kept_fits, keeps_iff_fits}

kept_from : (ks : List Task) (t n : ℕ) → IsKept (walk_from ks t n) → (u : ℕ) → t ≤ u → u ≤ t + n → misses ks u ≡ false
kept_from ks t zero h u a b =
    ⊎_elim
    (λ e. absurd (subst IsKept (ap (λ (x : Bool). cond x (missed_at ks t) (kept_to ks t)) e) h))
    (λ e. let q : u ≡ t = omega arith in rw q e)
    (bool_cases (misses ks t))
kept_from ks t (suc n) h u a b =
    ⊎_elim
    (λ e. absurd (subst IsKept (ap (λ (x : Bool). cond x (missed_at ks t) (walk_from ks (suc t) n)) e) h))
    (λ e.
    ⊎_elim
    (λ (q : t ≡ u). rw (← q) e)
    (λ (q : t < u). kept_from ks (suc t) n (subst IsKept (ap (λ (x : Bool). cond x (missed_at ks t) (walk_from ks (suc t) n)) e) h) u q (omega arith))
    (eq-or-lt_of_le a))
    (bool_cases (misses ks t))

keeps_from : (ks : List Task) (t n : ℕ) → ((u : ℕ) → t ≤ u → u ≤ t + n → misses ks u ≡ false) → walk_from ks t n ≡ kept_to ks (t + n)
keeps_from ks t zero h = rw (h t (omega arith) (omega arith), add-zero t) refl
keeps_from ks t (suc n) h =
    rw (h t (omega arith) (omega arith))
    (keeps_from ks (suc t) n (λ u a b. h u (omega arith) (omega arith)) ∙ ap (kept_to ks) (suc-add t n ∙ sym (add-suc t n)))

module _ (ks : List Task) (L : ℕ) where
  -- 'kept' means that no tick from 0 to L misses.
  pub kept_misses-none : IsKept (walk ks L) → (t : ℕ) → t ≤ L → misses ks t ≡ false
  kept_misses-none h t l = kept_from ks 0 L h t (omega arith) (omega arith)

  pub misses-none_kept : ((t : ℕ) → t ≤ L → misses ks t ≡ false) → walk ks L ≡ kept_to ks L
  misses-none_kept h = keeps_from ks 0 L (λ u a b. h u (omega arith)) ∙ ap (kept_to ks) (zero-add L)

  pub keeps_kept : KeepsForEver ks → IsKept (walk ks L)
  keeps_kept h = rw (misses-none_kept (λ t l. h t)) tt

  -- The counts of a kept walk.
  module _ (busy idle preempted : ℕ) (e : walk ks L ≡ kept busy idle preempted) where
    kept_none : (t : ℕ) → t ≤ L → misses ks t ≡ false
    kept_none = kept_misses-none (rw e tt)

    busy_is : busy ≡ over (busy_at ks) 0 L
    busy_is = let f = misses-none_kept kept_none in cc

    pub busy_and-idle : busy + idle ≡ L
    busy_and-idle =
        let f = misses-none_kept kept_none in
        let i : idle ≡ over (idle_at ks) 0 L = cc in
        omega (arith, busy_is, busy_or-idle ks 0 L)

    pub busy_is_load : 0 < L → All (Regular L) ks → busy ≡ sum (load L) ks
    busy_is_load pos regular = busy_is ∙ kept_busy L ks pos regular kept_none

  pub kept_iff_keeps : 0 < L → All (Regular L) ks → IsKept (walk ks L) ↔ KeepsForEver ks
  kept_iff_keeps pos regular = (
    λ h. (keeps_iff_fits L ks pos regular).1 (kept_fits L ks pos regular (kept_misses-none h)),
    keeps_kept,
  )
