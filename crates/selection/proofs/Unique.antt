-- There is at most one chosen plan and one unit used, so at most one plan selected.
-- Assumes nothing.
use Prim.Native.Nat.{ℕ, zero, suc, ◌*◌, ◌^◌, ◌≤◌, ◌<◌}
use mathlib.Core.Path.{◌≡◌, sym, ap, ◌∙◌}
use mathlib.Core.List.{List}
use mathlib.Core.Logic.{inl, inr, ⊎_elim}
use native.Mathlib.Nat.{le_antisymm, le_of_suc-le-suc, lt_of_not-le}
use native.Mathlib.Omega.{arith}
use lib.ListN.{length, get_or}
use lib.Seq.{ext_get_or}
use Rattle.numbers.proofs.Tests.{below_more}
use Rattle.numbers.proofs.Powers.{power_unique}
use Rattle.selection.specs.Plan.{Problem, plan_load, plan_energy, rounded, NotAfter, IsChosenOf, fastest, QualifiesOf, FallsShortOf, IsUsedOf, IsPlannedOf}
use Rattle.selection.proofs.Bounds.{least_unique}

pub not-after-both : (n : ℕ) (P Q : List ℕ) → NotAfter n P Q → NotAfter n Q P
    → (t : ℕ) → t < n → get_or P t 0 ≡ get_or Q t 0
not-after-both zero P Q a b t l = absurd (omega arith)
not-after-both (suc n) P Q (inl a) (inl b) t l = absurd (omega arith)
not-after-both (suc n) P Q (inl a) (inr b) t l = absurd (omega arith)
not-after-both (suc n) P Q (inr a) (inl b) t l = absurd (omega arith)
not-after-both (suc n) P Q (inr a) (inr b) t l = below_more {P = λ t. get_or P t 0 ≡ get_or Q t 0} (not-after-both n P Q a.1 b.1) a.0 t l

module _ (Ok : List ℕ → Type 0) (p : Problem) (sized : (P : List ℕ) → Ok P → length P ≡ p.count) where
  -- Two chosen plans have the same rounded energy, then the same load, then the same rate numbers.
  pub chosen_unique : (d : ℕ) (P Q : List ℕ) → IsChosenOf Ok p d P → IsChosenOf Ok p d Q → P ≡ Q
  chosen_unique d P Q a b =
      let r : rounded p d P ≡ rounded p d Q = le_antisymm (a.least_energy Q b.ok) (b.least_energy P a.ok) in
      let w : plan_load p P ≡ plan_load p Q = omega (arith, a.least_load Q b.ok (omega arith), b.least_load P a.ok (omega arith)) in
      let same : (t : ℕ) → t < p.count → get_or P t 0 ≡ get_or Q t 0
      = not-after-both p.count P Q (a.lowest Q b.ok (omega arith) (omega arith)) (b.lowest P a.ok (omega arith) (omega arith)) in
      ext_get_or 0 P Q (sized P a.ok ∙ sym (sized Q b.ok)) (λ i l. same i (omega (arith, sized P a.ok)))

  not-both : (G d : ℕ) → QualifiesOf Ok p G d → FallsShortOf Ok p G d → ⊥
  not-both G d q s = omega (arith, q.2, s.2, ap (λ k. G * k) (least_unique Ok p d q.0 s.0 q.1 s.1))

  pub used_unique : (G a b : ℕ) → IsUsedOf Ok p G a → IsUsedOf Ok p G b → a ≡ b
  used_unique G a b u v = le_antisymm (not_above v u) (not_above u v)
    where
      not_above : {a b : ℕ} → IsUsedOf Ok p G a → IsUsedOf Ok p G b → b ≤ a
      not_above {a} {b} u v =
          ⊎_elim
          (λ (z : b ≡ 0). omega arith)
          (λ q. le_of_suc-le-suc (lt_of_not-le (λ (x : a < b).
          not-both G (2 ^ b) q (u.goes_on b (omega arith) (omega (arith, v.tried, power_unique (plan_energy p (fastest p)) u.first v.first u.is_first v.is_first))))))
          v.stops

  pub planned_unique : (G a b : ℕ) (P Q : List ℕ) → IsPlannedOf Ok p G a P → IsPlannedOf Ok p G b Q → (a ≡ b) × (P ≡ Q)
  planned_unique G a b P Q x y =
      let e : a ≡ b = used_unique G a b x.used y.used in
      (e, chosen_unique (2 ^ b) P Q (rw e at x.chosen) y.chosen)
