-- What the chosen plan's energy is held to: note 5's margin and demand 3's slack; and that k(d) stays small.
-- All of this is over any Ok, and energies may be 0.
-- Assumes nothing.
use Prim.Native.Nat.{ℕ, suc, ◌+◌, ◌*◌, ◌-◌, ◌/◌, ◌^◌, ◌≤◌, ◌<◌}
use mathlib.Core.Path.{◌≡◌, refl}
use mathlib.Core.List.{List}
use mathlib.Core.Logic.{◌⊎◌, inl, inr}
use native.Mathlib.Nat.{div-mul-le_self, mul-le-mul_left, mul-le-mul_right, le-div_iff_mul-le, pow-succ'}
use native.Mathlib.Omega.{arith}
use lib.ListN.{get_or}
use Rattle.numbers.specs.Numbers.{LeastPower}
use Rattle.numbers.proofs.Rounding.{ceil_covers, ceil-over, ceil-half, ceil_least}
use Rattle.numbers.proofs.Sums.{total_mono, total_scale, total_plus, total_at, total_bound}
use Rattle.numbers.proofs.Powers.{power_positive}
use Rattle.selection.specs.Plan.{Problem, plan_energy, rounded_task, rounded, IsLeastOf, IsChosenOf, fastest, threshold, QualifiesOf, FallsShortOf, IsPlannedOf, last_column}

-- ---- rounding (document 000, equation (4), in whole numbers)
module _ (p : Problem) (d : ℕ) (pos : 0 < d) where
  rounded-task_covers : (t r : ℕ) → p.energy t r ≤ d * rounded_task p d t r
  rounded-task_covers t r = ceil_covers (p.energy t r) d pos

  rounded-task-over : (t r : ℕ) → d * rounded_task p d t r ≤ p.energy t r + (d - 1)
  rounded-task-over t r = ceil-over (p.energy t r) d pos

  rounded-task-half : (t r : ℕ) → rounded_task p d t r ≤ 2 * rounded_task p (2 * d) t r
  rounded-task-half t r = ceil-half (p.energy t r) d pos

  rounded-task_small : (t r : ℕ) → p.energy t r ≤ d → rounded_task p d t r ≤ 1
  rounded-task_small t r h = ceil_least (p.energy t r) d 1 pos (omega arith)

  rounded_covers : (P : List ℕ) → plan_energy p P ≤ d * rounded p d P
  rounded_covers P =
      rw (← total_scale (rounded_task p d) d p.count P)
      (total_mono p.energy (λ t r. d * rounded_task p d t r) p.count P P (λ t l. rounded-task_covers t (get_or P t 0)))

  rounded-over : (P : List ℕ) → d * rounded p d P ≤ plan_energy p P + p.count * (d - 1)
  rounded-over P =
      rw (← total_scale (rounded_task p d) d p.count P, ← total_plus p.energy (d - 1) p.count P)
      (total_mono (λ t r. d * rounded_task p d t r) (λ t r. p.energy t r + (d - 1)) p.count P P (λ t l. rounded-task-over t (get_or P t 0)))

  pub rounded-half : (P : List ℕ) → rounded p d P ≤ 2 * rounded p (2 * d) P
  rounded-half P =
      rw (← total_scale (rounded_task p (2 * d)) 2 p.count P)
      (total_mono (rounded_task p d) (λ t r. 2 * rounded_task p (2 * d) t r) p.count P P (λ t l. rounded-task-half t (get_or P t 0)))

  -- At a unit not below the plan's energy every task rounds to 1 at most.
  pub rounded_small : (P : List ℕ) → plan_energy p P ≤ d → rounded p d P ≤ p.count
  rounded_small P h =
      let each : (t : ℕ) → t < p.count → rounded_task p d t (get_or P t 0) ≤ 1
      = λ t l. rounded-task_small t (get_or P t 0) (omega (arith, total_at p.energy p.count P t l)) in
      omega (arith, total_bound (rounded_task p d) 1 p.count P each)

-- ---- k(d) is one number, and the chosen plan's rounded energy is k(d)
pub least_unique : (Ok : List ℕ → Type 0) (p : Problem) (d j k : ℕ) → IsLeastOf Ok p d j → IsLeastOf Ok p d k → j ≡ k
least_unique Ok p d j k a b = omega (arith, a.least b.plan b.ok, b.least a.plan a.ok, a.reached, b.reached)

pub chosen_least : (Ok : List ℕ → Type 0) (p : Problem) (d : ℕ) (P : List ℕ) → IsChosenOf Ok p d P → IsLeastOf Ok p d (rounded p d P)
chosen_least Ok p d P c = record { plan = P; ok = c.ok; reached = refl; least = c.least_energy }

module _ (Ok : List ℕ → Type 0) (p : Problem) where
  -- ---- the bounds on the energy
  -- Note 5: the chosen plan's energy exceeds that of any Ok plan by at most N × (unit - 1).
  pub within_margin : (d : ℕ) → 0 < d → (P : List ℕ) → IsChosenOf Ok p d P → (Q : List ℕ) → Ok Q → plan_energy p P ≤ plan_energy p Q + p.count * (d - 1)
  within_margin d pos P c Q f = omega (arith, rounded_covers p d pos P, rounded-over p d pos Q, mul-le-mul_left d (c.least_energy Q f))

  -- Document 000, Lemma 2: where G × k(d) reaches 2,000 × N, or the unit is 1, the chosen plan is within the slack of
  -- every Ok plan.
  pub within-slack : (G d : ℕ) → 0 < d → G ≤ 1000 → (P : List ℕ) → IsChosenOf Ok p d P → (d ≡ 1) ⊎ (threshold p ≤ G * rounded p d P)
      → (Q : List ℕ) → Ok Q → 1000 * plan_energy p P ≤ (1000 + G) * plan_energy p Q
  within-slack G d pos small P c (inl one) Q f =
      let m : p.count * (d - 1) ≡ 0 = rw one (omega arith) in
      omega (arith, within_margin d pos P c Q f)
  within-slack G d pos small P c (inr stop) Q f =
      let n : ℕ = p.count in
      let over : d * rounded p d P ≤ plan_energy p Q + n * d
      = omega (arith, rounded-over p d pos Q, mul-le-mul_left d (c.least_energy Q f), mul-le-mul_left n (pred_le d)) in
      omega (arith, rounded_covers p d pos P, over, mul-le-mul_left G over, mul-le-mul_left d stop, mul-le-mul_right (n * d) small)
    where
      pred_le : (d : ℕ) → d - 1 ≤ d
      pred_le d = omega arith

  -- The unit used is 1, or qualifies with the chosen plan's own rounded energy.
  stopped : (G a : ℕ) (P : List ℕ) → IsPlannedOf Ok p G a P → (2 ^ a ≡ 1) ⊎ (threshold p ≤ G * rounded p (2 ^ a) P)
  stopped G a P h = stop h.used.stops
    where
      stop : (a ≡ 0) ⊎ QualifiesOf Ok p G (2 ^ a) → (2 ^ a ≡ 1) ⊎ (threshold p ≤ G * rounded p (2 ^ a) P)
      stop (inl z) = inl (rw z refl)
      stop (inr q) = inr (rw (least_unique Ok p (2 ^ a) (rounded p (2 ^ a) P) q.0 (chosen_least Ok p (2 ^ a) P h.chosen) q.1) q.2)

  -- Demand 3's bound, for the unit used and the plan chosen.
  pub planned-within : (G a : ℕ) → G ≤ 1000 → (P : List ℕ) → IsPlannedOf Ok p G a P → (Q : List ℕ) → Ok Q → 1000 * plan_energy p P ≤ (1000 + G) * plan_energy p Q
  planned-within G a small P h Q f = within-slack G (2 ^ a) (power_positive a) small P h.chosen (stopped G a P h) Q f

  -- With a slack of at most 500 note 5's margin is no more than the slack allows: than G / (1000 + G) of the energy.
  pub margin_in_slack : (G a : ℕ) → G ≤ 500 → (P : List ℕ) → IsPlannedOf Ok p G a P → p.count * (2 ^ a - 1) * (1000 + G) ≤ plan_energy p P * G
  margin_in_slack G a small P h = at (2 ^ a) (power_positive a) (stopped G a P h)
    where
      at : (d : ℕ) → 0 < d → (d ≡ 1) ⊎ (threshold p ≤ G * rounded p d P) → p.count * (d - 1) * (1000 + G) ≤ plan_energy p P * G
      at d pos (inl one) = let none : p.count * (d - 1) ≡ 0 = rw one (omega arith) in rw none (omega arith)
      at d pos (inr stop) =
          let m : ℕ = p.count * (d - 1) in
          let less : d - 1 ≤ d = omega arith in
          omega (
            arith,
            mul-le-mul_left G (rounded-over p d pos P),
            mul-le-mul_left d stop,
            mul-le-mul_left p.count less,
            mul-le-mul_right m small,
          )

  -- ---- the rounded energies stay small
  -- k(d) is at most 2 × k(2d).
  pub half_doubles : (d : ℕ) → 0 < d → (j k : ℕ) → IsLeastOf Ok p (2 * d) j → IsLeastOf Ok p d k → k ≤ 2 * j
  half_doubles d pos j k a b = omega (arith, rounded-half p d pos a.plan, b.least a.plan a.ok, a.reached)

  -- At a unit not below the energy of some Ok plan, k is at most N.
  pub first_small : (d : ℕ) → 0 < d → (k : ℕ) → IsLeastOf Ok p d k → (P : List ℕ) → Ok P → plan_energy p P ≤ d → k ≤ p.count
  first_small d pos k a P f h = omega (arith, a.least P f, rounded_small p d pos P h)

-- F = 4,000 × N / G rounded down: what a table must hold. The words of any table fit a machine word.
pub last_small : (n g : ℕ) → n ≤ 32 → 1 ≤ g → last_column n g ≤ 128000
last_small n g a b = omega (arith, div-mul-le_self (4000 * n) g, mul-le-mul_left (4000 * n / g) b)

pub work_small : (n last : ℕ) → n ≤ 32 → last ≤ 128000 → (n + 1) * (last + 1) ≤ 4224033
work_small n last a b = omega (arith, mul-le-mul_right {m = n + 1} {n = 33} (last + 1) (omega arith))

pub first_in_table : (G N k : ℕ) → 0 < G → G ≤ 1000 → k ≤ N → k ≤ last_column N G
first_in_table G N k pos small h = (le-div_iff_mul-le pos).1 (omega (arith, mul-le-mul_left N small, mul-le-mul_right G h))

pub next_in_table : (G N j k : ℕ) → 0 < G → G * j < 2000 * N → k ≤ 2 * j → k ≤ last_column N G
next_in_table G N j k pos going h = (le-div_iff_mul-le pos).1 (omega (arith, mul-le-mul_right G h))

-- k is at most F at every unit that is tried: at the first, and at half a unit that fell short.
pub tried_in_table : (Ok : List ℕ → Type 0) (p : Problem) (G a k : ℕ) → 0 < G → G ≤ 1000 → (f : ℕ) → LeastPower (plan_energy p (fastest p)) f → Ok (fastest p)
    → (a ≡ f) ⊎ FallsShortOf Ok p G (2 ^ suc a) → IsLeastOf Ok p (2 ^ a) k → k ≤ last_column p.count G
tried_in_table Ok p G a k pos small f first fit (inl e) l =
    first_in_table G p.count k pos small (first_small Ok p (2 ^ a) (power_positive a) k l (fastest p) fit (rw e first.enough))
tried_in_table Ok p G a k pos small f first fit (inr s) l =
    next_in_table G p.count s.0 k pos s.2 (half_doubles Ok p (2 ^ a) (power_positive a) s.0 k (rw (← pow-succ' 2 a) s.1) l)
