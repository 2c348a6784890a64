-- What follows of the two bounds that a plan given keeps, the slack's and the margin of document 02's note 5: how far its
-- energy can be above the least, in microjoules and in parts of the least, and which bound is the smaller. The figures
-- of a battery page are these.
-- Assumes nothing.
use Prim.Native.Nat.{ℕ, ◌+◌, ◌-◌, ◌*◌, ◌/◌, ◌^◌, ◌≤◌, ◌<◌}
use native.Mathlib.Nat.{mul-le-mul, mul-le-mul_left, mul-le-mul_right, le-div_iff_mul-le, pow-le-pow_right}
use mathlib.Core.Path.{◌≡◌, refl}
use mathlib.Core.List.{List}
use mathlib.Core.Logic.{◌⊎◌, inl, inr, ⊎_elim}
use native.Mathlib.Omega.{arith}
use Rattle.numbers.proofs.Sums.{total_bound}
use Rattle.numbers.proofs.Tests.{lt_or_le}
use Rattle.selection.specs.Plan.{Fitting, IsPlanned, fastest, plan_load, plan_energy}
use Rattle.selection.proofs.Bounds.{margin_in_slack}
use Rattle.selection.proofs.Fastest.{fastest_plan}
use Rattle.layout.specs.Words.{slack, task_count}
use Rattle.layout.specs.declared.Layout.{Layout}
use Rattle.taskset.specs.Quantities.{energy_bits, margin_bits, hyper_period, problem_of, task_net}
use Rattle.taskset.specs.Planning.{Planning, planning}
use Rattle.taskset.specs.DemandThree.{margin, IsLeast, PlanPromise}
use Rattle.taskset.specs.Sets.{IsSet, most_task_energy}
use Rattle.taskset.proofs.Sets.{task_net_small, energy_small}
use Rattle.taskset.proofs.DemandThree.{Sound}

-- What the slack allows of an energy e: e × G / (1000 + G), rounded down.
abbrev pub allowance : Planning → ℕ → ℕ
allowance m e = e * m.slack / (1000 + m.slack)

at_most_part : (e x G : ℕ) → x * (1000 + G) ≤ e * G → x ≤ e * G / (1000 + G)
at_most_part e x G h = (le-div_iff_mul-le {k = 1000 + G} {x = x} {y = e * G} (omega arith)).1 h

difference : (b e G : ℕ) → 1000 * e ≤ (1000 + G) * b → e ≤ b + e * G / (1000 + G)
difference b e G h =
    ⊎_elim
    (λ (l : e < b). omega arith)
    (λ (l : b ≤ e).
    let over : (x : ℕ) → e ≡ b + x → x * (1000 + G) ≤ e * G = λ x is. rw is (omega (arith, h)) in
    omega (arith, at_most_part e (e - b) G (over (e - b) (omega arith))))
    (lt_or_le e b)

module _ (m : Planning) (P : List ℕ) (unit energy : ℕ) (promise : PlanPromise m P unit energy) where
  -- The slack's bound as a difference.
  pub within-allowance : (Q : List ℕ) → m.Keeps Q → energy ≤ m.energy Q + allowance m energy
  within-allowance Q k = difference (m.energy Q) energy m.slack (promise.within Q k)

  -- So the energy is above that of every plan that keeps every deadline for ever by at most either of the two.
  pub above_least : (K : ℕ) → (K ≡ margin m unit) ⊎ (K ≡ allowance m energy) → (Q : List ℕ) → m.Keeps Q
      → energy ≤ m.energy Q + K
  above_least K (inl e) Q k = omega (arith, promise.within_margin Q k)
  above_least K (inr e) Q k = omega (arith, within-allowance Q k)

  -- And, in parts of which the energy of that plan has n, by at most x of them, where n × K is at most x × (energy - K).
  pub above_in_parts : (K n x : ℕ) → (K ≡ margin m unit) ⊎ (K ≡ allowance m energy) → n * K ≤ x * (energy - K)
      → (Q : List ℕ) → m.Keeps Q → n * energy ≤ (n + x) * m.energy Q
  above_in_parts K n x either h Q k =
      let bound = above_least K either Q k in
      let rest : energy - K ≤ m.energy Q = omega arith in
      omega (arith, mul-le-mul_left n bound, mul-le-mul_left x rest)

  -- Where a plan that keeps every deadline for ever reaches the margin, it is a plan of the least energy.
  pub margin_reached : (Q : List ℕ) → m.Keeps Q → energy ≡ m.energy Q + margin m unit
      → IsLeast m Q (m.energy Q)
  margin_reached Q k e = record { keeps = k; own = refl; least = λ R r. omega (arith, promise.within_margin R r) }

-- Of the plan selected, with 2 ^ a the unit used: with a slack of at most 500 the margin is never above the slack's
-- allowance.
pub margin_is_smaller : (m : Planning) → Sound m → (P : List ℕ) (a : ℕ) → IsPlanned m.problem m.slack a P
    → m.slack ≤ 500 → margin m (2 ^ a) ≤ allowance m (m.energy P)
margin_is_smaller m sound P a planned small =
    let more : plan_energy m.problem P ≤ m.energy P = omega (arith, sound.energy_is P planned.chosen.ok) in
    at_most_part (m.energy P) (margin m (2 ^ a)) m.slack
    (omega (
      arith,
      margin_in_slack (Fitting m.problem) m.problem m.slack a small P planned,
      mul-le-mul_right m.slack more,
    ))

-- ---- what a host can work with in 64 bits
-- The unit, the energy and the load of a plan that is given, and the hyper-period; and so the margin.
pub record InBits (m : Planning) : Type 0 where
  pub few : m.problem.count ≤ 32
  pub units : (P : List ℕ) (a : ℕ) → IsPlanned m.problem m.slack a P → 2 ^ a ≤ 2 ^ energy_bits
  pub energies : (P : List ℕ) → Fitting m.problem P → m.energy P < 2 ^ energy_bits
  pub limit : m.problem.limit < 2 ^ 64
  pub hyper : m.hyper < 2 ^ 64

pub margin_small : (m : Planning) → InBits m → (P : List ℕ) (a : ℕ) → IsPlanned m.problem m.slack a P
    → margin m (2 ^ a) < 2 ^ margin_bits
margin_small m bits P a planned =
    let less : 2 ^ a - 1 ≤ 2 ^ energy_bits - 1 = omega (arith, bits.units P a planned) in
    omega (arith, mul-le-mul bits.few less)

-- A list's: no plan's energy is above 2 ^ energy_bits, and so neither is the first unit.
module _ (layout : Layout) (s : List ℕ) (set : IsSet layout s) where
  unit_small : (P : List ℕ) (a : ℕ) → IsPlanned (problem_of layout s) (slack s) a P → 2 ^ a ≤ 2 ^ energy_bits
  unit_small P a planned =
      let fast = fastest_plan (problem_of layout s) (omega (arith, set.whole.rates_range.0)) in
      let most : plan_energy (problem_of layout s) (fastest (problem_of layout s)) ≤ 2 ^ energy_bits
      = omega (
        arith,
        total_bound (task_net layout s) most_task_energy (task_count layout s) (fastest (problem_of layout s))
            (λ t l. task_net_small layout s set t _ l (fast.above t l) (fast.below t l)),
        set.whole.tasks_range.1,
      ) in
      let few : a ≤ energy_bits = omega (arith, planned.used.tried, planned.used.is_first.smallest energy_bits most) in
      pow-le-pow_right {n = 2} (omega arith) few

  pub list_in_bits : InBits (planning layout s)
  list_in_bits = record {
    few = set.whole.tasks_range.1;
    units = unit_small;
    energies = λ P f.
        omega (arith, energy_small layout s set P f.plan (hyper_period layout s - plan_load (problem_of layout s) P) (omega arith));
    limit = omega (arith, set.hyper_range.1);
    hyper = omega (arith, set.hyper_range.1);
  }
