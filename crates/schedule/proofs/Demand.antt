-- The work that tasks can release and have due within a stretch of d ticks.
-- Assumes nothing.
use Prim.Native.Nat.{ℕ, zero, suc, pred, ◌+◌, ◌-◌, ◌*◌, ◌/◌, ◌%◌, ◌≤◌, ◌<◌}
use mathlib.Core.Path.{◌≡◌, ap}
use mathlib.Core.List.{List, [], ◌∷◌}
use mathlib.Core.Logic.{⊎_elim}
use native.Mathlib.Omega.{arith}
use native.Mathlib.Nat.{mul-add, mul-zero, mul-suc, mul_comm, mul_assoc, add-mul, le_trans, mul-le-mul_left, mul-le-mul_right, le_of_mul-le-mul_left, eq-zero-or-pos, div-mul_cancel, sub-add_cancel, suc-pred-eq_of_pos, dvd_of_mod-eq-zero}
use Rattle.numbers.proofs.Sums.{sum}
use Rattle.numbers.specs.Numbers.{All, over}
use Rattle.numbers.proofs.Tests.{lt_or_le}
use Rattle.schedule.specs.Walk.{Task}

-- A sporadic task: releases at least a period apart, and no job longer than the job time.
pub record Sporadic (k : Task) : Type 0 where
  pub positive : 0 < k.period
  pub within : (t : ℕ) → k.arrives t ≤ k.time
  pub apart : (t u : ℕ) → t < u → 0 < k.arrives t → 0 < k.arrives u → t + k.period ≤ u

-- The ticks of the jobs that are released from tick t on and due by t + d.
abbrev pub coming : Task → ℕ → ℕ → ℕ
coming k t d = over k.arrives t (suc d - k.period)

-- What any stretch of d ticks releases and has due within it is at most d.
abbrev pub Capacity : List Task → Type 0
Capacity ks = (t d : ℕ) → sum (λ k. coming k t d) ks ≤ d

-- A task's load over L.
abbrev pub load : ℕ → Task → ℕ
load L k = L / k.period * k.time

-- A sporadic task of which L is a multiple of the period.
pub record Shares (L : ℕ) (k : Task) : Type 0 where
  pub sporadic : Sporadic k
  pub multiple : L % k.period ≡ 0

module _ (k : Task) (s : Sporadic k) where
  -- The releases in the n ticks from t on, if the first c of these, c below the period, release nothing: c is what is
  -- left of the pause after a release.
  window : (n t c : ℕ) → c < k.period → ((u : ℕ) → t ≤ u → u < t + c → k.arrives u ≡ 0) →
      k.period * over k.arrives t n + k.time * suc c ≤ k.time * (n + k.period)
  window zero t c h q = omega (arith, mul-zero k.period, mul-add k.time 0 k.period, mul-zero k.time, mul-le-mul_left k.time h)
  window (suc n) t (suc c) h q =
      let z : k.arrives t ≡ 0 = q t (omega arith) (omega arith) in
      let r = window n (suc t) c (omega arith) (λ u a b. q u (omega arith) (omega arith)) in
      omega (
        arith,
        mul-add k.period (k.arrives t) (over k.arrives (suc t) n),
        ap (λ (x : ℕ). k.period * x) z,
        mul-zero k.period,
        mul-suc k.time (suc c),
        mul-add k.time n k.period,
        mul-add k.time (suc n) k.period,
        mul-suc k.time n,
      )
  window (suc n) t zero h q =
      ⊎_elim
      (λ (z : k.arrives t ≡ 0).
      let r = window n (suc t) zero s.positive (λ u a b. absurd (omega arith)) in
      omega (
        arith,
        mul-add k.period (k.arrives t) (over k.arrives (suc t) n),
        ap (λ (x : ℕ). k.period * x) z,
        mul-zero k.period,
        mul-add k.time n k.period,
        mul-add k.time (suc n) k.period,
        mul-suc k.time n,
      ))
      (λ (z : 0 < k.arrives t).
      let r = window n (suc t) (pred k.period) (omega (arith, s.positive)) (λ u a b.
      ⊎_elim (λ (e : k.arrives u ≡ 0). e) (λ (e : 0 < k.arrives u). absurd (omega (arith, s.apart t u a z e, s.positive))) (eq-zero-or-pos (k.arrives u))) in
      omega (
        arith,
        ap (λ (x : ℕ). k.time * x) (suc-pred-eq_of_pos s.positive),
        mul-add k.period (k.arrives t) (over k.arrives (suc t) n),
        mul-le-mul_left k.period (s.within t),
        mul_comm k.period k.time,
        mul-add k.time n k.period,
        mul-add k.time (suc n) k.period,
        mul-suc k.time n,
      ))
      (eq-zero-or-pos (k.arrives t))

  -- What comes and is due within d ticks.
  pub coming_bound : (t d : ℕ) → k.period * coming k t d ≤ k.time * d
  coming_bound t d =
      ⊎_elim
      (λ (h : suc d < k.period).
      let e : suc d - k.period ≡ 0 = omega arith in
      rw e (omega (arith, mul-zero k.period)))
      (λ (h : k.period ≤ suc d).
      let r = window (suc d - k.period) t zero s.positive (λ u a b. absurd (omega arith)) in
      omega (arith, r, ap (λ (x : ℕ). k.time * x) (sub-add_cancel h), mul-suc k.time d))
      (lt_or_le (suc d) k.period)

  -- The same times L.
  coming-load : (L t d : ℕ) → L % k.period ≡ 0 → L * coming k t d ≤ load L k * d
  coming-load L t d m =
      let e : L / k.period * k.period ≡ L = div-mul_cancel k.period (dvd_of_mod-eq-zero k.period m) in
      let h : L / k.period * (k.period * coming k t d) ≤ L / k.period * (k.time * d) = mul-le-mul_left (L / k.period) (coming_bound t d) in
      omega (arith, mul_assoc (L / k.period) k.period (coming k t d), mul_assoc (L / k.period) k.time d, ap (λ (x : ℕ). x * coming k t d) e)

pub loads_bound : (L t d : ℕ) (ks : List Task) → All (Shares L) ks → L * sum (λ k. coming k t d) ks ≤ sum (load L) ks * d
loads_bound L t d [] a = omega (arith, mul-zero L)
loads_bound L t d (k ∷ ks) a =
    omega (
      arith,
      coming-load k a.0.sporadic L t d a.0.multiple,
      loads_bound L t d ks a.1,
      mul-add L (coming k t d) (sum (λ k. coming k t d) ks),
      add-mul (load L k) (sum (load L) ks) d,
    )

-- A load of at most L is within the capacity.
pub fits_capacity : (L : ℕ) (ks : List Task) → 0 < L → All (Shares L) ks → sum (load L) ks ≤ L → Capacity ks
fits_capacity L ks pos a fits t d = le_of_mul-le-mul_left {k = L} (le_trans (loads_bound L t d ks a) (mul-le-mul_right d fits)) pos

pub all_sporadic : (L : ℕ) (ks : List Task) → All (Shares L) ks → All Sporadic ks
all_sporadic L [] a = tt
all_sporadic L (k ∷ ks) a = (a.0.sporadic, all_sporadic L ks a.1)
