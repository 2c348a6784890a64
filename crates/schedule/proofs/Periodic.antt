-- Periodic tasks that are first released together keep every deadline for ever if and only if their load is at most L.
-- Assumes nothing.
use Prim.Native.Nat.{ℕ, zero, suc, pred, ◌+◌, ◌*◌, ◌/◌, ◌%◌, ◌≤◌, ◌<◌}
use mathlib.Core.Path.{◌≡◌, refl, sym, ap, ◌∙◌}
use mathlib.Core.Bool.{Bool, false, cond}
use mathlib.Core.List.{List, [], ◌∷◌}
use mathlib.Core.Logic.{◌⊎◌, ⊎_elim, ◌↔◌}
use native.Mathlib.Omega.{arith}
use native.Mathlib.Nat.{suc-mul, mul-le-mul_right, lt_of_mul-lt-mul_right, div-mul_cancel, dvd_of_mod-eq-zero, suc-pred-eq_of_pos, add-mod_right, add_comm, zero-mod, zero-mul, eq-zero-or-pos}
use lib.Dec.{eqb}
use borrow.Author.Tests.{eqb-true, eq-eqb}
use Rattle.numbers.specs.Numbers.{All, over}
use Rattle.numbers.proofs.Tests.{bool_cases}
use Rattle.numbers.proofs.Sums.{sum, over_join, over_none}
use Rattle.schedule.specs.Walk.{Task, misses, KeepsForEver, periodic, tasks_from}
use Rattle.schedule.specs.Counted.{busy_at}
use Rattle.schedule.proofs.Demand.{Shares, load, all_sporadic}
use Rattle.schedule.proofs.Capacity.{fits_keeps}
use Rattle.schedule.proofs.ByPlace.{all-tasks}
use Rattle.schedule.proofs.Done.{released_before, all_done, busy_or-idle}

-- A task that releases a full job at each multiple of its period and at no other tick, of which L is a multiple of the
-- period.
pub record Regular (L : ℕ) (k : Task) : Type 0 where
  pub positive : 0 < k.period
  pub multiple : L % k.period ≡ 0
  pub releases : (t : ℕ) → k.arrives t ≡ cond (eqb (t % k.period) 0) k.time 0

-- Multiples of p are at least p apart.
pub multiples_apart : (p t u : ℕ) → t < u → t % p ≡ 0 → u % p ≡ 0 → t + p ≤ u
multiples_apart p t u h a b =
    let e : t / p * p ≡ t = div-mul_cancel p (dvd_of_mod-eq-zero p a) in
    let f : u / p * p ≡ u = div-mul_cancel p (dvd_of_mod-eq-zero p b) in
    let l : t / p < u / p = lt_of_mul-lt-mul_right p (omega arith) in
    omega (arith, mul-le-mul_right p l, suc-mul (t / p) p)

-- Where the job time is above 0, the ticks at which a task of the set releases a job, and so at which it is checked,
-- are exactly the multiples of its period.
pub releases_at_multiples : (p c t : ℕ) → 0 < c → (0 < (periodic p c).arrives t) ↔ (t % p ≡ 0)
releases_at_multiples p c t pos = (
  λ h.
      ⊎_elim (λ e. eqb-true (t % p) 0 e)
      (λ e. let z : (periodic p c).arrives t ≡ 0 = ap (λ (b : Bool). cond b c 0) e in absurd (omega arith))
      (bool_cases (eqb (t % p) 0)),
  λ h. let z : (periodic p c).arrives t ≡ c = ap (λ (b : Bool). cond b c 0) (eq-eqb (t % p) 0 h) in omega arith,
)

module _ {L : ℕ} {k : Task} (r : Regular L k) where
  release_cases : (t : ℕ) → ((t % k.period ≡ 0) × (k.arrives t ≡ k.time)) ⊎ (k.arrives t ≡ 0)
  release_cases t =
      ⊎_elim
      (λ e. ◌⊎◌.inl (eqb-true (t % k.period) 0 e, r.releases t ∙ ap (λ (b : Bool). cond b k.time 0) e))
      (λ e. ◌⊎◌.inr (r.releases t ∙ ap (λ (b : Bool). cond b k.time 0) e))
      (bool_cases (eqb (t % k.period) 0))

  release_at : (t : ℕ) → t % k.period ≡ 0 → k.arrives t ≡ k.time
  release_at t h = r.releases t ∙ ap (λ (b : Bool). cond b k.time 0) (eq-eqb (t % k.period) 0 h)

  release_only : (t : ℕ) → 0 < k.arrives t → t % k.period ≡ 0
  release_only t h = ⊎_elim (λ w. w.0) (λ w. absurd (omega arith)) (release_cases t)

  regular_shares : Shares L k
  regular_shares = record {
    sporadic = record {
      positive = r.positive;
      within = λ t. ⊎_elim (λ w. omega arith) (λ w. omega arith) (release_cases t);
      apart = λ t u h a b. multiples_apart k.period t u h (release_only t a) (release_only u b);
    };
    multiple = r.multiple;
  }

  -- From a multiple of the period on, a period releases one full job, and m periods release m.
  one-period : (t : ℕ) → t % k.period ≡ 0 → over k.arrives t k.period ≡ k.time
  one-period t h =
      let z = over_none k.arrives (suc t) (pred k.period) (λ u a b.
      ⊎_elim
      (λ (e : k.arrives u ≡ 0). e)
      (λ (e : 0 < k.arrives u). absurd (omega (arith, multiples_apart k.period t u a h (release_only u e), r.positive)))
      (eq-zero-or-pos (k.arrives u))) in
      rw (← suc-pred-eq_of_pos r.positive) (omega (arith, release_at t h))

  pub periods : (m t : ℕ) → t % k.period ≡ 0 → over k.arrives t (m * k.period) ≡ m * k.time
  periods zero t h = rw (zero-mul k.period, zero-mul k.time) refl
  periods (suc m) t h =
      let next : (t + k.period) % k.period ≡ 0 = add-mod_right t k.period ∙ h in
      rw (suc-mul m k.period, add_comm (m * k.period) k.period, over_join k.arrives t k.period (m * k.period))
      (omega (arith, one-period t h, periods m (t + k.period) next, suc-mul m k.time))

  released-load : released_before L k ≡ load L k
  released-load =
      let e : L / k.period * k.period ≡ L = div-mul_cancel k.period (dvd_of_mod-eq-zero k.period r.multiple) in
      ap (λ (x : ℕ). over k.arrives 0 x) (sym e) ∙ periods (L / k.period) 0 (zero-mod k.period)

-- ---- a list of periodic tasks
all_shares : (L : ℕ) (ks : List Task) → All (Regular L) ks → All (Shares L) ks
all_shares L [] a = tt
all_shares L (k ∷ ks) a = (regular_shares a.0, all_shares L ks a.1)

all-release : (L : ℕ) (ks : List Task) → All (Regular L) ks → All (λ k. k.arrives L ≡ k.time) ks
all-release L [] a = tt
all-release L (k ∷ ks) a = (release_at a.0 L a.0.multiple, all-release L ks a.1)

all-load : (L : ℕ) (ks : List Task) → All (Regular L) ks → sum (released_before L) ks ≡ sum (load L) ks
all-load L [] a = refl
all-load L (k ∷ ks) a = omega (arith, released-load a.0, all-load L ks a.1)

module _ (L : ℕ) (ks : List Task) (pos : 0 < L) (regular : All (Regular L) ks) where
  -- A walk that misses nothing from 0 to L is busy for the load.
  pub kept_busy : ((t : ℕ) → t ≤ L → misses ks t ≡ false) → over (busy_at ks) 0 L ≡ sum (load L) ks
  kept_busy h = all_done ks L (all_sporadic L ks (all_shares L ks regular)) (all-release L ks regular) h ∙ all-load L ks regular

  pub kept_fits : ((t : ℕ) → t ≤ L → misses ks t ≡ false) → sum (load L) ks ≤ L
  kept_fits h = omega (arith, kept_busy h, busy_or-idle ks 0 L)

  pub keeps_iff_fits : KeepsForEver ks ↔ (sum (load L) ks ≤ L)
  keeps_iff_fits = (λ h. kept_fits (λ t l. h t), fits_keeps L ks pos (all_shares L ks regular))

-- ---- the tasks of a set, by place
module _ (L : ℕ) (p c : ℕ → ℕ) where
  abbrev task_at : ℕ → Task
  task_at i = periodic (p i) (c i)

  pub tasks_regular : (i n : ℕ) → ((j : ℕ) → i ≤ j → j < i + n → (0 < p j) × (L % p j ≡ 0)) → All (Regular L) (tasks_from task_at i n)
  tasks_regular i n h =
      all-tasks (Regular L) task_at i n
      (λ j a b. let here = h j a b in record { positive = here.0; multiple = here.1; releases = λ t. refl })
