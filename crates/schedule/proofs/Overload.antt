-- A load above L is not kept for ever, from whatever first releases: in m hyper-periods after the last of these, m times
-- the load is released, and only a job of each task can be left.
-- Assumes nothing.
use Prim.Native.Nat.{ℕ, zero, suc, ◌+◌, ◌-◌, ◌*◌, ◌/◌, ◌%◌, ◌≤◌, ◌<◌}
use mathlib.Core.Path.{◌≡◌, refl, sym, ap, ◌∙◌}
use mathlib.Core.List.{List, [], ◌∷◌}
use mathlib.Core.Logic.{⊎_elim}
use native.Mathlib.Omega.{arith}
use native.Mathlib.Nat.{add-suc, add-zero, zero-add, mul-add, mul-zero, mul-suc, mul_assoc, mul-le-mul_left}
use native.Mathlib.Nat.{div-mul_cancel, dvd_of_mod-eq-zero, zero-mod}
use borrow.Author.Tests.{le-leb}
use Rattle.numbers.specs.Numbers.{All, over}
use Rattle.numbers.proofs.Sums.{sum, over_join}
use Rattle.numbers.proofs.Tests.{lt_or_le}
use Rattle.schedule.specs.Walk.{Task, Job, before, KeepsForEver, periodic, offset}
use Rattle.schedule.proofs.Demand.{Sporadic, load}
use Rattle.schedule.proofs.Picked.{left_of}
use Rattle.schedule.proofs.State.{sum-tasks}
use Rattle.schedule.proofs.Done.{released_before, done, busy_or-idle, Bounded, before_bounded}
use Rattle.schedule.proofs.Periodic.{Regular, periods}

-- ---- what is released in m hyper-periods
-- From tick A on, every L ticks release at least the load.
abbrev pub Pays : ℕ → ℕ → Task → Type 0
Pays L A k = (m : ℕ) → m * load L k ≤ released_before (A + m * L) k

shifted : (f g : ℕ → ℕ) (a t n : ℕ) → ((u : ℕ) → f (a + u) ≡ g u) → over f (a + t) n ≡ over g t n
shifted f g a t zero h = refl
shifted f g a t (suc n) h = omega (arith, h t, shifted f g a (suc t) n h, ap (λ (x : ℕ). over f x n) (add-suc a t))

module _ (L a p c : ℕ) (pos : 0 < p) (multiple : L % p ≡ 0) where
  -- From a on the releases are those of a periodic task from 0 on.
  alike : (u : ℕ) → (offset a p c).arrives (a + u) ≡ (periodic p c).arrives u
  alike u = let e : a + u - a ≡ u = omega arith in rw (le-leb a (a + u) (omega arith), e) refl

  pays_from : (m : ℕ) → over (offset a p c).arrives a (m * L) ≡ m * load L (offset a p c)
  pays_from m =
      let regular : Regular L (periodic p c) = record { positive = pos; multiple = multiple; releases = λ t. refl } in
      let whole : L / p * p ≡ L = div-mul_cancel p (dvd_of_mod-eq-zero p multiple) in
      let span : m * (L / p) * p ≡ m * L = mul_assoc m (L / p) p ∙ ap (λ (x : ℕ). m * x) whole in
      let from : over (offset a p c).arrives a (m * L) ≡ over (periodic p c).arrives 0 (m * L)
      = ap (λ (x : ℕ). over (offset a p c).arrives x (m * L)) (sym (add-zero a)) ∙
      shifted (offset a p c).arrives (periodic p c).arrives a 0 (m * L) alike in
      from ∙ ap (over (periodic p c).arrives 0) (sym span) ∙ periods regular (m * (L / p)) 0 (zero-mod p) ∙ mul_assoc m (L / p) c

  pub offset_pays : (A : ℕ) → a ≤ A → Pays L A (offset a p c)
  offset_pays A h m =
      let f = (offset a p c).arrives in
      let ends : A + m * L ≡ a + (m * L + (A - a)) = omega arith in
      let parts : over f 0 (a + (m * L + (A - a))) ≡ over f 0 a + over f (0 + a) (m * L + (A - a)) = over_join f 0 a (m * L + (A - a)) in
      let here : over f (0 + a) (m * L + (A - a)) ≡ over f a (m * L + (A - a)) = ap (λ (x : ℕ). over f x (m * L + (A - a))) (zero-add a) in
      let rest = over_join f a (m * L) (A - a) in
      rw ends (omega (arith, pays_from m))

all_pay : (L A m : ℕ) (ks : List Task) → All (Pays L A) ks → m * sum (load L) ks ≤ sum (released_before (A + m * L)) ks
all_pay L A m [] h = omega (arith, mul-zero m)
all_pay L A m (k ∷ ks) h = omega (arith, h.0 m, all_pay L A m ks h.1, mul-add m (load L k) (sum (load L) ks))

-- ---- what can be left
left_most : (js : List Job) → All Bounded js → sum left_of js ≤ sum (λ j. j.task.time) js
left_most [] b = omega arith
left_most (j ∷ js) b = omega (arith, b.0, left_most js b.1)

-- So where every deadline is kept for ever the load is at most L.
pub keeps_pays : (L A : ℕ) (ks : List Task) → All Sporadic ks → All (Pays L A) ks → KeepsForEver ks → sum (load L) ks ≤ L
keeps_pays L A ks sporadic pay keeps =
    let c = sum (λ k. k.time) ks in
    let m = suc (A + c) in
    let t = A + m * L in
    let left : sum left_of (before ks t) ≤ c
    = omega (arith, left_most (before ks t) (before_bounded ks sporadic t), sum-tasks (λ k. k.time) ks t) in
    ⊎_elim
    (λ (h : L < sum (load L) ks).
    absurd (omega (
      arith,
      all_pay L A m ks pay,
      done ks t (λ u l. keeps u),
      busy_or-idle ks 0 t,
      mul-le-mul_left m h,
      mul-suc m L,
    )))
    (λ (h : sum (load L) ks ≤ L). h)
    (lt_or_le L (sum (load L) ks))
