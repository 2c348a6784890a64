-- Tasks whose first release falls at a tick of their own: sporadic, so that a load of at most L keeps every deadline for
-- ever whatever the first releases.
-- Assumes nothing.
use Prim.Native.Nat.{ℕ, ◌-◌, ◌%◌, ◌≤◌, ◌<◌}
use mathlib.Core.Path.{◌≡◌, refl, ap, fun_ext}
use mathlib.Core.Bool.{Bool, true, false, cond, ◌&&◌}
use mathlib.Core.Logic.{⊎_elim}
use native.Mathlib.Omega.{arith}
use native.Mathlib.Nat.{sub-zero}
use lib.Dec.{leb, eqb}
use borrow.Author.Tests.{le-leb, lt-leb, leb-true, ne_eqb, eqb-true}
use Rattle.numbers.proofs.Tests.{bool_cases, and-true}
use Rattle.schedule.specs.Walk.{periodic, offset}
use Rattle.schedule.proofs.Demand.{Sporadic, Shares}
use Rattle.schedule.proofs.Periodic.{multiples_apart}

module _ (a p c : ℕ) where
  pub offset_there : (t : ℕ) → a ≤ t → (t - a) % p ≡ 0 → (offset a p c).arrives t ≡ c
  offset_there t h e = rw (le-leb a t h, e) refl

  pub offset-before : (t : ℕ) → t < a → (offset a p c).arrives t ≡ 0
  offset-before t h = rw (lt-leb a t h) refl

  pub offset-between : (t : ℕ) → ((t - a) % p ≡ 0 → ⊥) → (offset a p c).arrives t ≡ 0
  offset-between t h = rw (ne_eqb ((t - a) % p) 0 h) (none (leb a t))
    where
      none : (b : Bool) → cond (b && false) c 0 ≡ 0
      none true = refl
      none false = refl

  pub offset-released : (t : ℕ) → 0 < (offset a p c).arrives t → (a ≤ t) × ((t - a) % p ≡ 0)
  offset-released t h =
      ⊎_elim
      (λ x. let o = and-true (leb a t) (eqb ((t - a) % p) 0) x in (leb-true a t o.0, eqb-true ((t - a) % p) 0 o.1))
      (λ x. let z : (offset a p c).arrives t ≡ 0 = ap (λ (b : Bool). cond b c 0) x in absurd (omega arith))
      (bool_cases (leb a t && eqb ((t - a) % p) 0))

  within : (b : Bool) → cond b c 0 ≤ c
  within true = omega arith
  within false = omega arith

  pub offset_sporadic : 0 < p → Sporadic (offset a p c)
  offset_sporadic pos = record {
    positive = pos;
    within = λ t. within (leb a t && eqb ((t - a) % p) 0);
    apart = λ t u h x y.
        let s = offset-released t x in
        let r = offset-released u y in
        omega (arith, s.0, r.0, multiples_apart p (t - a) (u - a) (omega (arith, s.0)) s.1 r.1);
  }

  pub offset_shares : (L : ℕ) → 0 < p → L % p ≡ 0 → Shares L (offset a p c)
  offset_shares L pos m = record { sporadic = offset_sporadic pos; multiple = m }

-- From tick 0 on it is a task of document 01's.
pub offset-none : (p c : ℕ) → offset 0 p c ≡ periodic p c
offset-none p c =
    ap (λ (f : ℕ → ℕ). record { period = p; time = c; arrives = f })
    (fun_ext (λ t. rw (le-leb 0 t (omega arith), sub-zero) refl))
