-- The lowest number that passes a test: there is at most one, and a loop that looks from the first on finds it.
-- Assumes nothing.
use Prim.Native.Nat.{ℕ, zero, suc, ◌+◌, ◌-◌, ◌≤◌, ◌<◌}
use mathlib.Core.Path.{◌≡◌, refl, sym, subst}
use mathlib.Core.Bool.{Bool, true, false, cond}
use mathlib.Core.Logic.{⊎_elim}
use native.Mathlib.Nat.{eq-or-lt_of_le}
use native.Mathlib.Omega.{arith}
use Rattle.numbers.specs.Numbers.{Lowest}
use Rattle.numbers.proofs.Tests.{lt_or_le}

pub lowest_unique : {P : ℕ → Type 0} {j k : ℕ} → Lowest P j → Lowest P k → j ≡ k
lowest_unique {P} {j} {k} a b =
    ⊎_elim
    (λ (l : j < k). absurd (b.before j l a.here))
    (λ (l : k ≤ j). ⊎_elim (λ (e : k ≡ j). sym e) (λ (m : k < j). absurd (a.before k m b.here)) (eq-or-lt_of_le l))
    (lt_or_le j k)

-- Two properties that hold of the same numbers have the same lowest.
pub lowest_same : {P Q : ℕ → Type 0} → ((k : ℕ) → P k → Q k) → ((k : ℕ) → Q k → P k) → (k : ℕ) → Lowest P k → Lowest Q k
lowest_same to from k h = record { here = to k h.here; before = λ j l x. h.before j l (from j x) }

-- Where no number is the lowest at which P holds, it holds at none: nothing before it does, so that it would be the
-- lowest.
pub no_lowest : (P : ℕ → Type 0) → ((k : ℕ) → Lowest P k → ⊥) → (k : ℕ) → P k → ⊥
no_lowest P none k h = below (suc k) k (omega arith) h
  where
    below : (n j : ℕ) → j < n → P j → ⊥
    below zero j l h = omega arith
    below (suc n) j l h = none j (record { here = h; before = λ i m g. below n i (omega arith) g })

-- The first of the n numbers from j on that passes the test, or j + n.
unfoldable pub seek : (ℕ → Bool) → ℕ → ℕ → ℕ
seek test j zero = j
seek test j (suc n) = let r = seek test (suc j) n in cond (test j) j r

-- The first number from lo on and below hi that passes, or hi.
abbrev pub first : (ℕ → Bool) → ℕ → ℕ → ℕ
first test lo hi = seek test lo (hi - lo)

module _ (test : ℕ → Bool) where
  -- what the result r of a search of n numbers from j on says
  record Sought (j n r : ℕ) : Type 0 where
    from : j ≤ r
    to : r ≤ j + n
    hit : r < j + n → test r ≡ true
    none : (k : ℕ) → j ≤ k → k < r → test k ≡ false

  seek_says : (j n : ℕ) → Sought j n (seek test j n)
  unfolding seek
  seek_says j zero = record { from = omega arith; to = omega arith; hit = λ h. absurd (omega arith); none = λ k a b. absurd (omega arith) }
  seek_says j (suc n) = go (test j) refl (seek_says (suc j) n)
    where
      go : (b : Bool) → test j ≡ b → Sought (suc j) n (seek test (suc j) n) → Sought j (suc n) (cond b j (seek test (suc j) n))
      go true e r = record { from = omega arith; to = omega arith; hit = λ h. e; none = λ k a b. absurd (omega arith) }
      go false e r =
          record {
            from = omega (arith, r.from);
            to = omega (arith, r.to);
            hit = λ h. r.hit (omega arith);
            none = λ k a b. ⊎_elim (λ (q : j ≡ k). subst (λ (x : ℕ). test x ≡ false) q e) (λ (q : j < k). r.none k q b) (eq-or-lt_of_le a);
          }

  pub first_from : (lo hi : ℕ) → lo ≤ first test lo hi
  first_from lo hi = (seek_says lo (hi - lo)).from

  pub first_to : (lo hi : ℕ) → lo ≤ hi → first test lo hi ≤ hi
  first_to lo hi h = omega (arith, (seek_says lo (hi - lo)).to)

  pub first_holds : (lo hi : ℕ) → first test lo hi < hi → test (first test lo hi) ≡ true
  first_holds lo hi h = (seek_says lo (hi - lo)).hit (omega (arith, (seek_says lo (hi - lo)).from))

  pub first-before : (lo hi k : ℕ) → lo ≤ k → k < first test lo hi → test k ≡ false
  first-before lo hi k a b = (seek_says lo (hi - lo)).none k a b
