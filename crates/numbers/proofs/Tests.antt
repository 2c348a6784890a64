-- Boolean tests, split once into facts that arithmetic can use.
-- Assumes nothing.
use Prim.Native.Nat.{ℕ, suc, ◌≤◌, ◌<◌}
use mathlib.Core.Path.{◌≡◌, refl, sym, ap, subst}
use mathlib.Core.Bool.{Bool, true, false, cond, ◌&&◌, ◌||◌, true≢false}
use mathlib.Core.Logic.{◌⊎◌, inl, inr, ⊎_elim}
use native.Mathlib.Nat.{eq-or-lt_of_le, le_of_suc-le-suc}
use lib.Dec.{leb, ltb}
use borrow.Author.Tests.{ltb-true, ltb-false, leb-true, le-leb}
use Rattle.numbers.specs.Numbers.{between}

pub bool_cases : (b : Bool) → (b ≡ true) ⊎ (b ≡ false)
bool_cases true = inl refl
bool_cases false = inr refl

pub or_false : (a b : Bool) → (a || b) ≡ false → (a ≡ false) × (b ≡ false)
or_false true b h = absurd (true≢false h)
or_false false b h = (refl, h)

pub or_true : (a b : Bool) → (a || b) ≡ true → (a ≡ true) ⊎ (b ≡ true)
or_true true b h = inl refl
or_true false b h = inr h

pub and-true : (a b : Bool) → (a && b) ≡ true → (a ≡ true) × (b ≡ true)
and-true true b h = (refl, h)
and-true false b h = absurd (true≢false (sym h))

pub and-false : (a b : Bool) → (a && b) ≡ false → (a ≡ false) ⊎ (b ≡ false)
and-false true b h = inr h
and-false false b h = inl refl

pub lt_or_le : (a b : ℕ) → (a < b) ⊎ (b ≤ a)
lt_or_le a b = ⊎_elim (λ e. inl (ltb-true a b e)) (λ e. inr (ltb-false a b e)) (bool_cases (ltb a b))

-- What holds of each number below i, and of i, holds of each number below i + 1.
pub below_more : {P : ℕ → Type 0} {i : ℕ} → ((k : ℕ) → k < i → P k) → P i → (k : ℕ) → k < suc i → P k
below_more {P} {i} h a k l =
    ⊎_elim (λ (e : k ≡ i). subst P (sym e) a) (λ (m : k < i). h k m) (eq-or-lt_of_le (le_of_suc-le-suc l))

-- A number in a range, both ways.
pub between_true : (low high w : ℕ) → between low high w ≡ true → (low ≤ w) × (w ≤ high)
between_true low high w e =
    let h = and-true (leb low w) (leb w high) e in
    (leb-true low w h.0, leb-true w high h.1)

pub true_between : (low high w : ℕ) → low ≤ w → w ≤ high → between low high w ≡ true
true_between low high w a b = rw (le-leb low w a, le-leb w high b) refl

-- A choice between two numbers is one of them.
pub cond_true : {A : Type 0} (b : Bool) (x y : A) → b ≡ true → cond b x y ≡ x
cond_true b x y e = ap (λ (t : Bool). cond t x y) e

pub cond_false : {A : Type 0} (b : Bool) (x y : A) → b ≡ false → cond b x y ≡ y
cond_false b x y e = ap (λ (t : Bool). cond t x y) e
