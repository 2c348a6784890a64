-- The smallest power of two not below a number: there is one, and only one.
-- Assumes nothing.
use Prim.Native.Nat.{ℕ, zero, suc, ◌+◌, ◌-◌, ◌*◌, ◌^◌, ◌≤◌, ◌<◌, ◌∣◌}
use mathlib.Core.Path.{◌≡◌, refl, ap}
use mathlib.Core.Bool.{Bool}
use mathlib.Core.Logic.{⊎_elim}
use native.Mathlib.Nat.{dvd-mul_right, one-le-pow, le_antisymm, eq-or-lt_of_le, pow-succ'}
use native.Mathlib.Numerals.{add-one}
use native.Mathlib.Omega.{arith}
use lib.Dec.{leb}
use lib.Pow.{pow-add}
use borrow.Author.Tests.{leb-true, leb-false}
use Rattle.numbers.specs.Numbers.{LeastPower}
use Rattle.numbers.proofs.Tests.{lt_or_le}
use Rattle.numbers.proofs.Search.{first, first_holds, first-before, first_to}

pub power_positive : (e : ℕ) → 0 < 2 ^ e
power_positive e = one-le-pow e 2 (omega arith)

pub power_above : (n : ℕ) → n < 2 ^ n
power_above zero = omega arith
power_above (suc n) = omega (arith, power_above n)

pub power_divides : {e f : ℕ} → e ≤ f → 2 ^ e ∣ 2 ^ f
power_divides {e} {f} h =
    let n : f ≡ e + (f - e) = omega arith in
    rw (n, pow-add 2 e (f - e)) (dvd-mul_right (2 ^ e) (2 ^ (f - e)))

pub power_unique : (x e f : ℕ) → LeastPower x e → LeastPower x f → e ≡ f
power_unique x e f a b = le_antisymm (a.smallest f b.enough) (b.smallest e a.enough)

-- The exponent, by looking from 0 on.
unfoldable pub exponent : ℕ → ℕ
exponent x = first (λ e. leb x (2 ^ e)) 0 x

pub exponent_is : (x : ℕ) → LeastPower x (exponent x)
unfolding exponent
exponent_is x =
    let test : ℕ → Bool = λ e. leb x (2 ^ e) in
    record {
      enough =
          ⊎_elim
          (λ (l : exponent x < x). leb-true x (2 ^ exponent x) (first_holds test 0 x l))
          (λ (l : x ≤ exponent x). let e : exponent x ≡ x = omega (arith, first_to test 0 x (omega arith)) in rw e (omega (arith, power_above x)))
          (lt_or_le (exponent x) x);
      smallest = λ b h.
          ⊎_elim
          (λ (l : b < exponent x). absurd (omega (arith, leb-false x (2 ^ b) (first-before test 0 x b (omega arith) l))))
          (λ (l : exponent x ≤ b). l)
          (lt_or_le b (exponent x));
    }

-- "1 if that energy is 0".
pub power_of_none : (e : ℕ) → LeastPower 0 e → 2 ^ e ≡ 1
power_of_none e h = let z : e ≡ 0 = omega (arith, h.smallest 0 (omega arith)) in rw z refl

-- Doubling from 1 on: v is 2 ^ a, and no smaller power reaches x.
pub record Doubled (x a v : ℕ) : Type 0 where
  pub power : v ≡ 2 ^ a
  pub smallest : (b : ℕ) → x ≤ 2 ^ b → a ≤ b

module _ {x a v : ℕ} (d : Doubled x a v) where
  pub doubled_positive : 0 < v
  doubled_positive = rw d.power (power_positive a)

  pub doubled_turn : v < x → Doubled x (a + 1) (v * 2)
  doubled_turn l = record {
    power = rw (add-one a) (omega (arith, d.power, pow-succ' 2 a));
    smallest = λ b h.
        ⊎_elim
        (λ (e : a ≡ b). absurd (omega (arith, d.power, ap (λ (n : ℕ). 2 ^ n) e)))
        (λ (e : a < b). omega arith)
        (eq-or-lt_of_le (d.smallest b h));
  }

  pub doubled_end : x ≤ v → LeastPower x a × (v ≡ 2 ^ a)
  doubled_end l = (record { enough = rw (← d.power) l; smallest = d.smallest }, d.power)
