-- What two operations on bits give: the lowest bit that is set in one of two numbers, and one bit of a number.
-- Assumes nothing.
use Prim.Native.Nat.{ℕ, zero, suc, ◌+◌, ◌-◌, ◌*◌, ◌/◌, ◌%◌, ◌^◌, ◌≤◌, ◌<◌, min}
use mathlib.Core.Path.{◌≡◌, refl, sym, ap, ◌∙◌}
use mathlib.Core.Bool.{Bool, true, false, ◌&&◌}
use mathlib.Core.Logic.{⊎_elim}
use native.Mathlib.Nat.{pow-suc, pow-succ', zero-mul, one-mul}
use native.Mathlib.Omega.{arith}
use lib.Dec.{eqb}
use lib.Bits.{bit_and, bit_or, and_step, or_step, or_lt, or_add_and, and_le_r, and_high}
use borrow.Author.Tests.{eqb-true, eqb-false, eq-eqb, ne_eqb}
use Rattle.numbers.specs.Halving.{common_twos_in, common_power, is_even}
use Rattle.numbers.specs.Power.{IsPower}
use Rattle.numbers.proofs.Tests.{bool_cases, and-true, cond_true, cond_false, lt_or_le}
use Rattle.numbers.proofs.Powers.{power_positive}

-- A number and what it lacks to k ones have no bit in common.
no_common_bit : (k q : ℕ) → q < 2 ^ k → bit_and q (2 ^ k - 1 - q) ≡ 0
no_common_bit zero q h = let e : q ≡ 0 = omega arith in rw e refl
no_common_bit (suc k) q h =
    let p = pow-succ' 2 k in
    let i = no_common_bit k (q / 2) (omega arith) in
    let e : (2 ^ suc k - 1 - q) / 2 ≡ 2 ^ k - 1 - q / 2 = omega arith in
    let m : min (q % 2) ((2 ^ suc k - 1 - q) % 2) ≡ 0 = omega arith in
    rw (and_step q, e, i, m) refl

-- The lowest bit w & (2 ^ d - w) of w, the bits of x and y together.
module _ (d x y : ℕ) (hx : x < 2 ^ suc d) (hy : y < 2 ^ suc d) where
  abbrev halves : ℕ
  halves = bit_or (x / 2) (y / 2)

  halves_fit : halves < 2 ^ d
  halves_fit = let p = pow-succ' 2 d in or_lt d (x / 2) (y / 2) (omega arith) (omega arith)

  lowest_later : x % 2 ≡ 0 → y % 2 ≡ 0 → bit_and (bit_or x y) (2 ^ suc d - bit_or x y) ≡ bit_and halves (2 ^ d - halves) * 2
  lowest_later ex ey =
      let p = pow-succ' 2 d in
      let f = halves_fit in
      let w : bit_or x y ≡ halves * 2 = or_step x y ∙ omega arith in
      let l : halves * 2 / 2 ≡ halves = omega arith in
      let e : (2 ^ suc d - halves * 2) / 2 ≡ 2 ^ d - halves = omega arith in
      let m : min (halves * 2 % 2) ((2 ^ suc d - halves * 2) % 2) ≡ 0 = omega arith in
      rw w (and_step (halves * 2) (2 ^ suc d - halves * 2) ∙ rw (l, e, m) (omega arith))

  lowest_here : 1 ≤ x % 2 + y % 2 → bit_and (bit_or x y) (2 ^ suc d - bit_or x y) ≡ 1
  lowest_here o =
      let p = pow-succ' 2 d in
      let f = halves_fit in
      let w : bit_or x y ≡ halves * 2 + 1 = or_step x y ∙ omega arith in
      let l : (halves * 2 + 1) / 2 ≡ halves = omega arith in
      let e : (2 ^ suc d - (halves * 2 + 1)) / 2 ≡ 2 ^ d - 1 - halves = omega arith in
      let m : min ((halves * 2 + 1) % 2) ((2 ^ suc d - (halves * 2 + 1)) % 2) ≡ 1 = omega arith in
      rw w (and_step (halves * 2 + 1) (2 ^ suc d - (halves * 2 + 1)) ∙ rw (l, e, m, no_common_bit d halves f) refl)

-- The twos that x and y have in common: one more than their halves, where both are even, and else none.
module _ (n x y : ℕ) where
  abbrev both_even : Bool
  both_even = eqb (x % 2) 0 && eqb (y % 2) 0

  pub twos_more : x % 2 ≡ 0 → y % 2 ≡ 0 → common_twos_in (suc n) x y ≡ suc (common_twos_in n (x / 2) (y / 2))
  unfolding common_twos_in
  twos_more ex ey = cond_true both_even _ _ (rw (eq-eqb (x % 2) 0 ex, eq-eqb (y % 2) 0 ey) refl)

  pub twos_none : 0 < x % 2 + y % 2 → common_twos_in (suc n) x y ≡ 0
  unfolding common_twos_in
  twos_none o =
      ⊎_elim
      (λ (e : both_even ≡ true).
      let b = and-true (eqb (x % 2) 0) (eqb (y % 2) 0) e in
      absurd (omega (arith, eqb-true (x % 2) 0 b.0, eqb-true (y % 2) 0 b.1)))
      (λ (e : both_even ≡ false). cond_false both_even _ _ e)
      (bool_cases both_even)

lowest_is : (d n x y : ℕ) → x < 2 ^ d → y < 2 ^ d → 0 < x + y → x + y ≤ n → bit_and (bit_or x y) (2 ^ d - bit_or x y) ≡ 2 ^ common_twos_in n x y
lowest_is zero n x y hx hy p h = absurd (omega arith)
lowest_is (suc d) zero x y hx hy p h = absurd (omega arith)
lowest_is (suc d) (suc n) x y hx hy p h =
    ⊎_elim
    (λ (o : 0 < x % 2 + y % 2). rw (twos_none n x y o) (lowest_here d x y hx hy o))
    (λ (e : x % 2 + y % 2 ≤ 0).
    let ex : x % 2 ≡ 0 = omega arith in
    let ey : y % 2 ≡ 0 = omega arith in
    let q = pow-succ' 2 d in
    lowest_later d x y hx hy ex ey
    ∙ ap (λ (z : ℕ). z * 2) (lowest_is d n (x / 2) (y / 2) (omega arith) (omega arith) (omega arith) (omega arith))
    ∙ sym (ap (λ (z : ℕ). 2 ^ z) (twos_more n x y ex ey) ∙ pow-suc 2 (common_twos_in n (x / 2) (y / 2))))
    (lt_or_le 0 (x % 2 + y % 2))

module _ (x y : ℕ) (p : 0 < x) (hx : x < 2 ^ 64) (hy : y < 2 ^ 64) where
  pub some_bit : 0 < bit_or x y
  some_bit = omega (arith, or_add_and x y, and_le_r x y)

  -- The power in 64 bits, where !w is what w lacks to 64 ones.
  pub lowest_of_64 : bit_and (bit_or x y) (2 ^ 64 - 1 - bit_or x y + 1) ≡ common_power x y
  unfolding common_power
  lowest_of_64 =
      let o = some_bit in
      let f = or_lt 64 x y hx hy in
      let e : 2 ^ 64 - 1 - bit_or x y + 1 ≡ 2 ^ 64 - bit_or x y = omega arith in
      rw e (lowest_is 64 (x + y) x y hx hy (omega arith) (omega arith))

-- A bit of a number is 0 where the number holds its power of two an even number of times.
bit_is : (u n : ℕ) → IsPower u → bit_and n u ≡ n / u % 2 * u
bit_is u n (k, e) =
    let p = pow-succ' 2 k in
    let o : 1 + k ≡ suc k = omega arith in
    let q : 2 ^ (1 + k) - 2 ^ k ≡ 2 ^ k = rw o (omega arith) in
    rw e (ap (bit_and n) (sym q) ∙ and_high n 1 k)

pub bit_test : (u n : ℕ) → IsPower u → eqb (bit_and n u) 0 ≡ is_even u n
bit_test u n p =
    ⊎_elim
    (λ (e : is_even u n ≡ true). eq-eqb (bit_and n u) 0 (bit_is u n p ∙ ap (λ (z : ℕ). z * u) (eqb-true (n / u % 2) 0 e) ∙ zero-mul u) ∙ sym e)
    (λ (e : is_even u n ≡ false).
    let o : n / u % 2 ≡ 1 = omega (arith, eqb-false (n / u % 2) 0 e) in
    ne_eqb (bit_and n u) 0 (λ z. omega (arith, bit_is u n p, ap (λ (z : ℕ). z * u) o, one-mul u, power_positive p.0, p.1)) ∙ sym e)
    (bool_cases (is_even u n))
