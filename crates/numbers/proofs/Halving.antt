-- Halving and subtracting keeps the greatest common divisor, and takes at most 100 steps where the product of the two
-- numbers is below 2 ^ 50. The numbers are multiples of u, a ≡ u * i and b ≡ u * j, and not both even ones; each step
-- makes others of the same kind. A halving halves i * j, so there are fewer than 50; behind each subtraction comes a
-- halving, so there are no more subtractions than halvings.
-- Assumes nothing.
use Prim.Native.Nat.{ℕ, zero, suc, ◌+◌, ◌-◌, ◌*◌, ◌/◌, ◌%◌, ◌^◌, ◌≤◌, ◌<◌, ◌∣◌}
use mathlib.Core.Path.{◌≡◌, refl, sym, ap, ◌∙◌, subst}
use mathlib.Core.Bool.{true, false, cond}
use mathlib.Core.Logic.{◌⊎◌, inl, inr, ⊎_elim}
use native.Mathlib.Nat.{one-mul, mul-one, mul_assoc, mul_comm, mul-pos, mul-sub, mul-le-mul, mul-le-mul_left, mul-le-mul_right, lt_of_mul-lt-mul_left, mul-div_cancel_left, mul-div_assoc, pow-suc, pow-succ', pow-le-pow_right, dvd-mul_right, dvd_trans, dvd_iff_mod-eq-zero, dvd_of_mod-eq-zero, dvd_of_mul-dvd-mul_left}
use native.Mathlib.Omega.{arith}
use lib.Dec.{eqb, ltb}
use borrow.Author.Tests.{eqb-true, eqb-false, lt-ltb, le-ltb, eq-eqb, ne_eqb}
use Rattle.numbers.specs.Numbers.{gcd}
use Rattle.numbers.specs.Halving.{common_twos_in, common_power, is_even, step, steps_in, steps, most_steps}
use Rattle.numbers.specs.Power.{IsPower}
use Rattle.numbers.proofs.Tests.{bool_cases, cond_true, cond_false, lt_or_le}
use Rattle.numbers.proofs.Powers.{power_positive, power_divides}
use Rattle.numbers.proofs.Divisors.{gcd_comm, gcd-less, gcd-half}
use Rattle.numbers.proofs.Bits.{twos_more, twos_none}

-- THE FOUR STEPS.

-- Each with the number that it makes.
module _ (u a b : ℕ) where
  pub step-halves-left : {h : ℕ} → is_even u a ≡ true → h ≡ a / 2 → (h, b) ≡ step u a b
  step-halves-left e m = ap (λ (z : ℕ). (z, b)) m ∙ sym (cond_true (is_even u a) _ _ e)

  module _ (o : is_even u a ≡ false) where
    pub step-halves_right : {h : ℕ} → is_even u b ≡ true → h ≡ b / 2 → (a, h) ≡ step u a b
    step-halves_right e m = ap (λ (z : ℕ). (a, z)) m ∙ sym (cond_false (is_even u a) _ _ o ∙ cond_true (is_even u b) _ _ e)

    module _ (e : is_even u b ≡ false) where
      neither : step u a b ≡ cond (ltb b a) (a - b, b) (a, b - a)
      neither = cond_false (is_even u a) _ _ o ∙ cond_false (is_even u b) _ _ e

      pub step_takes_left : {d : ℕ} → b < a → d ≡ a - b → (d, b) ≡ step u a b
      step_takes_left l m = ap (λ (z : ℕ). (z, b)) m ∙ sym (neither ∙ cond_true (ltb b a) _ _ (lt-ltb b a l))

      pub step_takes_right : {d : ℕ} → a ≤ b → d ≡ b - a → (a, d) ≡ step u a b
      step_takes_right l m = ap (λ (z : ℕ). (a, z)) m ∙ sym (neither ∙ cond_false (ltb b a) _ _ (le-ltb b a l))

  -- What holds of the four holds of a step.
  module _ (P : ℕ × ℕ → Type 0)
      (halves-left : is_even u a ≡ true → P (a / 2, b))
      (halves-right : is_even u a ≡ false → is_even u b ≡ true → P (a, b / 2))
      (takes-left : is_even u a ≡ false → is_even u b ≡ false → b < a → P (a - b, b))
      (takes-right : is_even u a ≡ false → is_even u b ≡ false → a ≤ b → P (a, b - a)) where
    takes : is_even u a ≡ false → is_even u b ≡ false → P (step u a b)
    takes o e =
        ⊎_elim
        (λ (l : b < a). subst P (step_takes_left o e l refl) (takes-left o e l))
        (λ (l : a ≤ b). subst P (step_takes_right o e l refl) (takes-right o e l))
        (lt_or_le b a)

    pub step_cases : P (step u a b)
    step_cases =
        ⊎_elim
        (λ (e : is_even u a ≡ true). subst P (step-halves-left e refl) (halves-left e))
        (λ (o : is_even u a ≡ false). ⊎_elim (λ (e : is_even u b ≡ true). subst P (step-halves_right o e refl) (halves-right o e)) (takes o) (bool_cases (is_even u b)))
        (bool_cases (is_even u a))

  -- Numbers that are not equal come down, whatever u is.
  pub step_falls : 0 < a → 0 < b → (a ≡ b → ⊥) → (step u a b).0 + (step u a b).1 < a + b
  step_falls p q apart = step_cases (λ (s : ℕ × ℕ). s.0 + s.1 < a + b) (λ e. omega arith) (λ o e. omega arith) (λ o e l. omega arith) (λ o e l. omega arith)

-- WHAT THEY MAKE OF i AND j.

-- One of the two is odd: i % 2 + j % 2 is 2 where both are, else 1.
pub record OneOdd (i j : ℕ) : Type 0 where
  pub left : 0 < i
  pub right : 0 < j
  pub odd : 1 ≤ i % 2 + j % 2

-- The divisor is kept. A halving halves the product; a subtraction does not raise it, and leaves an even number.
pub record Made (i j i' j' : ℕ) : Type 0 where
  pub same : gcd i' j' ≡ gcd i j
  pub cost :
      ((i % 2 + j % 2 ≡ 1) × (i' * j' * 2 ≡ i * j)) ⊎
      ((i % 2 + j % 2 ≡ 2) × (i' % 2 + j' % 2 ≡ 1) × (i' * j' ≤ i * j))

made_halving : {i j : ℕ} → i % 2 ≡ 0 → j % 2 ≡ 1 → Made i j (i / 2) j
made_halving {i} {j} even odd = record {
  same = gcd-half i j even odd;
  cost =
      let e : i / 2 * 2 ≡ i = omega arith in
      inl (omega arith, mul_assoc (i / 2) j 2 ∙ ap (λ (z : ℕ). i / 2 * z) (mul_comm j 2) ∙ sym (mul_assoc (i / 2) 2 j) ∙ ap (λ (z : ℕ). z * j) e);
}

made_subtraction : {i j : ℕ} → i % 2 ≡ 1 → j % 2 ≡ 1 → j < i → Made i j (i - j) j
made_subtraction {i} {j} x y l = record {
  same = gcd-less i j (omega arith);
  cost = inr (omega arith, omega arith, mul-le-mul_right j (omega arith));
}

-- The same with left and right changed about.
turned : {i j i' j' : ℕ} → Made i j i' j' → Made j i j' i'
turned {i} {j} {i'} {j'} m = record {
  same = gcd_comm j' i' ∙ m.same ∙ gcd_comm i j;
  cost =
      ⊎_elim
      (λ h. inl (omega (arith, h.0), ap (λ (z : ℕ). z * 2) (mul_comm j' i') ∙ h.1 ∙ mul_comm i j))
      (λ h. inr (omega (arith, h.0), omega (arith, h.1), omega (arith, h.2, mul_comm j' i', mul_comm i j)))
      m.cost;
}

-- TWO NUMBERS AS MULTIPLES OF u, not both even ones.

pub record Multiples (u a b : ℕ) : Type 0 where
  pub i : ℕ
  pub j : ℕ
  pub kind : OneOdd i j
  pub left : a ≡ u * i
  pub right : b ≡ u * j

pub multiples_positive : {u a b : ℕ} → 0 < u → Multiples u a b → (0 < a) × (0 < b)
multiples_positive up m = (rw m.left (mul-pos up m.kind.left), rw m.right (mul-pos up m.kind.right))

-- A step at u * i and u * j.
pub record Stepped (u i j : ℕ) (p : ℕ × ℕ) : Type 0 where
  pub next : Multiples u p.0 p.1
  pub made : Made i j next.i next.j

module _ (u i j : ℕ) (up : 0 < u) (k : OneOdd i j) (apart : u * i ≡ u * j → ⊥) where
  -- A multiple that is not halved is odd.
  odd_is : (n : ℕ) → is_even u (u * n) ≡ false → n % 2 ≡ 1
  odd_is n e =
      let m = ap (λ (z : ℕ). z % 2) (mul-div_cancel_left n up) in
      omega (arith, eqb-false (u * n / u % 2) 0 e)

  even_is : (n : ℕ) → is_even u (u * n) ≡ true → n % 2 ≡ 0
  even_is n e = ap (λ (z : ℕ). z % 2) (sym (mul-div_cancel_left n up)) ∙ eqb-true (u * n / u % 2) 0 e

  half_is : (n : ℕ) → n % 2 ≡ 0 → u * n / 2 ≡ u * (n / 2)
  half_is n e = mul-div_assoc 2 u (dvd_of_mod-eq-zero 2 e)

  pub stepped : Stepped u i j (step u (u * i) (u * j))
  stepped =
      step_cases u (u * i) (u * j) (Stepped u i j)
      (λ e.
      let h = even_is i e in
      record {
        next = record { i = i / 2; j = j; kind = record { left = omega arith; right = k.right; odd = omega arith }; left = half_is i h; right = refl };
        made = made_halving h (omega arith);
      })
      (λ o e.
      let x = odd_is i o in
      let h = even_is j e in
      record {
        next = record { i = i; j = j / 2; kind = record { left = k.left; right = omega arith; odd = omega arith }; left = refl; right = half_is j h };
        made = turned (made_halving h x);
      })
      (λ o e l.
      let x = odd_is i o in
      let y = odd_is j e in
      let s = lt_of_mul-lt-mul_left u l in
      record {
        next = record { i = i - j; j = j; kind = record { left = omega arith; right = k.right; odd = omega arith }; left = sym (mul-sub u i j); right = refl };
        made = made_subtraction x y s;
      })
      (λ o e l.
      let x = odd_is i o in
      let y = odd_is j e in
      let s = lt_of_mul-lt-mul_left u {m = i} {n = j} (omega arith) in
      record {
        next = record { i = i; j = j - i; kind = record { left = k.left; right = omega arith; odd = omega arith }; left = refl; right = sym (mul-sub u j i) };
        made = turned (made_subtraction y x s);
      })

-- THE LARGEST POWER OF TWO that divides both numbers is such a u.

shares : (n a b : ℕ) → 0 < a → 0 < b → a + b ≤ n → Multiples (2 ^ common_twos_in n a b) a b
shares zero a b p q h = absurd (omega arith)
shares (suc n) a b p q h =
    ⊎_elim
    (λ (o : 0 < a % 2 + b % 2).
    rw (twos_none n a b o) (record { i = a; j = b; kind = record { left = p; right = q; odd = o }; left = sym (one-mul a); right = sym (one-mul b) }))
    (λ (e : a % 2 + b % 2 ≤ 0).
    let m = shares n (a / 2) (b / 2) (omega arith) (omega arith) (omega arith) in
    rw (twos_more n a b (omega arith) (omega arith))
    (record {
      i = m.i;
      j = m.j;
      kind = m.kind;
      left = twice (common_twos_in n (a / 2) (b / 2)) m.i (omega arith) m.left;
      right = twice (common_twos_in n (a / 2) (b / 2)) m.j (omega arith) m.right;
    }))
    (lt_or_le 0 (a % 2 + b % 2))
  where
    twice : {c : ℕ} (e k : ℕ) → c % 2 ≡ 0 → c / 2 ≡ 2 ^ e * k → c ≡ 2 ^ suc e * k
    twice {c} e k z l = omega (arith, ap (λ (d : ℕ). d * k) (pow-succ' 2 e), mul_assoc 2 (2 ^ e) k)

pub common_is_power : (x y : ℕ) → IsPower (common_power x y)
unfolding common_power
common_is_power x y = (common_twos_in (x + y) x y, refl)

pub common_positive : (x y : ℕ) → 0 < common_power x y
common_positive x y = let k = common_is_power x y in rw k.1 (power_positive k.0)

module _ (x y : ℕ) (p : 0 < x) (q : 0 < y) where
  pub common_multiples : Multiples (common_power x y) x y
  unfolding common_power
  common_multiples = shares (x + y) x y p q (omega arith)

  -- It divides both, and no larger power of two does.
  pub common_divides : (common_power x y ∣ x) × (common_power x y ∣ y)
  common_divides = let m = common_multiples in (divides m.i m.left, divides m.j m.right)
    where
      divides : {c : ℕ} (k : ℕ) → c ≡ common_power x y * k → common_power x y ∣ c
      divides k e = rw e (dvd-mul_right (common_power x y) k)

  pub common_largest : (e : ℕ) → 2 ^ e ∣ x → 2 ^ e ∣ y → 2 ^ e ≤ common_power x y
  common_largest e l r =
      let m = common_multiples in
      ⊎_elim
      (λ (h : k < e). absurd (omega (arith, even h m.i m.left l, even h m.j m.right r, m.kind.odd)))
      (λ (h : e ≤ k). rw is_power (pow-le-pow_right {n = 2} (omega arith) h))
      (lt_or_le k e)
    where
      k : ℕ
      k = (common_is_power x y).0

      is_power : common_power x y ≡ 2 ^ k
      is_power = (common_is_power x y).1

      even : {c : ℕ} → k < e → (n : ℕ) → c ≡ common_power x y * n → 2 ^ e ∣ c → n % 2 ≡ 0
      even {c} h n m d =
          (dvd_iff_mod-eq-zero 2).0
          (dvd_of_mul-dvd-mul_left {k = 2 ^ k} 2 (power_positive k)
          (subst (λ (z : ℕ). z ∣ 2 ^ k * n) (pow-suc 2 k)
          (dvd_trans (2 ^ suc k) (power_divides h) (subst (λ (z : ℕ). 2 ^ e ∣ z) (m ∙ ap (λ (z : ℕ). z * n) is_power) d))))

-- THE NUMBER OF STEPS.

pub step-more : (n u a b : ℕ) → (a ≡ b → ⊥) → steps_in (suc n) u a b ≡ suc (steps_in n u (step u a b).0 (step u a b).1)
unfolding steps_in
step-more n u a b h = cond_false (eqb a b) _ _ (ne_eqb a b h)

pub step-none : (n u a b : ℕ) → a ≡ b → steps_in n u a b ≡ 0
unfolding steps_in
step-none zero u a b h = refl
step-none (suc n) u a b h = cond_true (eqb a b) _ _ (eq-eqb a b h)

-- A step at multiples of u, wherever they stand.
pub stepped_at : {u a b : ℕ} → 0 < u → (m : Multiples u a b) → (a ≡ b → ⊥) → Stepped u m.i m.j (step u a b)
stepped_at {u} up m apart =
    rw (m.left, m.right) (stepped u m.i m.j up m.kind (λ e. apart (m.left ∙ e ∙ sym m.right)))

-- Where i * j is below 2 ^ (h + 1) there are at most h halvings, and as many subtractions; one less where one of the two
-- is even, since a halving comes first.
module _ (i j : ℕ) (k : OneOdd i j) where
  none_left : (h : ℕ) → i * j < 2 ^ suc h → 0 + 2 ≤ 2 * h + (i % 2 + j % 2)
  none_left zero l = omega (arith, mul-le-mul_left i k.right, mul-le-mul_right j k.left, mul-one i, one-mul j)
  none_left (suc h) l = omega arith

  -- One step, and s behind it.
  one_more : {i' j' : ℕ} (h s : ℕ) → Made i j i' j' → OneOdd i' j' → i * j < 2 ^ suc h
      → ((g : ℕ) → i' * j' < 2 ^ suc g → s + 2 ≤ 2 * g + (i' % 2 + j' % 2)) → suc s + 2 ≤ 2 * h + (i % 2 + j % 2)
  one_more {i'} {j'} h s m o l rest =
      ⊎_elim (λ c. halving h l c.0 c.1) (λ c. omega (arith, c.0, c.1, rest h (omega (arith, c.2)))) m.cost
    where
      halving : (h : ℕ) → i * j < 2 ^ suc h → i % 2 + j % 2 ≡ 1 → i' * j' * 2 ≡ i * j → suc s + 2 ≤ 2 * h + (i % 2 + j % 2)
      halving zero l z e = absurd (omega (arith, mul-pos o.left o.right))
      halving (suc g) l z e = omega (arith, rest g (omega (arith, pow-succ' 2 (suc g))))

steps_below : (n u a b h : ℕ) → 0 < u → (m : Multiples u a b) → m.i * m.j < 2 ^ suc h → steps_in n u a b + 2 ≤ 2 * h + (m.i % 2 + m.j % 2)
unfolding steps_in
steps_below zero u a b h up m l = none_left m.i m.j m.kind h l
steps_below (suc n) u a b h up m l =
    ⊎_elim
    (λ (e : eqb a b ≡ true). rw (step-none (suc n) u a b (eqb-true a b e)) (none_left m.i m.j m.kind h l))
    (λ (e : eqb a b ≡ false).
    let s = stepped_at up m (eqb-false a b e) in
    rw (step-more n u a b (eqb-false a b e))
    (one_more m.i m.j m.kind h (steps_in n u (step u a b).0 (step u a b).1) s.made s.next.kind l
    (λ g f. steps_below n u (step u a b).0 (step u a b).1 g up s.next f)))
    (bool_cases (eqb a b))

-- As many as the two numbers together are enough.
pub same_steps : (n k u a b : ℕ) → 0 < u → Multiples u a b → a + b ≤ n → a + b ≤ k → steps_in n u a b ≡ steps_in k u a b
same_steps zero k u a b up m f g = absurd (omega (arith, (multiples_positive up m).0))
same_steps (suc n) zero u a b up m f g = absurd (omega (arith, (multiples_positive up m).0))
same_steps (suc n) (suc k) u a b up m f g =
    ⊎_elim
    (λ (e : eqb a b ≡ true). step-none (suc n) u a b (eqb-true a b e) ∙ sym (step-none (suc k) u a b (eqb-true a b e)))
    (λ (e : eqb a b ≡ false).
    let d = eqb-false a b e in
    let o = multiples_positive up m in
    let l = step_falls u a b o.0 o.1 d in
    step-more n u a b d
    ∙ ap suc (same_steps n k u (step u a b).0 (step u a b).1 up (stepped_at up m d).next (omega arith) (omega arith))
    ∙ sym (step-more k u a b d))
    (bool_cases (eqb a b))

module _ (x y : ℕ) (p : 0 < x) (q : 0 < y) where
  pub steps-enough : (n : ℕ) → x + y ≤ n → steps_in n (common_power x y) x y ≡ steps x y
  unfolding steps
  steps-enough n h = same_steps n (x + y) (common_power x y) x y (common_positive x y) (common_multiples x y p q) h (omega arith)

  -- "At most 100 of these together for each pair."
  pub steps_most : x * y < 2 ^ 50 → steps x y ≤ most_steps
  unfolding steps
  steps_most l =
      let m = common_multiples x y p q in
      omega (
        arith,
        steps_below (x + y) (common_power x y) x y 49 (common_positive x y) m
            (omega (arith, mul-le-mul {n₁ = m.i} {m₁ = m.j} {n₂ = x} {m₂ = y} (whole m.i m.left) (whole m.j m.right))),
      )
    where
      whole : {c : ℕ} (k : ℕ) → c ≡ common_power x y * k → k ≤ c
      whole k e = omega (arith, e, mul-le-mul_right k (common_positive x y), one-mul k)

-- The pairs of a running multiple up to 100,000,000 and a period up to 10,000,000.
pub steps_of_periods : (l p : ℕ) → 1 ≤ l → l ≤ 100000000 → 1 ≤ p → p ≤ 10000000 → steps l p ≤ most_steps
steps_of_periods l p a b c d = steps_most l p a c (omega (arith, mul-le-mul {n₁ = l} {m₁ = p} {n₂ = 100000000} {m₂ = 10000000} b d))

-- TWO PAIRS, by computing.

-- For large numbers run stops where the steps do; steps_in would be unfolded as often as its first number says.
run : ℕ → ℕ → ℕ → ℕ → ℕ
run zero u a b = 0
run (suc n) u zero b = steps_in (suc n) u zero b
run (suc n) u (suc a) zero = steps_in (suc n) u (suc a) zero
run (suc n) u (suc a) (suc b) = cond (eqb (suc a) (suc b)) 0 (suc (run n u (step u (suc a) (suc b)).0 (step u (suc a) (suc b)).1))

run_is : (n u a b : ℕ) → run n u a b ≡ steps_in n u a b
unfolding steps_in run
run_is zero u a b = refl
run_is (suc n) u zero b = refl
run_is (suc n) u (suc a) zero = refl
run_is (suc n) u (suc a) (suc b) =
    ap (λ (z : ℕ). cond (eqb (suc a) (suc b)) 0 (suc z)) (run_is n u (step u (suc a) (suc b)).0 (step u (suc a) (suc b)).1)

pub steps_73 : steps 67108863 8388608 ≡ 73
unfolding steps common_power run
steps_73 =
    ap (λ (k : ℕ). steps_in 75497471 (2 ^ k) 67108863 8388608) (twos_none 75497470 67108863 8388608 (omega arith))
    ∙ sym (run_is 75497471 1 67108863 8388608)

-- 12 and 20 have two twos in common, which stay in: 12 and 8, 12 and 4, 8 and 4, 4 and 4.
pub steps_4 : (common_power 12 20 ≡ 4) × (steps 12 20 ≡ 4)
unfolding steps steps_in common_power common_twos_in
steps_4 = (refl, refl)
