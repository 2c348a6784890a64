-- The greatest common divisor and the least common multiple are what their names say.
-- Assumes nothing.
use Prim.Native.Nat.{ℕ, zero, suc, ◌+◌, ◌-◌, ◌*◌, ◌/◌, ◌%◌, ◌≤◌, ◌<◌, ◌∣◌}
use mathlib.Core.Path.{◌≡◌, sym, ap, ap₂, ◌∙◌, subst}
use native.Mathlib.Omega.{arith}
use native.Mathlib.Nat.{dvd_refl, dvd-zero, dvd_antisymm, dvd-mul_left, dvd-mul_right, dvd-mod_iff, dvd-add_iff_right, dvd-mul_right_of_dvd, dvd-mul_left_of_dvd, dvd-sub_iff_left, mul-dvd-mul_left, mul-dvd-mul_right, dvd_of_mul-dvd-mul_left, mod-lt, pos_of_dvd_of_pos, div-mul_cancel, mul-div_cancel', mul_assoc, mul_comm, mul-add, div-add-mod, mul-pos, one-mul, mul-one}
use Rattle.numbers.specs.Numbers.{gcd_in, gcd, lcm}

gcd_in_divides : (n a b : ℕ) → b ≤ n → (gcd_in n a b ∣ a) × (gcd_in n a b ∣ b)
unfolding gcd_in
gcd_in_divides zero a b h = (dvd_refl a, (let e : 0 ≡ b = omega arith in subst (λ (x : ℕ). a ∣ x) e (dvd-zero a)))
gcd_in_divides (suc n) a zero h = (dvd_refl a, dvd-zero a)
gcd_in_divides (suc n) a (suc b) h =
    let i = gcd_in_divides n (suc b) (a % suc b) (omega (arith, mod-lt a {m = suc b} (omega arith))) in
    ((dvd-mod_iff (gcd_in n (suc b) (a % suc b)) i.0).0 i.1, i.0)

-- What divides two multiples m * a and m * b divides m times the greatest common divisor.
gcd_in_combines : (n a b m c : ℕ) → c ∣ m * a → c ∣ m * b → c ∣ m * gcd_in n a b
unfolding gcd_in
gcd_in_combines zero a b m c x y = x
gcd_in_combines (suc n) a zero m c x y = x
gcd_in_combines (suc n) a (suc b) m c x y =
    gcd_in_combines n (suc b) (a % suc b) m c y
    ((dvd-add_iff_right c (dvd-mul_right_of_dvd c y (a / suc b))).1
    (subst (λ (z : ℕ). c ∣ z) (ap (λ (z : ℕ). m * z) (sym (div-add-mod a (suc b))) ∙ mul-add m (suc b * (a / suc b)) (a % suc b) ∙ ap (λ (z : ℕ). z + m * (a % suc b)) (sym (mul_assoc m (suc b) (a / suc b)))) x))

module _ (a b : ℕ) where
  pub gcd-left : gcd a b ∣ a
  unfolding gcd
  gcd-left = (gcd_in_divides b a b (omega arith)).0

  pub gcd_right : gcd a b ∣ b
  unfolding gcd
  gcd_right = (gcd_in_divides b a b (omega arith)).1

  pub gcd_greatest : (d : ℕ) → d ∣ a → d ∣ b → d ∣ gcd a b
  unfolding gcd
  gcd_greatest d x y =
      subst (λ (z : ℕ). d ∣ z) (one-mul (gcd_in b a b))
      (gcd_in_combines b a b 1 d (subst (λ (z : ℕ). d ∣ z) (sym (one-mul a)) x) (subst (λ (z : ℕ). d ∣ z) (sym (one-mul b)) y))

  -- The law by which any way of working the divisor out is judged.
  pub gcd_only : (g : ℕ) → g ∣ a → g ∣ b → ((d : ℕ) → d ∣ a → d ∣ b → d ∣ g) → g ≡ gcd a b
  gcd_only g x y all = dvd_antisymm (gcd_greatest g x y) (all (gcd a b) gcd-left gcd_right)

  pub gcd_positive : 0 < a → 0 < gcd a b
  gcd_positive h = pos_of_dvd_of_pos gcd-left h

  pub lcm_right : b ∣ lcm a b
  unfolding lcm
  lcm_right = dvd-mul_left b (a / gcd a b)

  lcm_other : lcm a b ≡ a * (b / gcd a b)
  unfolding lcm
  lcm_other =
      ap (λ (x : ℕ). a / gcd a b * x) (sym (mul-div_cancel' (gcd a b) gcd_right)) ∙
      sym (mul_assoc (a / gcd a b) (gcd a b) (b / gcd a b)) ∙
      ap (λ (x : ℕ). x * (b / gcd a b)) (div-mul_cancel (gcd a b) gcd-left)

  pub lcm-left : a ∣ lcm a b
  lcm-left = subst (λ (x : ℕ). a ∣ x) (sym lcm_other) (dvd-mul_right a (b / gcd a b))

  -- It divides every common multiple.
  pub lcm_least : (m : ℕ) → 0 < a → a ∣ m → b ∣ m → lcm a b ∣ m
  unfolding gcd lcm
  lcm_least m pos x y =
      dvd_of_mul-dvd-mul_left {k = gcd a b} (lcm a b) (gcd_positive pos)
      (subst (λ (z : ℕ). z ∣ gcd a b * m) ab
      (subst (λ (z : ℕ). a * b ∣ z) (mul_comm m (gcd a b))
      (gcd_in_combines b a b m (a * b)
      (subst (λ (z : ℕ). a * b ∣ z) (mul_comm a m) (mul-dvd-mul_left b a y))
      (mul-dvd-mul_right a x b))))
    where
      ab : a * b ≡ gcd a b * lcm a b
      ab = ap (λ (z : ℕ). z * b) (sym (mul-div_cancel' (gcd a b) gcd-left)) ∙ mul_assoc (gcd a b) (a / gcd a b) b

  pub lcm_positive : 0 < a → 0 < b → 0 < lcm a b
  unfolding lcm
  lcm_positive p q = mul-pos (pos_of_dvd_of_pos quotient p) q
    where
      quotient : a / gcd a b ∣ a
      quotient = subst (λ (z : ℕ). a / gcd a b ∣ z) (div-mul_cancel (gcd a b) gcd-left) (dvd-mul_right (a / gcd a b) (gcd a b))

-- Two pairs with the same common divisors have the same greatest one.
pub gcd-alike : (a b c e : ℕ)
    → ((d : ℕ) → d ∣ a → d ∣ b → (d ∣ c) × (d ∣ e)) → ((d : ℕ) → d ∣ c → d ∣ e → (d ∣ a) × (d ∣ b)) → gcd a b ≡ gcd c e
gcd-alike a b c e down up =
    let h = down (gcd a b) (gcd-left a b) (gcd_right a b) in
    gcd_only c e (gcd a b) h.0 h.1 (λ d x y. gcd_greatest a b d (up d x y).0 (up d x y).1)

pub gcd_comm : (a b : ℕ) → gcd a b ≡ gcd b a
gcd_comm a b = gcd-alike a b b a (λ d x y. (y, x)) (λ d x y. (y, x))

pub gcd_self : (a : ℕ) → a ≡ gcd a a
gcd_self a = gcd_only a a a (dvd_refl a) (dvd_refl a) (λ d x y. x)

pub gcd_times : (m a b : ℕ) → m * gcd a b ≡ gcd (m * a) (m * b)
unfolding gcd
gcd_times m a b =
    gcd_only (m * a) (m * b) (m * gcd a b) (mul-dvd-mul_left (gcd a b) m (gcd-left a b)) (mul-dvd-mul_left (gcd a b) m (gcd_right a b))
    (λ d x y. gcd_in_combines b a b m d x y)

-- The smaller may be subtracted from the larger, and an even number be halved beside an odd one.
pub gcd-less : (a b : ℕ) → b ≤ a → gcd (a - b) b ≡ gcd a b
gcd-less a b h =
    gcd-alike (a - b) b a b
    (λ d x y. ((dvd-sub_iff_left d h y).0 x, y))
    (λ d x y. ((dvd-sub_iff_left d h y).1 x, y))

pub gcd-half : (a b : ℕ) → a % 2 ≡ 0 → b % 2 ≡ 1 → gcd (a / 2) b ≡ gcd a b
gcd-half a b even odd =
    gcd-alike (a / 2) b a b
    (λ d x y. (subst (λ (z : ℕ). d ∣ z) twice (dvd-mul_right_of_dvd d x 2), y))
    (λ d x y. ((dvd-add_iff_right d (dvd-mul_right_of_dvd d x (b / 2))).1 (subst (λ (z : ℕ). d ∣ z) split (dvd-mul_left_of_dvd d y (a / 2))), y))
  where
    twice : a / 2 * 2 ≡ a
    twice = omega arith

    split : a / 2 * b ≡ a * (b / 2) + a / 2
    split =
        let e : b ≡ 2 * (b / 2) + 1 = omega arith in
        ap (λ (z : ℕ). a / 2 * z) e ∙ mul-add (a / 2) (2 * (b / 2)) 1
        ∙ ap₂ (λ (y z : ℕ). y + z) (sym (mul_assoc (a / 2) 2 (b / 2)) ∙ ap (λ (z : ℕ). z * (b / 2)) twice) (mul-one (a / 2))
