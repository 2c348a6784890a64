-- The loop of common_divisor: at a and b, after s of the steps that x and y take.
-- Assumes nothing.
use Prim.Native.Nat.{ℕ, suc, ◌+◌, ◌*◌, ◌<◌}
use mathlib.Core.Path.{◌≡◌, sym, ap, ap₂, ◌∙◌}
use native.Mathlib.Nat.{eq_of_mul-eq-mul_left}
use native.Mathlib.Omega.{arith}
use Rattle.numbers.specs.Numbers.{gcd}
use Rattle.numbers.specs.Halving.{common_power, step, steps_in, steps}
use Rattle.numbers.proofs.Divisors.{gcd_self, gcd_times}
use Rattle.numbers.proofs.Halving.{Multiples, multiples_positive, stepped_at, step_falls, step-more, step-none, same_steps, common_positive, common_multiples}

pub record Reached (x y a b s : ℕ) : Type 0 where
  pub multiples : Multiples (common_power x y) a b
  pub same : common_power x y * gcd multiples.i multiples.j ≡ gcd x y
  pub counted : s + steps_in (a + b) (common_power x y) a b ≡ steps x y

pub reached_start : (x y : ℕ) → 0 < x → 0 < y → Reached x y x y 0
unfolding steps
reached_start x y p q =
    let m = common_multiples x y p q in
    record {
      multiples = m;
      same = gcd_times (common_power x y) m.i m.j ∙ ap₂ gcd (sym m.left) (sym m.right);
      counted = omega arith;
    }

module _ {x y a b s : ℕ} (r : Reached x y a b s) where
  pub reached_end : a ≡ b → (a ≡ gcd x y) × (s ≡ steps x y)
  reached_end e =
      let m = r.multiples in
      let u = common_power x y in
      let k : m.i ≡ m.j = eq_of_mul-eq-mul_left u (common_positive x y) m.i m.j (sym m.left ∙ e ∙ m.right) in (
        m.left ∙ ap (λ (z : ℕ). u * z) (gcd_self m.i ∙ ap (gcd m.i) k) ∙ r.same,
        omega (arith, r.counted, step-none (a + b) u a b e),
      )

  module _ (apart : a ≡ b → ⊥) where
    -- Each step brings the sum of the two down, so that the loop ends.
    pub reached_falls : (u : ℕ) {c d : ℕ} → (c, d) ≡ step u a b → c + d < a + b
    reached_falls u e =
        let o = multiples_positive (common_positive x y) r.multiples in
        omega (arith, step_falls u a b o.0 o.1 apart, ap (λ (z : ℕ × ℕ). z.0) e, ap (λ (z : ℕ × ℕ). z.1) e)

    -- The numbers that a step makes, by the definition.
    abbrev a' : ℕ
    a' = (step (common_power x y) a b).0

    abbrev b' : ℕ
    b' = (step (common_power x y) a b).1

    next : Reached x y a' b' (suc s)
    next =
        let t = stepped_at (common_positive x y) r.multiples apart in
        let u = common_power x y in
        let f = common_positive x y in
        let o = multiples_positive f r.multiples in
        record {
          multiples = t.next;
          same = ap (λ (z : ℕ). common_power x y * z) t.made.same ∙ r.same;
          counted = omega (
            arith,
            r.counted,
            same_steps (a + b) (suc (a + b)) u a b f r.multiples (omega arith) (omega arith),
            step-more (a + b) u a b apart,
            same_steps (a + b) (a' + b') u a' b' f t.next (omega (arith, step_falls u a b o.0 o.1 apart)) (omega arith),
          );
        }

    -- A further step is one of those that x and y take.
    pub reached_before : s < steps x y
    reached_before = omega (arith, next.counted)

    -- What a step of the code leaves, where its u is the largest power of two that divides both.
    pub reached_next : {u c d t : ℕ} → u ≡ common_power x y → (c, d) ≡ step u a b → t ≡ suc s → Reached x y c d t
    reached_next {u} h e m =
        let f = e ∙ ap (λ (z : ℕ). step z a b) h in
        rw (ap (λ (z : ℕ × ℕ). z.0) f, ap (λ (z : ℕ × ℕ). z.1) f, m) next
