use Rattle.std.proofs.Common.{◌≡◌, ℕ, ◌*◌, ◌^◌, ◌≤◌, ◌<◌, suc, arith}
use Rattle.std.proofs.Math.Pow.{pow_mono}
use Rattle.std.proofs.Math.Nat.{pow-succ', le_antisymm}
use mathlib.Core.Logic.{⊎_elim}
use Rattle.numbers.proofs.Tests.{lt_or_le}
use Rattle.numbers.proofs.Powers.{power_positive}
use Rattle.engine.proofs.least_power.Goals as goal

-- A power of two below twice another is not above it.
not_above : (k r : ℕ) → 2 ^ k < 2 * 2 ^ r → k ≤ r
not_above k r h = ⊎_elim
    (λ (l : r < k). absurd (omega (arith, pow_mono {i = suc r} {j = k} l, pow-succ' 2 r)))
    (λ (l : k ≤ r). l)
    (lt_or_le r k)

-- The logarithm of a power of two is its exponent.
power_of_log : (v r : ℕ) → (k : ℕ) × (v ≡ 2 ^ k) → 2 ^ r ≤ v → v < 2 * 2 ^ r → v ≡ 2 ^ r
power_of_log v r p low high = le_antisymm (rw p.1 (pow_mono (not_above p.0 r (rw p.1 at high)))) low

pub invariant_of-result : goal.invariant_of-result
invariant_of-result c = record {
  in_word = c.ilog2.ensures.bound;
  power = power_of_log _ _ c.next_power_of_two-value.ensures.power c.ilog2.ensures.power_le c.ilog2.ensures.next_power_gt;
}

pub returns : goal.returns
returns c =
    let e = power_of_log _ _ c.next_power_of_two-value.ensures.power c.ilog2.ensures.power_le c.ilog2.ensures.next_power_gt in
    record {
      enough = rw (← e) c.next_power_of_two-value.ensures.lower_bound;
      smallest = λ b h. not_above _ b (omega (arith, e, h, power_positive b, c.next_power_of_two-value.ensures.upper_bound));
    }
