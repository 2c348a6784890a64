-- The turns of the loop that follows the running multiple: the task at t has the period p, the multiple of the tasks
-- before it is l, and g is the greatest common divisor of both.
-- Assumes nothing.
use Prim.Native.Nat.{ℕ, suc, ◌+◌, ◌*◌, ◌/◌, ◌^◌, ◌≤◌, ◌<◌}
use mathlib.Core.Path.{◌≡◌, sym, ap, ◌∙◌}
use mathlib.Core.List.{List, [], ◌∷◌}
use mathlib.Core.Logic.{⊎_elim}
use native.Mathlib.Nat.{mul-le-mul, div-le_self, le_trans, le_of_lt, eq-or-lt_of_le}
use native.Mathlib.Numerals.{add-one}
use native.Mathlib.Omega.{arith}
use Rattle.numbers.specs.Numbers.{gcd, lcm, running}
use Rattle.numbers.proofs.Divisors.{gcd_positive}
use Rattle.numbers.proofs.Multiples.{running_more, running_positive}
use Rattle.layout.specs.Words.{longest_period, period_place, period}
use Rattle.layout.specs.declared.Layout.{Layout}
use Rattle.taskset.specs.Quantities.{hyper_limit}
use Rattle.taskset.specs.Refusals.{PassesLimit, IsTooLong, hyper_check}
use Rattle.taskset.specs.Calls.{SetAfter}
use Rattle.taskset.specs.Answers.{ok_measured}
use Rattle.checks.specs.Steps.{OfCounts}

-- What holds at each turn: the multiple of the tasks before the one in hand, and that it passes the limit at none of
-- them.
pub record Turn (layout : Layout) (s : List ℕ) (l t : ℕ) : Type 0 where
  pub value : l ≡ running (period layout s) t
  pub least : 1 ≤ l
  pub most : l ≤ hyper_limit
  pub none : (k : ℕ) → k < t → PassesLimit layout s k → ⊥

module _ {layout : Layout} {m n : ℕ} {s : List ℕ} (h : OfCounts layout m n s) {l t : ℕ} (q : Turn layout s l t) where
  -- No task is left.
  pub all_followed : n ≤ t → t ≤ n → SetAfter (hyper_check layout s ∷ []) layout s (ok_measured m n l)
  all_followed a b = (
    ((λ k w. q.none w.0 (omega (arith, w.1.here.0, h.numbered)) w.1.here), tt),
    h.counted,
    h.numbered,
    q.value ∙ ap (running (period layout s)) (omega (arith, h.numbered)),
  )

  module _ (i : t < n) {p : ℕ} (period_is : p ≡ period layout s t) where
    -- The multiple and the period are small enough for the divisor's bound on its steps.
    pub divisor_asked : (0 < l) × (0 < p) × (l * p < 2 ^ 50)
    divisor_asked =
        let r = h.whole.period_range t (omega (arith, h.numbered)) in
        (q.least, omega (arith, r.0), omega (arith, mul-le-mul {n₁ = l} {m₁ = p} {n₂ = hyper_limit} {m₂ = longest_period} q.most (omega (arith, r.1))))

    module _ {g : ℕ} (d : g ≡ gcd l p) where
      next_is : l / g * p ≡ running (period layout s) (suc t)
      unfolding lcm
      next_is = rw (d, q.value, period_is) (sym (running_more (period layout s) t))

      pub divisor_positive : 1 ≤ g
      divisor_positive = omega (arith, gcd_positive l p q.least)

      pub passed_here : hyper_limit < l / g * p → IsTooLong layout s (period_place layout m t)
      passed_here o = (
        t,
        record { here = (omega (arith, h.numbered), omega (arith, next_is)); before = q.none },
        ap (λ (x : ℕ). period_place layout x t) h.counted,
      )

      pub next_turn : l / g * p ≤ hyper_limit → Turn layout s (l / g * p) (t + 1)
      next_turn o = record {
        value = rw (add-one t) next_is;
        least = omega (
          arith,
          next_is,
          running_positive (period layout s) n
              (λ t l. (h.whole.period_range t (omega (arith, h.numbered))).0) (suc t) i,
        );
        most = o;
        none = λ k a w.
            ⊎_elim
            (λ (e : k ≡ t). omega (arith, next_is, ap (λ (x : ℕ). running (period layout s) (suc x)) e, w.1))
            (λ (b : k < t). q.none k b w)
            (eq-or-lt_of_le (omega arith));
      }

-- A running multiple within the limit times a word fits 64 bits.
pub product_fits : (l g p : ℕ) → l ≤ hyper_limit → p < 2 ^ 32 → l / g * p < 2 ^ 64
product_fits l g p a b = omega (arith, mul-le-mul (le_trans (div-le_self l g) a) (le_of_lt b))
