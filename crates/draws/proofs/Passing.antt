-- A set from the generator passes checks 2, 3, 10 and 4, and its hyper-period divides 400: for every seed, and 1 to 32 tasks.
-- Assumes nothing.
use Prim.Native.Nat.{ℕ, zero, suc, ◌+◌, ◌*◌, ◌%◌, ◌≤◌, ◌<◌, ◌∣◌}
use mathlib.Core.Path.{◌≡◌, refl, sym, ap, ◌∙◌, subst}
use mathlib.Core.Bool.{Bool, true, ◌&&◌}
use mathlib.Core.List.{List}
use native.Mathlib.Nat.{mul-le-mul, dvd_of_mod-eq-zero}
use native.Mathlib.Omega.{arith}
use lib.Dec.{eqb}
use borrow.Author.Tests.{eqb-true}
use Rattle.numbers.specs.Numbers.{between}
use Rattle.numbers.proofs.Tests.{and-true, between_true}
use Rattle.numbers.proofs.Lists.{every_at}
use Rattle.layout.specs.Words.{head_size, slack_place, idle_place, rate_count, task_count, period_place, rate, period, allows, head_kind}
use Rattle.layout.specs.declared.Layout.TheVariants.{Ordinary}
use Rattle.layout.proofs.Layouts.{slack_kind, idle_in_head, zero_in_head, zero_in_extra}
use Rattle.layout.specs.Whole.{IsWhole}
use Rattle.taskset.proofs.Sets.{hyper_divides, set_passes}
use Rattle.taskset.proofs.Idle.{covered_passes, nothing-covered}
use Rattle.draws.specs.Generated.{draw, periods, drawn_period, drawn_energy, five_rates, generated}
use Rattle.draws.specs.Calls.{PassesChecks}
use Rattle.draws.proofs.Sizes.{set_size}
use Rattle.draws.proofs.Places.{slack_is, head_zero, rates_is, rate_is, tasks_is, period_is, cycles_is, extra_zero, energy_is}

-- ---- the table of periods: each is in its range and divides 400
abbrev good : ℕ → Bool
good p = between 1 400 p && eqb (400 % p) 0

period-good : (x : ℕ) → good (drawn_period x) ≡ true
period-good x = every_at good periods refl (x % 8) 0 (omega arith)

period_range : (x : ℕ) → (1 ≤ drawn_period x) × (drawn_period x ≤ 400)
period_range x = between_true 1 400 (drawn_period x) (and-true (between 1 400 (drawn_period x)) _ (period-good x)).0

period_divides : (x : ℕ) → drawn_period x ∣ 400
period_divides x =
    dvd_of_mod-eq-zero (drawn_period x) (eqb-true (400 % drawn_period x) 0 (and-true (between 1 400 (drawn_period x)) _ (period-good x)).1)

-- An energy is at least 1, and at most 10 times 25: for any factor of 1 to 10.
product_range : (f r : ℕ) → 1 ≤ f → f ≤ 10 → 1 ≤ r → r ≤ five_rates → (1 ≤ f * r * r) × (f * r * r ≤ 1000000)
product_range f r low high a b =
    let least : 1 * 1 ≤ f * r = mul-le-mul {n₁ = 1} {m₁ = 1} {n₂ = f} {m₂ = r} low a in
    let most : f * r ≤ 10 * 5 = mul-le-mul {n₁ = f} {m₁ = r} {n₂ = 10} {m₂ = 5} high b in (
      mul-le-mul {n₁ = 1} {m₁ = 1} {n₂ = f * r} {m₂ = r} (omega arith) a,
      omega (arith, mul-le-mul {n₁ = f * r} {m₁ = r} {n₂ = 50} {m₂ = 5} (omega arith) b),
    )

energy_range : (x r : ℕ) → 1 ≤ r → r ≤ five_rates → (1 ≤ drawn_energy x r) × (drawn_energy x r ≤ 1000000)
energy_range x r = product_range _ r (omega arith) (omega arith)

module _ (seed n : ℕ) (some : 1 ≤ n) (few : n ≤ 32) where
  abbrev s : List ℕ
  s = generated seed n

  abbrev task : (t : ℕ) → t < task_count Ordinary s → t < n
  task t h = omega (arith, tasks_is seed n)

  slack_allowed : allows s slack_place (head_kind Ordinary slack_place) ≡ true
  unfolding allows
  slack_allowed = rw (slack_kind Ordinary, slack_is seed n) refl

  head_word : (q : ℕ) → q < head_size Ordinary → allows s q (head_kind Ordinary q) ≡ true
  head_word zero h = slack_allowed
  head_word (suc q) h = zero_in_head s (suc q) (omega arith) h (head_zero seed n (suc q) (omega arith) h)

  pub whole : IsWhole Ordinary s
  whole =
      let m = rates_is seed n in
      let k = tasks_is seed n in
      record {
        size = set_size seed n ∙ ap (λ (j : ℕ). period_place Ordinary j n) (sym m)
            ∙ ap (period_place Ordinary (rate_count Ordinary s)) (sym k);
        rates_range = (omega arith, omega arith);
        tasks_range = (omega arith, omega arith);
        head_word = head_word;
        rate_range = λ r a b. let e = rate_is seed n r a (omega arith) in (omega arith, omega arith);
        period_range = λ t h.
            let e = period_is seed n t (task t h) in
            let g = period_range (draw seed (3 * t)) in
            (omega arith, omega arith);
        cycles_range = λ t h. let e = cycles_is seed n t (task t h) in (omega arith, omega arith);
        extra_word = λ t j h l.
            let e = period_is seed n t (task t h) in
            let g = period_range (draw seed (3 * t)) in
            zero_in_extra s (period_place Ordinary (rate_count Ordinary s) t) j (omega arith) l (extra_zero seed n t (task t h) j l);
        energy_range = λ t r h a b.
            let e = energy_is seed n t (task t h) r a (omega arith) in
            let g = energy_range (draw seed (3 * t + 2)) r a (omega arith) in
            (omega arith, omega arith);
      }

  ascending : (r : ℕ) → 1 ≤ r → r < rate_count Ordinary s → rate Ordinary s r < rate Ordinary s (suc r)
  ascending r a b =
      let m = rates_is seed n in
      omega (arith, rate_is seed n r a (omega arith), rate_is seed n (suc r) (omega arith) (omega arith))

  multiple : (t : ℕ) → t < task_count Ordinary s → period Ordinary s t ∣ 400
  multiple t h = subst (λ (p : ℕ). p ∣ 400) (sym (period_is seed n t (task t h))) (period_divides (draw seed (3 * t)))

  pub passes_checks : PassesChecks s
  passes_checks = record {
    passes = set_passes Ordinary s whole ascending 400 (omega arith) (omega arith) multiple;
    passes_10 = covered_passes Ordinary s (nothing-covered Ordinary s (head_zero seed n idle_place (omega arith) (idle_in_head Ordinary)));
    hyper_divides = hyper_divides Ordinary s whole ascending 400 (omega arith) (omega arith) multiple;
  }
