-- The plan of a rank, digit by digit.
-- Assumes nothing.
use Prim.Native.Nat.{ℕ, ◌+◌, ◌-◌, ◌*◌, ◌/◌, ◌%◌, ◌^◌, ◌≤◌, ◌<◌}
use mathlib.Core.Path.{◌≡◌, refl, ap, ◌∙◌}
use mathlib.Core.List.{List}
use mathlib.Core.Logic.{⊎_elim}
use native.Mathlib.Nat.{eq-or-lt_of_le, mul-le-mul_right, pow-zero, pow-succ', div-add-mod', mod-lt}
use native.Mathlib.Numerals.{add-one}
use native.Mathlib.Omega.{arith}
use lib.ListN.{length, get_or, set, length-set}
use lib.Seq.{get_or-set_same, get_or-set_other}
use Rattle.numbers.proofs.Tests.{lt_or_le}
use Rattle.numbers.proofs.Sums.{total-none, total-more, total_same}
use Rattle.exhaustive.specs.Order.{rank}
use Rattle.exhaustive.specs.Engine.{Numbered, PutReady, PlanPut}
use Rattle.exhaustive.proofs.Order.{moves}

-- The first t numbers are written; what is left of the rank counts plans of the tasks from there on.
pub record Put (m n i : ℕ) (plan₀ plan : List ℕ) (left t : ℕ) : Type 0 where
  pub to : t ≤ n
  pub same : length plan ≡ length plan₀
  pub numbered : Numbered m t plan
  pub rank_is : rank m t plan + left * m ^ t ≡ i
  pub rest : (p : ℕ) → t ≤ p → get_or plan p 0 ≡ get_or plan₀ p 0

pub put_start : (m n i : ℕ) (plan : List ℕ) → Put m n i plan plan i 0
put_start m n i plan = record {
  to = omega arith;
  same = refl;
  numbered = record { above = λ t l. absurd (omega arith); below = λ t l. absurd (omega arith) };
  rank_is = rw (total-none (moves m) plan, pow-zero m) (omega arith);
  rest = λ p l. refl;
}

module _ {m n i : ℕ} {plan₀ plan : List ℕ} {left t : ℕ} (g : PutReady m n i plan₀)
    (w : Put m n i plan₀ plan left t) where
  pub put_turn : t < n → {r : ℕ} → r ≡ left % m + 1 → Put m n i plan₀ (set plan t r) (left / m) (t + 1)
  put_turn l {r} is = record {
    to = omega arith;
    same = length-set plan t r ∙ w.same;
    numbered = record { above = λ u h. (at u h).0; below = λ u h. (at u h).1 };
    rank_is =
        rw (add-one t, pow-succ' m t)
        (omega (
          arith,
          total-more (moves m) t (set plan t r),
          total_same (moves m) (moves m) t (set plan t r) plan
              (λ u h. ap (moves m u) (get_or-set_other plan t u r 0 (omega arith))),
          ap (λ (x : ℕ). (x - 1) * m ^ t) (here ∙ is),
          digit,
          w.rank_is,
        ));
    rest = λ p h. get_or-set_other plan t p r 0 (omega arith) ∙ w.rest p (omega arith);
  }
    where
      here : get_or (set plan t r) t 0 ≡ r
      here = get_or-set_same plan t r 0 (omega (arith, w.same, g.room))

      at : (u : ℕ) → u < t + 1 → (1 ≤ get_or (set plan t r) u 0) × (get_or (set plan t r) u 0 ≤ m)
      at u h =
          ⊎_elim
          (λ (e : u ≡ t). rw (e, here) (omega arith, omega (arith, mod-lt left g.rates.0)))
          (λ (x : u < t).
          rw (get_or-set_other plan t u r 0 (omega arith)) (w.numbered.above u x, w.numbered.below u x))
          (eq-or-lt_of_le (omega arith))

      -- What was left is its last digit and m times the rest.
      digit : (left % m + 1 - 1) * m ^ t + left / m * (m * m ^ t) ≡ left * m ^ t
      digit = omega (arith, ap (λ (x : ℕ). x * m ^ t) (div-add-mod' left m), ap (λ (x : ℕ). x * m ^ t) less)
        where
          less : left % m + 1 - 1 ≡ left % m
          less = omega arith

  -- Nothing is left of a rank below the number of all plans.
  pub put_end : n ≤ t → PlanPut m n i plan₀ plan
  put_end l =
      let e : t ≡ n = omega (arith, w.to) in
      record {
        same = w.same;
        numbered = rw (← e) w.numbered;
        rank_is = rw (← e) (omega (arith, w.rank_is, none));
        rest = λ p h. w.rest p (omega arith);
      }
    where
      none : left * m ^ t ≡ 0
      none =
          let e : t ≡ n = omega (arith, w.to) in
          ⊎_elim
          (λ (z : left < 1). let z : left ≡ 0 = omega arith in rw z (omega arith))
          (λ (z : 1 ≤ left).
          absurd (omega (arith, mul-le-mul_right (m ^ t) z, w.rank_is, g.is_rank, ap (λ (x : ℕ). m ^ x) e)))
          (lt_or_le left 1)
