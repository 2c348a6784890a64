-- The order of all plans is document 01's, "the lowest rate number for task N, then for task N - 1, and so on down to
-- task 1", both ways; no place in it is as high as the number of plans, and no two plans share one.
-- Assumes nothing.
use Prim.Native.Nat.{ℕ, zero, suc, ◌+◌, ◌-◌, ◌*◌, ◌^◌, ◌≤◌, ◌<◌}
use mathlib.Core.Path.{◌≡◌, refl, sym, ap}
use mathlib.Core.List.{List, [], ◌∷◌, map}
use mathlib.Core.Logic.{inl, inr, ⊎_elim}
use native.Mathlib.Nat.{eq-or-lt_of_le, mul-le-mul_right, pow-zero, pow-succ'}
use native.Mathlib.Omega.{arith}
use lib.ListN.{get_or}
use Rattle.numbers.specs.Numbers.{total}
use Rattle.numbers.proofs.Tests.{lt_or_le}
use Rattle.numbers.proofs.Sums.{total-more, total-none}
use Rattle.selection.specs.Plan.{NotAfter}
use Rattle.selection.proofs.Unique.{not-after-both}
use Rattle.exhaustive.specs.Order.{rank}
use Rattle.exhaustive.specs.Engine.{Numbered}

-- All plans of two tasks and three rates, in their order.
order :
    map (rank 3 2)
    ((1 ∷ 1 ∷ []) ∷ (2 ∷ 1 ∷ []) ∷ (3 ∷ 1 ∷ []) ∷ (1 ∷ 2 ∷ []) ∷ (2 ∷ 2 ∷ []) ∷ (3 ∷ 2 ∷ []) ∷
    (1 ∷ 3 ∷ []) ∷ (2 ∷ 3 ∷ []) ∷ (3 ∷ 3 ∷ []) ∷ []) ≡
    0 ∷ 1 ∷ 2 ∷ 3 ∷ 4 ∷ 5 ∷ 6 ∷ 7 ∷ 8 ∷ []
unfolding total
order = refl

-- What number r of the task at place t adds to a plan's rank.
abbrev pub moves : ℕ → ℕ → ℕ → ℕ
moves m t r = (r - 1) * m ^ t

fewer : {m n : ℕ} {P : List ℕ} → Numbered m (suc n) P → Numbered m n P
fewer g = record { above = λ t l. g.above t (omega arith); below = λ t l. g.below t (omega arith) }

-- One rate number more adds w more.
pub adds : (w r : ℕ) → 1 ≤ r → (r - 1) * w + w ≡ r * w
adds w r l = let e : r ≡ r - 1 + 1 = omega arith in omega (arith, ap (λ (x : ℕ). x * w) e)

pub rank_below : (m n : ℕ) (P : List ℕ) → Numbered m n P → rank m n P < m ^ n
rank_below m zero P g = rw (total-none (moves m) P, pow-zero m) (omega arith)
rank_below m (suc n) P g =
    omega (
      arith,
      total-more (moves m) n P,
      rank_below m n P (fewer g),
      adds (m ^ n) (get_or P n 0) (g.above n (omega arith)),
      mul-le-mul_right (m ^ n) (g.below n (omega arith)),
      pow-succ' m n,
    )

-- A lower number at the last task outweighs all tasks before it.
outweighs : (m n : ℕ) (P Q : List ℕ) → Numbered m (suc n) P → get_or P n 0 < get_or Q n 0
    → rank m (suc n) P < rank m (suc n) Q
outweighs m n P Q g l =
    omega (
      arith,
      total-more (moves m) n P,
      total-more (moves m) n Q,
      rank_below m n P (fewer g),
      adds (m ^ n) (get_or P n 0) (g.above n (omega arith)),
      mul-le-mul_right {m = get_or P n 0} {n = get_or Q n 0 - 1} (m ^ n) (omega arith),
    )

-- With the same number there the tasks before it decide.
same_last : (m n : ℕ) (P Q : List ℕ) → get_or P n 0 ≡ get_or Q n 0
    → rank m (suc n) P + rank m n Q ≡ rank m (suc n) Q + rank m n P
same_last m n P Q e =
    omega (arith, total-more (moves m) n P, total-more (moves m) n Q, ap (λ (x : ℕ). (x - 1) * m ^ n) e)

-- The plan that comes first has the lower number at the last task where they differ; and the other way round.
pub rank_order : (m n : ℕ) (P Q : List ℕ) → Numbered m n P → Numbered m n Q → rank m n P ≤ rank m n Q → NotAfter n P Q
rank_order m zero P Q g h l = tt
rank_order m (suc n) P Q g h l =
    ⊎_elim
    (λ (x : get_or P n 0 < get_or Q n 0). inl x)
    (λ (x : get_or Q n 0 ≤ get_or P n 0).
    ⊎_elim
    (λ (e : get_or Q n 0 ≡ get_or P n 0).
    inr (sym e, rank_order m n P Q (fewer g) (fewer h) (omega (arith, same_last m n P Q (sym e)))))
    (λ (y : get_or Q n 0 < get_or P n 0). absurd (omega (arith, outweighs m n Q P h y)))
    (eq-or-lt_of_le x))
    (lt_or_le (get_or P n 0) (get_or Q n 0))

pub order_rank : (m n : ℕ) (P Q : List ℕ) → Numbered m n P → NotAfter n P Q → rank m n P ≤ rank m n Q
order_rank m zero P Q g h = omega (arith, total-none (moves m) P)
order_rank m (suc n) P Q g (inl x) = omega (arith, outweighs m n P Q g x)
order_rank m (suc n) P Q g (inr x) = omega (arith, same_last m n P Q x.0, order_rank m n P Q (fewer g) x.1)

-- Two plans of the same rank have the same numbers.
pub rank_same : (m n : ℕ) (P Q : List ℕ) → Numbered m n P → Numbered m n Q → rank m n P ≡ rank m n Q
    → (t : ℕ) → t < n → get_or P t 0 ≡ get_or Q t 0
rank_same m n P Q g h e =
    not-after-both n P Q (rank_order m n P Q g h (omega arith)) (rank_order m n Q P h g (omega arith))
