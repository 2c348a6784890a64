-- The turns of a search, in the form that its loop takes.
-- Assumes nothing.
use Prim.Native.Nat.{ℕ, ◌+◌, ◌≤◌, ◌<◌}
use mathlib.Core.Path.{◌≡◌, subst}
use mathlib.Core.Logic.{⊎_elim}
use native.Mathlib.Nat.{eq-or-lt_of_le}
use native.Mathlib.Omega.{arith}
use Rattle.numbers.specs.Search.{Found}

module _ {P : ℕ → Type 0} {lo q : ℕ} (from : lo ≤ q) (none : (k : ℕ) → lo ≤ k → k < q → P k → ⊥) where
  -- P holds at the place in hand.
  pub found_here : {hi : ℕ} → q < hi → P q → Found P lo hi q
  found_here {hi} l h = record { from = from; to = omega arith; none = none; hit = λ m. h }

  -- The search has come to its end.
  pub found_end : {hi : ℕ} → q ≡ hi → Found P lo hi q
  found_end {hi} e = record { from = from; to = omega arith; none = none; hit = λ m. absurd (omega arith) }

  -- P does not hold at the place in hand.
  pub none_more : (P q → ⊥) → (k : ℕ) → lo ≤ k → k < q + 1 → P k → ⊥
  none_more h k a b p =
      ⊎_elim (λ (e : k ≡ q). h (subst P e p)) (λ (l : k < q). none k a l p) (eq-or-lt_of_le (omega arith))
