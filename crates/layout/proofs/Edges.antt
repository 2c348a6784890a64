-- Either side of each range, computed of the definition.
-- Assumes nothing.
use Prim.Native.Nat.{ℕ}
use mathlib.Core.Path.{◌≡◌, refl}
use mathlib.Core.Bool.{Bool, true, ◌&&◌, not}
use mathlib.Core.List.{[], ◌∷◌}
use Rattle.layout.specs.Words.{allows}
use Rattle.layout.specs.declared.Kind.{Kind}
use Rattle.layout.specs.declared.Kind.TheVariants.{Slack, Idle, RateCount, Rate, TaskCount, Period, Cycles, First, Energy}

-- Of this kind low and high are allowed, and the numbers under and above them are not.
abbrev ends : Kind → ℕ → ℕ → ℕ → ℕ → Bool
ends k under low high above =
    not (allows (under ∷ []) 0 k) && (allows (low ∷ []) 0 k && (allows (high ∷ []) 0 k && not (allows (above ∷ []) 0 k)))

pub record Edges : Type 0 where
  pub slack : ends Slack 0 1 1000 1001 ≡ true
  pub idle : allows (0 ∷ []) 0 Idle && (allows (1000 ∷ []) 0 Idle && not (allows (1001 ∷ []) 0 Idle)) ≡ true
  pub rate_count_lem : ends RateCount 1 2 8 9 ≡ true
  pub rate : ends Rate 0 1 1000000 1000001 ≡ true
  pub task_count_lem : ends TaskCount 0 1 32 33 ≡ true
  pub period : ends Period 0 1 10000000 10000001 ≡ true
  pub cycles : ends Cycles 0 1 4000000000 4000000001 ≡ true
  pub first :
      allows (7 ∷ 1 ∷ 0 ∷ []) 2 First && (allows (7 ∷ 1 ∷ 6 ∷ []) 2 First && not (allows (7 ∷ 1 ∷ 7 ∷ []) 2 First)) ≡ true
  pub energy : ends Energy 0 1 1000000 1000001 ≡ true

pub edges : Edges
unfolding allows
edges = record {
  slack = refl;
  idle = refl;
  rate_count_lem = refl;
  rate = refl;
  task_count_lem = refl;
  period = refl;
  cycles = refl;
  first = refl;
  energy = refl;
}
