-- What a search gives. Not part of what a reader must believe.
use Rattle.std.specs.Prelude.{ℕ, ◌≤◌, ◌<◌}

-- r is what a search from lo on and below hi for a number with P gives: the first such, or hi.
pub record Found (P : ℕ → Type 0) (lo hi r : ℕ) : Type 0 where
  pub from : lo ≤ r
  pub to : r ≤ hi
  pub none : (k : ℕ) → lo ≤ k → k < r → P k → ⊥
  pub hit : r < hi → P r
