-- What a function below common_divisor is asked for. Not part of what a reader must believe.
use Rattle.std.specs.Prelude.{ℕ, ◌^◌, ◌≡◌}

-- u is a power of two.
abbrev pub IsPower : ℕ → Type 0
IsPower u = (k : ℕ) × (u ≡ 2 ^ k)
