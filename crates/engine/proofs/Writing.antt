-- Zeros; and lists with the same words from a place on.
-- Assumes nothing.
use mathlib.Core.Path.{◌≡◌, refl, sym, ◌∙◌}
use mathlib.Core.List.{List}
use Prim.Native.Nat.{ℕ, zero, suc, ◌+◌, ◌≤◌}
use native.Mathlib.Omega.{arith}
use lib.ListN.{length, get_or, drop, replicate, length-drop}
use lib.Seq.{ext_get_or, get_or-drop}

pub zeros_at : (n k : ℕ) → get_or (replicate {A = ℕ} n 0) k 0 ≡ 0
zeros_at zero k = refl
zeros_at (suc n) zero = refl
zeros_at (suc n) (suc k) = zeros_at n k

-- Two lists with the same words from n on.
pub rest_same : (n : ℕ) (d₀ d : List ℕ) → length d ≡ length d₀ → ((p : ℕ) → n ≤ p → get_or d p 0 ≡ get_or d₀ p 0)
    → drop n d ≡ drop n d₀
rest_same n d₀ d size same =
    ext_get_or 0 (drop n d) (drop n d₀)
    (omega (arith, length-drop n d, length-drop n d₀))
    (λ i h. get_or-drop n d i 0 ∙ same (n + i) (omega arith) ∙ sym (get_or-drop n d₀ i 0))
