-- The search for the lowest rate number that makes an entry.
-- Assumes nothing.
use Prim.Native.Nat.{ℕ, ◌+◌, ◌-◌, ◌^◌, ◌≤◌, ◌<◌}
use mathlib.Core.Path.{◌≡◌, sym, ap, ◌∙◌}
use mathlib.Core.List.{List}
use mathlib.Core.Logic.{⊎_elim}
use native.Mathlib.Nat.{eq-or-lt_of_le}
use native.Mathlib.Omega.{arith}
use lib.ListN.{get_or}
use Rattle.selection.proofs.Cells.{entry_cap, Sound, rate_sound, rate_lowest}
use Rattle.engine.specs.Arrays.{option_at}
use Rattle.table.specs.declared.Frame.{Frame}
use Rattle.table.specs.Rows.{entry_of, Framed, rate_of, RateReady}

module _ {f : Frame} {start e i : ℕ} {cost load d : List ℕ} (framed : Framed f load) (g : RateReady f start e i cost load d) where
  sound : Sound (option_at cost) (option_at load) f.rates f.cap i e (rate_of f cost load i e)
  sound = rate_sound (option_at cost) (option_at load) f.rates f.cap i e g.some

  pub rate_from : 1 ≤ rate_of f cost load i e
  rate_from = sound.above

  pub rate_to : rate_of f cost load i e ≤ f.rates
  rate_to = sound.below

  prev : (j : ℕ) → j ≤ e → get_or d (start + j) 0 ≡ entry_of f cost load i j
  prev j l = g.prev j (omega (arith, g.place))

  pub sum_fits : (j k : ℕ) → j ≤ e → get_or d (start + j) 0 + get_or load k 0 < 2 ^ 32
  sum_fits j k l =
      omega (arith, framed.small, framed.loads k, prev j l, entry_cap (option_at cost) (option_at load) f.rates f.cap i j)

  -- The entry, as it was read.
  module _ {v : ℕ} (is : v ≡ get_or d (start + f.columns + e) 0) where
    makes : v ≡ entry_of f cost load (i + 1) e
    makes = is ∙ g.next e g.place

    -- A rate that does not make the entry is not the one.
    pub rate_pass : (r : ℕ) → r ≤ rate_of f cost load i e
        → (option_at cost i r ≤ e → get_or d (start + (e - option_at cost i r)) 0 + option_at load i r ≡ v → ⊥)
        → r + 1 ≤ rate_of f cost load i e
    rate_pass r l unmade =
        ⊎_elim
        (λ (q : r ≡ rate_of f cost load i e).
        let s : Sound (option_at cost) (option_at load) f.rates f.cap i e r = rw q sound in
        absurd
        (unmade s.allowed (ap (λ (x : ℕ). x + option_at load i r) (prev (e - option_at cost i r) (omega arith)) ∙ s.sum ∙ sym makes)))
        (λ (q : r < rate_of f cost load i e). omega arith)
        (eq-or-lt_of_le l)

    -- One that does is.
    pub rate_hit : (r : ℕ) → 1 ≤ r → r ≤ f.rates → r ≤ rate_of f cost load i e → option_at cost i r ≤ e
        → get_or d (start + (e - option_at cost i r)) 0 + option_at load i r ≡ v → r ≡ rate_of f cost load i e
    rate_hit r from to l h q =
        let made : entry_of f cost load i (e - option_at cost i r) + option_at load i r ≡ entry_of f cost load (i + 1) e =
        ap (λ (x : ℕ). x + option_at load i r) (sym (prev (e - option_at cost i r) (omega arith))) ∙ q ∙ makes in
        let u = rate_lowest (option_at cost) (option_at load) f.rates f.cap i e r g.some from to h made in
        omega arith
