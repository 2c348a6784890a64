-- The table depends only on the costs and loads of its own tasks at rate numbers 1 to M, and on loads only up to C: so
-- a table over arrays with loads cut at C is the problem's own.
-- Assumes nothing.
use Prim.Native.Nat.{ℕ, zero, suc, ◌+◌, ◌-◌, ◌≤◌, ◌<◌, min}
use mathlib.Core.Path.{◌≡◌, refl, sym, ap, ap₂, ◌∙◌}
use mathlib.Core.Bool.{Bool, true, false, cond}
use mathlib.Core.Option.{none, some}
use mathlib.Core.List.{List}
use native.Mathlib.Omega.{arith}
use lib.Dec.{leb, ltb}
use lib.ListN.{get_or}
use Rattle.selection.proofs.Table.{least_of, first_of, via, best, Follows}
use Rattle.selection.proofs.Choose.{spend}
use Rattle.selection.proofs.Cells.{entry, Way}

least_of_same : (C : ℕ) (g h : ℕ → ℕ) (m : ℕ) → ((r : ℕ) → r < m → g r ≡ h r) → least_of C g m ≡ least_of C h m
unfolding least_of
least_of_same C g h zero e = refl
least_of_same C g h (suc m) e = ap₂ min (least_of_same C g h m (λ r l. e r (omega arith))) (e m (omega arith))

first_of_same : (C : ℕ) (g h : ℕ → ℕ) (m : ℕ) → ((r : ℕ) → r < m → g r ≡ h r) → first_of C g m ≡ first_of C h m
unfolding first_of
first_of_same C g h zero e = refl
first_of_same C g h (suc m) e =
    ap₂ (λ (b : Bool) (x : ℕ). cond b m x)
    (ap₂ ltb (e m (omega arith)) (least_of_same C g h m (λ r l. e r (omega arith))))
    (first_of_same C g h m (λ r l. e r (omega arith)))

first_of_below : (C : ℕ) (g : ℕ → ℕ) (m : ℕ) → first_of C g m ≤ m - 1
unfolding first_of
first_of_below C g zero = omega arith
first_of_below C g (suc m) = go (ltb (g m) (least_of C g m)) (first_of_below C g m)
  where
    go : (b : Bool) → first_of C g m ≤ m - 1 → cond b m (first_of C g m) ≤ suc m - 1
    go true h = omega arith
    go false h = omega arith

module _ (cost load cost' load' : ℕ → ℕ → ℕ) (M C n : ℕ)
    (costs : (t r : ℕ) → t < n → 1 ≤ r → r ≤ M → cost t r ≡ cost' t r)
    (loads : (t r : ℕ) → t < n → 1 ≤ r → r ≤ M → min C (load t r) ≡ min C (load' t r)) where
  spend_agrees : (t r e : ℕ) → t < n → r ≤ M → spend cost t r e ≡ spend cost' t r e
  unfolding spend
  spend_agrees t zero e l h = refl
  spend_agrees t (suc r) e l h = rw (costs t (suc r) l (omega arith) h) refl

  -- what a rate gives, where the rows before agree
  offer_agrees : (t r e : ℕ) (f g : ℕ → ℕ) → t < n → r ≤ M → ((x : ℕ) → f x ≡ g x)
      → via C f (load t r) (spend cost t r e) ≡ via C g (load' t r) (spend cost' t r e)
  unfolding spend via
  offer_agrees t zero e f g l h s = refl
  offer_agrees t (suc r) e f g l h s = rw (costs t (suc r) l (omega arith) h) (go (leb (cost' t (suc r)) e))
    where
      sums : (x : ℕ) → min C (f x + load t (suc r)) ≡ min C (g x + load' t (suc r))
      sums x = omega (arith, s x, loads t (suc r) l (omega arith) h)

      go : (b : Bool) → via C f (load t (suc r)) (cond b (some (e - cost' t (suc r))) none) ≡ via C g (load' t (suc r)) (cond b (some (e - cost' t (suc r))) none)
      go true = sums (e - cost' t (suc r))
      go false = refl

  pub entry_agrees : (i e : ℕ) → i ≤ n → entry cost load M C i e ≡ entry cost' load' M C i e
  unfolding entry best
  entry_agrees zero e h = refl
  entry_agrees (suc i) e h =
      least_of_same C _ _ (suc M) (λ r l. offer_agrees i r e (entry cost load M C i) (entry cost' load' M C i) (omega arith) (omega arith) (λ x. entry_agrees i x (omega arith)))

  pub way_agrees : (i e : ℕ) (P : List ℕ) → i ≤ n → Way cost load M C i e P → Way cost' load' M C i e P
  unfolding Way Follows entry
  way_agrees zero e P h w = tt
  way_agrees (suc i) e P h w =
      let low : get_or P i 0 ≤ M = omega (arith, w.0, first_of_below C (λ r. via C (entry cost load M C i) (load i r) (spend cost i r e)) (suc M)) in (
        w.0 ∙
            first_of_same C _ _ (suc M)
            (λ r l. offer_agrees i r e (entry cost load M C i) (entry cost' load' M C i) (omega arith) (omega arith) (λ x. entry_agrees i x (omega arith))),
        λ e' q. way_agrees i e' P (omega arith) (w.1 e' (spend_agrees i (get_or P i 0) e (omega arith) low ∙ q)),
      )

-- The way back through i tasks is known by the first i rate numbers.
pub way_places : (cost load : ℕ → ℕ → ℕ) (M C i e : ℕ) (P Q : List ℕ) → ((t : ℕ) → t < i → get_or P t 0 ≡ get_or Q t 0) → Way cost load M C i e P → Way cost load M C i e Q
unfolding Way Follows
way_places cost load M C zero e P Q s w = tt
way_places cost load M C (suc i) e P Q s w = (
  sym (s i (omega arith)) ∙ w.0,
  λ e' q. way_places cost load M C i e' P Q (λ t l. s t (omega arith)) (w.1 e' (ap (λ (r : ℕ). spend cost i r e) (s i (omega arith)) ∙ q)),
)
