-- The selection as functions that compute, and that they meet the definitions: so a plan is selected exactly where one
-- fits.
-- Assumes nothing.
use Prim.Native.Nat.{ℕ, zero, suc, ◌+◌, ◌*◌, ◌^◌, ◌≤◌, ◌<◌, min}
use mathlib.Core.Path.{◌≡◌, refl}
use mathlib.Core.Bool.{Bool, true, false, cond}
use mathlib.Core.Option.{Option, none, some}
use mathlib.Core.List.{List, [], ◌∷◌}
use mathlib.Core.Logic.{inl, inr, ⊎_elim, ◌↔◌}
use native.Mathlib.Nat.{zero-add, eq-or-lt_of_le, add-zero, add-suc, suc-add}
use native.Mathlib.Omega.{arith}
use borrow.Author.Tests.{leb-true, leb-false}
use lib.Dec.{leb}
use lib.ListN.{length, get_or}
use Rattle.numbers.specs.Numbers.{LeastPower}
use Rattle.numbers.proofs.Tests.{lt_or_le}
use Rattle.numbers.proofs.Search.{first, first_to, first_holds, first-before}
use Rattle.numbers.proofs.Powers.{exponent, exponent_is}
use Rattle.selection.specs.Plan.{Problem, plan_energy, rounded_task, rounded, Fitting, IsLeastOf, IsChosenOf, fastest, threshold, FallsShortOf, IsUsedOf, IsPlanned}
use Rattle.selection.proofs.Bounds.{chosen_least}
use Rattle.selection.proofs.Fastest.{Falling, some_fits_iff_fastest, fastest_fits}
use Rattle.selection.proofs.Table.{first_of, first_of_is, IsFirst, via, best, Follows}
use Rattle.selection.proofs.Choose.{spend, cell, cell_le, WayBack, way_back_chosen}

-- ---- the way back, as a list in front of acc
module _ (S : Type 0) (back : ℕ → ℕ → S → Option S) (load : ℕ → ℕ → ℕ) (M C : ℕ) where
  unfoldable pub trace : ℕ → S → List ℕ → List ℕ
  trace zero s acc = acc
  trace (suc i) s acc =
      let r : ℕ = first_of C (λ r. via C (best S back load M C i) (load i r) (back i r s)) (suc M) in
      elim (back i r s) [ none ↦ [] | some s' ↦ trace i s' (r ∷ acc) ]

  record IsTrace (i : ℕ) (s : S) (acc P : List ℕ) : Type 0 where
    size : length P ≡ i + length acc
    same : (j : ℕ) → get_or P (i + j) 0 ≡ get_or acc j 0
    follows : Follows S back load M C i s P

  trace_is : (i : ℕ) (s : S) (acc : List ℕ) → best S back load M C i s < C → IsTrace i s acc (trace i s acc)
  unfolding trace Follows best via
  trace_is zero s acc h = record { size = omega arith; same = λ j. rw zero-add refl; follows = tt }
  trace_is (suc i) s acc h = go (back i r s) refl (λ s'. trace_is i s' (r ∷ acc))
    where
      g : ℕ → ℕ
      g r = via C (best S back load M C i) (load i r) (back i r s)

      r : ℕ
      r = first_of C g (suc M)

      at : IsFirst C g (suc M) r
      at = first_of_is C g (suc M) h

      go : (o : Option S) → back i r s ≡ o → ((s' : S) → best S back load M C i s' < C → IsTrace i s' (r ∷ acc) (trace i s' (r ∷ acc)))
          → IsTrace (suc i) s acc (elim o [ none ↦ [] | some s' ↦ trace i s' (r ∷ acc) ])
      go none e ih =
          let w : g r ≡ C = rw e refl in
          absurd (omega (arith, at.least))
      go (some s') e ih =
          let w : g r ≡ min C (best S back load M C i s' + load i r) = rw e refl in
          let t : IsTrace i s' (r ∷ acc) (trace i s' (r ∷ acc)) = ih s' (omega (arith, at.least)) in
          let here : get_or (trace i s' (r ∷ acc)) i 0 ≡ r = rw add-zero at (t.same 0) in
          record {
            size = omega (arith, t.size);
            same = λ j. rw (suc-add, ← add-suc) (t.same (suc j));
            follows = (here, λ s'' q. let y : s'' ≡ s' = cc in rw y t.follows);
          }

-- The way back from the first column at which the last row is within the limit is the chosen plan, and that column is
-- k(d).
module _ (p : Problem) (d k : ℕ) (low : cell p d p.count k ≤ p.limit) (over : (e : ℕ) → e < k → p.limit < cell p d p.count e) where
  abbrev traced : List ℕ
  traced = trace ℕ (spend (rounded_task p d)) p.load p.rates (suc p.limit) p.count k []

  traced_chosen : IsChosenOf (Fitting p) p d traced × (rounded p d traced ≡ k)
  unfolding cell WayBack
  traced_chosen =
      let t = trace_is ℕ (spend (rounded_task p d)) p.load p.rates (suc p.limit) p.count k [] (omega arith) in
      way_back_chosen p d k traced low over (omega (arith, t.size)) t.follows

  pub column_least : IsLeastOf (Fitting p) p d k
  column_least = rw (← traced_chosen.1) (chosen_least (Fitting p) p d traced traced_chosen.0)

-- ---- document 01's selection
module _ (p : Problem) where
  -- The table's last row is within the limit at column e.
  abbrev is_defined : ℕ → ℕ → Bool
  is_defined d e = leb (cell p d p.count e) p.limit

  -- k(d): the first column at which it is.
  unfoldable pub least_energy_at : ℕ → ℕ
  least_energy_at d = first (is_defined d) 0 (rounded p d (fastest p))

  unfoldable pub choose : ℕ → List ℕ
  choose d = trace ℕ (spend (rounded_task p d)) p.load p.rates (suc p.limit) p.count (least_energy_at d) []

  -- The exponent of the unit used, looking from 2 ^ a down.
  unfoldable pub used_from : ℕ → ℕ → ℕ
  used_from G zero = zero
  used_from G (suc a) = let rest : ℕ = used_from G a in cond (leb (threshold p) (G * least_energy_at (2 ^ suc a))) (suc a) rest

  unfoldable pub used_exponent : ℕ → ℕ
  used_exponent G = used_from G (exponent (plan_energy p (fastest p)))

  module _ (fit : Fitting p (fastest p)) where
    least_defined : (d : ℕ) → cell p d p.count (least_energy_at d) ≤ p.limit
    unfolding least_energy_at
    least_defined d =
        ⊎_elim
        (λ (l : least_energy_at d < rounded p d (fastest p)). leb-true _ _ (first_holds (is_defined d) 0 (rounded p d (fastest p)) l))
        (λ (l : rounded p d (fastest p) ≤ least_energy_at d).
        let e : least_energy_at d ≡ rounded p d (fastest p) = omega (arith, first_to (is_defined d) 0 (rounded p d (fastest p)) (omega arith)) in
        rw e (omega (arith, cell_le p d (fastest p) fit, fit.fits)))
        (lt_or_le (least_energy_at d) (rounded p d (fastest p)))

    none_before : (d e : ℕ) → e < least_energy_at d → p.limit < cell p d p.count e
    unfolding least_energy_at
    none_before d e l = leb-false _ _ (first-before (is_defined d) 0 (rounded p d (fastest p)) e (omega arith) l)

    choose_is : (d : ℕ) → IsChosenOf (Fitting p) p d (choose d) × (rounded p d (choose d) ≡ least_energy_at d)
    unfolding choose
    choose_is d = traced_chosen p d (least_energy_at d) (least_defined d) (none_before d)

    least_is : (d : ℕ) → IsLeastOf (Fitting p) p d (least_energy_at d)
    least_is d = rw (← (choose_is d).1) (chosen_least (Fitting p) p d (choose d) (choose_is d).0)

    module _ (G : ℕ) where
      first_unit : LeastPower (plan_energy p (fastest p)) (exponent (plan_energy p (fastest p)))
      first_unit = exponent_is (plan_energy p (fastest p))

      used_from_lem : (a : ℕ) → a ≤ exponent (plan_energy p (fastest p))
          → ((b : ℕ) → a < b → b ≤ exponent (plan_energy p (fastest p)) → FallsShortOf (Fitting p) p G (2 ^ b)) → IsUsedOf (Fitting p) p G (used_from G a)
      unfolding used_from
      used_from_lem zero l h = record { first = exponent (plan_energy p (fastest p)); is_first = first_unit; tried = l; stops = inl refl; goes_on = λ b x y. h b (omega arith) (omega arith) }
      used_from_lem (suc a) l h = go (leb (threshold p) (G * least_energy_at (2 ^ suc a))) refl (used_from_lem a (omega arith))
        where
          go : (t : Bool) → leb (threshold p) (G * least_energy_at (2 ^ suc a)) ≡ t
              → (((b : ℕ) → a < b → b ≤ exponent (plan_energy p (fastest p)) → FallsShortOf (Fitting p) p G (2 ^ b)) → IsUsedOf (Fitting p) p G (used_from G a))
              → IsUsedOf (Fitting p) p G (cond t (suc a) (used_from G a))
          go true e ih =
              record {
                first = exponent (plan_energy p (fastest p));
                is_first = first_unit;
                tried = l;
                stops = inr (least_energy_at (2 ^ suc a), least_is (2 ^ suc a), leb-true _ _ e);
                goes_on = λ b x y. h b (omega arith) (omega arith);
              }
          go false e ih =
              ih (λ b x y.
              ⊎_elim
              (λ (q : suc a ≡ b). rw (← q) (least_energy_at (2 ^ suc a), least_is (2 ^ suc a), leb-false _ _ e))
              (λ (q : suc a < b). h b q y)
              (eq-or-lt_of_le x))

      pub planned_is : IsPlanned p G (used_exponent G) (choose (2 ^ used_exponent G))
      unfolding used_exponent
      planned_is = record {
        used = used_from_lem (exponent (plan_energy p (fastest p))) (omega arith) (λ b x y. absurd (omega arith));
        chosen = (choose_is (2 ^ used_exponent G)).0;
      }

-- Where some plan fits there is a unit and a plan selected, and only there.
pub planned_iff_fits : (p : Problem) → 1 ≤ p.rates → Falling p → (G : ℕ) → ((a : ℕ) × ((P : List ℕ) × IsPlanned p G a P)) ↔ ((P : List ℕ) × Fitting p P)
planned_iff_fits p some_rate falls G = (
  λ w. (w.1.0, w.1.1.chosen.ok),
  λ w. (used_exponent p G, (choose p (2 ^ used_exponent p G), planned_is p (fastest_fits p some_rate ((some_fits_iff_fastest p some_rate falls).0 w)) G)),
)
