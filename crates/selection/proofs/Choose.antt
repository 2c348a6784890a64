-- The way back through the table is document 01's choice: over any state, and over rounded energies.
-- Assumes nothing.
use Prim.Native.Nat.{ℕ, zero, suc, ◌+◌, ◌-◌, ◌≤◌, ◌<◌}
use mathlib.Core.Path.{◌≡◌, refl, ◌∙◌}
use mathlib.Core.Bool.{Bool, true, false, cond}
use mathlib.Core.Option.{Option, none, some}
use mathlib.Core.List.{List}
use native.Mathlib.Nat.{le_of_suc-le-suc, lt_of_not-le}
use native.Mathlib.Omega.{arith}
use borrow.Author.Tests.{leb-true, le-leb}
use lib.Dec.{leb}
use lib.ListN.{length, get_or}
use Rattle.numbers.specs.Numbers.{total}
use Rattle.numbers.proofs.Tests.{below_more}
use Rattle.selection.specs.Plan.{Problem, Fitting, plan_load, rounded_task, rounded, IsChosenOf}
use Rattle.selection.proofs.Table.{best, best_le, Uses, Follows, Traced, traced}

-- ---- over any state: an Ok plan with a rounded energy of at most e is one that spends at most `at e` within the limit
pub record Covers (Ok : List ℕ → Type 0) (p : Problem) (d : ℕ) (S : Type 0) (back : ℕ → ℕ → S → Option S) (at : ℕ → S) : Type 0 where
  pub uses : (Q : List ℕ) (e : ℕ) → Ok Q → rounded p d Q ≤ e → Uses S back p.rates p.count (at e) Q
  pub within : (Q : List ℕ) → Ok Q → plan_load p Q ≤ p.limit
  pub sound : (e : ℕ) (Q : List ℕ) → length Q ≡ p.count → Uses S back p.rates p.count (at e) Q → plan_load p Q ≤ p.limit → Ok Q
  pub at_most : (e : ℕ) (Q : List ℕ) → Uses S back p.rates p.count (at e) Q → rounded p d Q ≤ e

module _ {Ok : List ℕ → Type 0} {p : Problem} {d : ℕ} {S : Type 0} {back : ℕ → ℕ → S → Option S} {at : ℕ → S} (cov : Covers Ok p d S back at) where
  -- The least load of a plan of the first i tasks that spends at most s; the limit plus 1 where that is over the limit.
  abbrev pub cell_of : ℕ → S → ℕ
  cell_of i s = best S back p.load p.rates (suc p.limit) i s

  pub cell_of_le : (Q : List ℕ) → Ok Q → cell_of p.count (at (rounded p d Q)) ≤ plan_load p Q
  cell_of_le Q f = best_le S back p.load p.rates (suc p.limit) p.count (at (rounded p d Q)) Q (cov.uses Q (rounded p d Q) f (omega arith))

  -- The first e at which the last row is within the limit is k(d), and the way back from there is the chosen plan.
  pub table_chosen : (k : ℕ) (P : List ℕ) → cell_of p.count (at k) ≤ p.limit → ((e : ℕ) → e < k → p.limit < cell_of p.count (at e))
      → length P ≡ p.count → Follows S back p.load p.rates (suc p.limit) p.count (at k) P → IsChosenOf Ok p d P × (rounded p d P ≡ k)
  table_chosen k P fit over size way =
      let t : Traced S back p.load p.rates (suc p.limit) p.count (at k) P
      = traced S back p.load p.rates (suc p.limit) p.count (at k) P (omega arith) way in
      let fine : Ok P = cov.sound k P size t.uses (omega (arith, t.load_best)) in
      let r : rounded p d P ≡ k = omega (arith, cov.at_most k P t.uses, not_below P fine) in (
        record {
          ok = fine;
          least_energy = λ Q f. rw r (not_below Q f);
          least_load = λ Q f e. omega (arith, rw (e ∙ r) at (cell_of_le Q f), t.load_best);
          lowest = λ Q f e w. t.lowest Q (cov.uses Q k f (omega (arith, e, r))) (omega (arith, w, t.load_best, rw (e ∙ r) at (cell_of_le Q f)));
        },
        r,
      )
    where
      not_below : (Q : List ℕ) → Ok Q → k ≤ rounded p d Q
      not_below Q f = le_of_suc-le-suc (lt_of_not-le (λ (x : rounded p d Q < k). omega (arith, over (rounded p d Q) x, cell_of_le Q f, cov.within Q f)))

-- ---- over rounded energies
-- What is left of the rounded energy e once task t runs at rate number r, where each costs what `cost` says; there is
-- no rate 0.
unfoldable pub spend : (ℕ → ℕ → ℕ) → ℕ → ℕ → ℕ → Option ℕ
spend cost t zero e = none
spend cost t (suc r) e = cond (leb (cost t (suc r)) e) (some (e - cost t (suc r))) none

pub spend_some : (cost : ℕ → ℕ → ℕ) (t r e : ℕ) → 1 ≤ r → cost t r ≤ e → spend cost t r e ≡ some (e - cost t r)
unfolding spend
spend_some cost t zero e l h = absurd (omega arith)
spend_some cost t (suc r) e l h = rw (le-leb (cost t (suc r)) e h) refl

pub spend_back : (cost : ℕ → ℕ → ℕ) (t r e e' : ℕ) → spend cost t r e ≡ some e' → (1 ≤ r) × (e ≡ e' + cost t r)
unfolding spend
spend_back cost t zero e e' h = let z : ◌≡◌ {A = ℕ} 0 1 = cc in absurd (omega arith)
spend_back cost t (suc r) e e' h = go (leb (cost t (suc r)) e) refl h
  where
    go : (b : Bool) → leb (cost t (suc r)) e ≡ b → cond b (some (e - cost t (suc r))) none ≡ some e' → (1 ≤ suc r) × (e ≡ e' + cost t (suc r))
    go true q h = let z : e - cost t (suc r) ≡ e' = cc in omega (arith, leb-true (cost t (suc r)) e q)
    go false q h = let z : ◌≡◌ {A = ℕ} 0 1 = cc in absurd (omega arith)

module _ (cost : ℕ → ℕ → ℕ) (M : ℕ) where
  abbrev Spends : ℕ → ℕ → List ℕ → Type 0
  Spends i e Q = Uses ℕ (spend cost) M i e Q

  spends_of : (i e : ℕ) (Q : List ℕ) → ((t : ℕ) → t < i → 1 ≤ get_or Q t 0) → ((t : ℕ) → t < i → get_or Q t 0 ≤ M) → total cost i Q ≤ e → Spends i e Q
  unfolding Uses total
  spends_of zero e Q a b h = tt
  spends_of (suc i) e Q a b h =
      let r : ℕ = get_or Q i 0 in (
        b i (omega arith),
        (
          e - cost i r,
          spend_some cost i r e (a i (omega arith)) (omega arith),
          spends_of i (e - cost i r) Q (λ t l. a t (omega arith)) (λ t l. b t (omega arith)) (omega arith),
        ),
      )

  record Spent (i e : ℕ) (Q : List ℕ) : Type 0 where
    above : (t : ℕ) → t < i → 1 ≤ get_or Q t 0
    below : (t : ℕ) → t < i → get_or Q t 0 ≤ M
    cost_within : total cost i Q ≤ e

  of_spends : (i e : ℕ) (Q : List ℕ) → Spends i e Q → Spent i e Q
  unfolding Uses total
  of_spends zero e Q u = record { above = λ t l. absurd (omega arith); below = λ t l. absurd (omega arith); cost_within = omega arith }
  of_spends (suc i) e Q u =
      let r : (1 ≤ get_or Q i 0) × (e ≡ u.1.0 + cost i (get_or Q i 0)) = spend_back cost i (get_or Q i 0) e u.1.0 u.1.1 in
      let w : Spent i u.1.0 Q = of_spends i u.1.0 Q u.1.2 in
      record {
        above = below_more {P = λ t. 1 ≤ get_or Q t 0} w.above r.0;
        below = below_more {P = λ t. get_or Q t 0 ≤ M} w.below u.0;
        cost_within = omega (arith, w.cost_within, r.1);
      }

-- ---- document 01's choice
module _ (p : Problem) (d : ℕ) where
  covers : Covers (Fitting p) p d ℕ (spend (rounded_task p d)) (λ e. e)
  covers = record {
    uses = λ Q e f l. spends_of (rounded_task p d) p.rates p.count e Q f.plan.above f.plan.below l;
    within = λ Q f. omega (arith, f.fits);
    sound = λ e Q size u w.
        let o = of_spends (rounded_task p d) p.rates p.count e Q u in
        record { plan = record { size = size; above = o.above; below = o.below }; fits = w };
    at_most = λ e Q u. (of_spends (rounded_task p d) p.rates p.count e Q u).cost_within;
  }

  -- The table's word in row i, column e.
  unfoldable pub cell : ℕ → ℕ → ℕ
  cell i e = best ℕ (spend (rounded_task p d)) p.load p.rates (suc p.limit) i e

  unfoldable pub WayBack : ℕ → ℕ → List ℕ → Type 0
  WayBack i e P = Follows ℕ (spend (rounded_task p d)) p.load p.rates (suc p.limit) i e P

  pub way_back_chosen : (k : ℕ) (P : List ℕ) → cell p.count k ≤ p.limit → ((e : ℕ) → e < k → p.limit < cell p.count e)
      → length P ≡ p.count → WayBack p.count k P → IsChosenOf (Fitting p) p d P × (rounded p d P ≡ k)
  unfolding cell WayBack
  way_back_chosen = table_chosen covers

  pub cell_le : (Q : List ℕ) → Fitting p Q → cell p.count (rounded p d Q) ≤ plan_load p Q
  unfolding cell
  cell_le = cell_of_le covers
