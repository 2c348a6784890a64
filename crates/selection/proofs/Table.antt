-- The table that finds the chosen plan: least loads, task by task, and the way back through it. What a plan may spend
-- is a state: `back t r s` is what is left of s once the task at t runs at rate number r, none where s does not allow
-- that. For document 01 a state is a rounded energy; a second budget is a state of two numbers.
-- Assumes nothing.
use Prim.Native.Nat.{ℕ, zero, suc, ◌+◌, ◌≤◌, ◌<◌, min}
use mathlib.Core.Path.{◌≡◌, refl, ap}
use mathlib.Core.Bool.{Bool, true, false, cond}
use mathlib.Core.Option.{Option, none, some}
use mathlib.Core.List.{List}
use mathlib.Core.Logic.{inl, inr, ⊎_elim}
use native.Mathlib.Nat.{eq-or-lt_of_le, le_of_suc-le-suc, lt_of_not-le}
use native.Mathlib.Omega.{arith}
use borrow.Author.Tests.{ltb-true, ltb-false}
use lib.Dec.{ltb}
use lib.ListN.{get_or}
use Rattle.numbers.specs.Numbers.{total}
use Rattle.numbers.proofs.Tests.{below_more}
use Rattle.selection.specs.Plan.{NotAfter}

-- ---- the least of g 0 to g (m - 1), at most C; and the first place that has it
unfoldable pub least_of : ℕ → (ℕ → ℕ) → ℕ → ℕ
least_of C g zero = C
least_of C g (suc m) = min (least_of C g m) (g m)

unfoldable pub first_of : ℕ → (ℕ → ℕ) → ℕ → ℕ
first_of C g zero = 0
first_of C g (suc m) = cond (ltb (g m) (least_of C g m)) m (first_of C g m)

pub least_of_cap : (C : ℕ) (g : ℕ → ℕ) (m : ℕ) → least_of C g m ≤ C
unfolding least_of
least_of_cap C g zero = omega arith
least_of_cap C g (suc m) = omega (arith, least_of_cap C g m)

least_of_le : (C : ℕ) (g : ℕ → ℕ) (m r : ℕ) → r < m → least_of C g m ≤ g r
unfolding least_of
least_of_le C g zero r l = omega arith
least_of_le C g (suc m) r l = below_more {P = λ r. least_of C g (suc m) ≤ g r} (λ r k. omega (arith, least_of_le C g m r k)) (omega arith) r l

pub record IsFirst (C : ℕ) (g : ℕ → ℕ) (m j : ℕ) : Type 0 where
  pub inside : j < m
  pub least : g j ≡ least_of C g m
  pub before : (r : ℕ) → r < j → least_of C g m < g r

-- No place before it is as small.
is_first_le : {C : ℕ} {g : ℕ → ℕ} {m j : ℕ} → IsFirst C g m j → (q : ℕ) → g q ≤ least_of C g m → j ≤ q
is_first_le {C} {g} {m} {j} f q h = le_of_suc-le-suc (lt_of_not-le (λ (x : q < j). omega (arith, f.before q x)))

pub first_of_is : (C : ℕ) (g : ℕ → ℕ) (m : ℕ) → least_of C g m < C → IsFirst C g m (first_of C g m)
unfolding least_of first_of
first_of_is C g zero h = omega arith
first_of_is C g (suc m) h = go (ltb (g m) (least_of C g m)) refl (first_of_is C g m)
  where
    go : (b : Bool) → ltb (g m) (least_of C g m) ≡ b → (least_of C g m < C → IsFirst C g m (first_of C g m)) → IsFirst C g (suc m) (cond b m (first_of C g m))
    go true e ih = record {
      inside = omega arith;
      least = omega (arith, ltb-true (g m) (least_of C g m) e);
      before = λ r l. omega (arith, ltb-true (g m) (least_of C g m) e, least_of_le C g m r l);
    }
    go false e ih =
        let f : IsFirst C g m (first_of C g m) = ih (omega (arith, ltb-false (g m) (least_of C g m) e)) in
        record {
          inside = omega (arith, f.inside);
          least = omega (arith, ltb-false (g m) (least_of C g m) e, f.least);
          before = λ r l. omega (arith, f.before r l);
        }

-- ---- the table
-- What a rate gives whose load is w and which leaves o of the state: C where it is not allowed, and at most C.
unfoldable pub via : {S : Type 0} → ℕ → (S → ℕ) → ℕ → Option S → ℕ
via C prev w none = C
via C prev w (some s) = min C (prev s + w)

-- The first i tasks of plan Q spend at most s, each at a rate number of at most M.
unfoldable pub Uses : (S : Type 0) (back : ℕ → ℕ → S → Option S) → ℕ → ℕ → S → List ℕ → Type 0
Uses S back M zero s Q = Unit {0}
Uses S back M (suc i) s Q = (get_or Q i 0 ≤ M) × ((s' : S) × (back i (get_or Q i 0) s ≡ some s') × Uses S back M i s' Q)

module _ (S : Type 0) (back : ℕ → ℕ → S → Option S) (load : ℕ → ℕ → ℕ) (M C : ℕ) where
  -- The least load of a plan of the first i tasks that spends at most s; C where that is C or more, or there is none.
  unfoldable pub best : ℕ → S → ℕ
  best zero s = 0
  best (suc i) s = least_of C (λ r. via C (best i) (load i r) (back i r s)) (suc M)

  -- P is what going back through the table from s gives: for the last task the lowest rate number with the least load,
  -- and so on.
  unfoldable pub Follows : ℕ → S → List ℕ → Type 0
  Follows zero s P = Unit {0}
  Follows (suc i) s P =
      (get_or P i 0 ≡ first_of C (λ r. via C (best i) (load i r) (back i r s)) (suc M))
      × ((s' : S) → back i (get_or P i 0) s ≡ some s' → Follows i s' P)

  pub best_cap : (i : ℕ) (s : S) → best i s ≤ C
  unfolding best
  best_cap zero s = omega arith
  best_cap (suc i) s = least_of_cap C _ (suc M)

  -- No plan that spends at most s has a smaller load.
  pub best_le : (i : ℕ) (s : S) (Q : List ℕ) → Uses S back M i s Q → best i s ≤ total load i Q
  unfolding best Uses total via
  best_le zero s Q u = omega arith
  best_le (suc i) s Q u =
      let r : ℕ = get_or Q i 0 in
      let s' : S = u.1.0 in
      let here : via C (best i) (load i r) (back i r s) ≡ min C (best i s' + load i r) = rw u.1.1 refl in
      omega (arith, here, best_le i s' Q u.1.2, least_of_le C (λ r. via C (best i) (load i r) (back i r s)) (suc M) r (omega (arith, u.0)))

  pub record Traced (i : ℕ) (s : S) (P : List ℕ) : Type 0 where
    pub uses : Uses S back M i s P
    pub load_best : total load i P ≡ best i s
    pub lowest : (Q : List ℕ) → Uses S back M i s Q → total load i Q ≡ best i s → NotAfter i P Q

  -- Going back from s gives a plan that spends at most s, has the least load, and comes first among those that do.
  pub traced : (i : ℕ) (s : S) (P : List ℕ) → best i s < C → Follows i s P → Traced i s P
  unfolding best Uses Follows total via
  traced zero s P h f = record { uses = tt; load_best = refl; lowest = λ Q u w. tt }
  traced (suc i) s P h f = go (back i (get_or P i 0) s) refl (λ s'. traced i s' P)
    where
      g : ℕ → ℕ
      g r = via C (best i) (load i r) (back i r s)

      at : IsFirst C g (suc M) (get_or P i 0)
      at = rw f.0 (first_of_is C g (suc M) h)

      after : (s' : S) → back i (get_or P i 0) s ≡ some s' → Traced i s' P → best i s' + load i (get_or P i 0) ≡ best (suc i) s
          → (Q : List ℕ) → (u : Uses S back M (suc i) s Q) → total load (suc i) Q ≡ best (suc i) s → best i u.1.0 ≤ total load i Q → NotAfter (suc i) P Q
      after s' e t sum Q u q l =
          let k : g (get_or Q i 0) ≡ min C (best i u.1.0 + load i (get_or Q i 0)) = rw u.1.1 refl in
          ⊎_elim
          (λ (x : get_or P i 0 ≡ get_or Q i 0).
          let y : u.1.0 ≡ s' = cc (ap (λ z. back i z s) x) in
          let z : load i (get_or P i 0) ≡ load i (get_or Q i 0) = ap (load i) x in
          inr (x, t.lowest Q (rw y at u.1.2) (omega arith)))
          (λ (x : get_or P i 0 < get_or Q i 0). inl x)
          (eq-or-lt_of_le (is_first_le at (get_or Q i 0) (omega arith)))

      go : (o : Option S) → back i (get_or P i 0) s ≡ o → ((s' : S) → best i s' < C → Follows i s' P → Traced i s' P) → Traced (suc i) s P
      go none e ih =
          let w : g (get_or P i 0) ≡ C = rw e refl in
          absurd (omega (arith, at.least))
      go (some s') e ih =
          let w : g (get_or P i 0) ≡ min C (best i s' + load i (get_or P i 0)) = rw e refl in
          let sum : best i s' + load i (get_or P i 0) ≡ best (suc i) s = omega (arith, at.least) in
          let t : Traced i s' P = ih s' (omega arith) (f.1 s' e) in
          record {
            uses = (omega (arith, at.inside), (s', e, t.uses));
            load_best = omega (arith, t.load_best);
            lowest = λ Q u q. after s' e t sum Q u q (best_le i u.1.0 Q u.1.2);
          }
