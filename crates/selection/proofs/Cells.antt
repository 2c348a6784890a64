-- The table's laws in the steps that code takes: a row from the row before it, rate by rate; and the way back, task by
-- task. Over any costs and loads, by the task's place and the rate number; M is the highest rate number, and C stands
-- for 'none'.
-- Assumes nothing.
use Prim.Native.Nat.{ℕ, zero, suc, ◌+◌, ◌-◌, ◌≤◌, ◌<◌, min}
use mathlib.Core.Path.{◌≡◌, refl}
use mathlib.Core.Option.{Option, none, some}
use mathlib.Core.List.{List}
use native.Mathlib.Nat.{le_of_suc-le-suc, lt_of_not-le}
use native.Mathlib.Numerals.{add-one}
use native.Mathlib.Omega.{arith}
use borrow.Author.Tests.{lt-leb}
use lib.ListN.{get_or}
use Rattle.selection.specs.Plan.{Problem, rounded_task}
use Rattle.selection.proofs.Table.{least_of, least_of_cap, first_of, first_of_is, IsFirst, via, best, best_cap, Follows}
use Rattle.selection.proofs.Choose.{spend, spend_some, spend_back, cell, WayBack}

module _ (cost load : ℕ → ℕ → ℕ) (M C : ℕ) where
  -- The table's entry in row i, column e.
  unfoldable pub entry : ℕ → ℕ → ℕ
  entry i e = best ℕ (spend cost) load M C i e

  -- What rate number r gives for row i + 1, column e.
  unfoldable pub offer : ℕ → ℕ → ℕ → ℕ
  offer i e r = via C (entry i) (load i r) (spend cost i r e)

  -- The least over rate numbers below r, and the lowest rate number that has it.
  unfoldable pub least_to : ℕ → ℕ → ℕ → ℕ
  least_to i e r = least_of C (offer i e) r

  unfoldable pub rate_up_to : ℕ → ℕ → ℕ → ℕ
  rate_up_to i e r = first_of C (offer i e) r

  -- ---- rows
  pub entry_first : (e : ℕ) → entry 0 e ≡ 0
  unfolding entry best
  entry_first e = refl

  pub entry_row : (i e : ℕ) → entry (i + 1) e ≡ least_to i e (M + 1)
  unfolding entry least_to offer best
  entry_row i e = rw (add-one i, add-one M) refl

  pub entry_cap : (i e : ℕ) → entry i e ≤ C
  unfolding entry
  entry_cap i e = best_cap ℕ (spend cost) load M C i e

  -- There is no rate number below 1.
  pub least_none : (i e : ℕ) → least_to i e 1 ≡ C
  unfolding least_to offer least_of via spend
  least_none i e = omega arith

  -- A rate that the column does not allow changes nothing.
  pub least_skip : (i e r : ℕ) → e < cost i r → least_to i e (r + 1) ≡ least_to i e r
  unfolding least_to offer least_of via spend
  least_skip i e zero l = omega (arith, least_of_cap C (offer i e) 0)
  least_skip i e (suc r) l =
      let o : offer i e (suc r) ≡ C = rw (lt-leb (cost i (suc r)) e l) refl in
      rw (add-one (suc r)) (omega (arith, least_of_cap C (offer i e) (suc r)))

  pub least_step : (i e r : ℕ) → 1 ≤ r → cost i r ≤ e → least_to i e (r + 1) ≡ min (least_to i e r) (entry i (e - cost i r) + load i r)
  unfolding least_to offer least_of via
  least_step i e r l h =
      let o : offer i e r ≡ min C (entry i (e - cost i r) + load i r) = rw (spend_some cost i r e l h) refl in
      rw (add-one r) (omega (arith, least_of_cap C (offer i e) r))

  -- ---- the way back
  -- Task i runs at the lowest rate number with the least load, and the rest goes back from what that leaves.
  unfoldable pub Way : ℕ → ℕ → List ℕ → Type 0
  Way i e P = Follows ℕ (spend cost) load M C i e P

  pub way_step : (i e : ℕ) (P : List ℕ) → get_or P i 0 ≡ rate_up_to i e (M + 1) → Way i (e - cost i (get_or P i 0)) P → Way (i + 1) e P
  unfolding Way rate_up_to offer entry Follows
  way_step i e P h w = rw (add-one i) (
    rw (← add-one M) h,
    λ e' q.
        let r = spend_back cost i (get_or P i 0) e e' q in
        let s : e - cost i (get_or P i 0) ≡ e' = omega (arith, r.1) in
        rw (← s) w,
  )

  pub way_end : (e : ℕ) (P : List ℕ) → Way 0 e P
  unfolding Way Follows
  way_end e P = tt

  -- Where an entry is below C, the rate there is 1 to M, its cost is allowed, and the entry comes from the one that it
  -- leaves.
  pub record Sound (i e r : ℕ) : Type 0 where
    pub above : 1 ≤ r
    pub below : r ≤ M
    pub allowed : cost i r ≤ e
    pub sum : entry i (e - cost i r) + load i r ≡ entry (i + 1) e

  pub rate_sound : (i e : ℕ) → entry (i + 1) e < C → Sound i e (rate_up_to i e (M + 1))
  unfolding least_to rate_up_to offer via
  rate_sound i e h = go (spend cost i (rate_up_to i e (M + 1)) e) refl
    where
      at : IsFirst C (offer i e) (M + 1) (rate_up_to i e (M + 1))
      at = first_of_is C (offer i e) (M + 1) (rw (← entry_row i e) h)

      go : (o : Option ℕ) → spend cost i (rate_up_to i e (M + 1)) e ≡ o → Sound i e (rate_up_to i e (M + 1))
      go none q =
          let w : offer i e (rate_up_to i e (M + 1)) ≡ C = rw q refl in
          absurd (omega (arith, at.least, entry_row i e))
      go (some e') q =
          let r = spend_back cost i (rate_up_to i e (M + 1)) e e' q in
          let s : e - cost i (rate_up_to i e (M + 1)) ≡ e' = omega (arith, r.1) in
          let w : offer i e (rate_up_to i e (M + 1)) ≡ min C (entry i e' + load i (rate_up_to i e (M + 1))) = rw q refl in
          record {
            above = r.0;
            below = omega (arith, at.inside);
            allowed = omega (arith, r.1);
            sum = rw s (omega (arith, at.least, entry_row i e));
          }

  -- A rate that makes the entry is not below the lowest one.
  pub rate_lowest : (i e r : ℕ) → entry (i + 1) e < C → 1 ≤ r → r ≤ M → cost i r ≤ e → entry i (e - cost i r) + load i r ≡ entry (i + 1) e → rate_up_to i e (M + 1) ≤ r
  unfolding least_to rate_up_to offer via
  rate_lowest i e r h a b l s =
      let at : IsFirst C (offer i e) (M + 1) (rate_up_to i e (M + 1)) = first_of_is C (offer i e) (M + 1) (rw (← entry_row i e) h) in
      let o : offer i e r ≡ min C (entry i (e - cost i r) + load i r) = rw (spend_some cost i r e a l) refl in
      le_of_suc-le-suc (lt_of_not-le (λ (x : r < rate_up_to i e (M + 1)). omega (arith, at.before r x, entry_row i e)))

-- A problem's table at a unit.
pub cell-entry : (p : Problem) (d i e : ℕ) → cell p d i e ≡ entry (rounded_task p d) p.load p.rates (suc p.limit) i e
unfolding cell entry
cell-entry p d i e = refl

pub way_back_way : (p : Problem) (d i e : ℕ) (P : List ℕ) → Way (rounded_task p d) p.load p.rates (suc p.limit) i e P → WayBack p d i e P
unfolding WayBack Way
way_back_way p d i e P w = w
