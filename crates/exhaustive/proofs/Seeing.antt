-- The best of the plans looked at so far, a plan a turn; and the best of all is the plan chosen.
-- Assumes nothing.
use Prim.Native.Nat.{ℕ, ◌+◌, ◌^◌, ◌≤◌, ◌<◌}
use mathlib.Core.Path.{◌≡◌, sym, ap, ◌∙◌}
use mathlib.Core.List.{List}
use mathlib.Core.Logic.{◌⊎◌, inl, inr, ⊎_elim}
use native.Mathlib.Nat.{eq-or-lt_of_le}
use native.Mathlib.Omega.{arith}
use lib.ListN.{length, get_or, take, length-take}
use lib.Seq.{get_or-take}
use Rattle.std.proofs.Common.{rules}
use Rattle.std.specs.Prelude.{Option, Some, None, IsSome}
use Rattle.numbers.specs.Numbers.{total}
use Rattle.numbers.proofs.Sums.{total_same}
use Rattle.selection.specs.Plan.{Problem, IsPlan, plan_load, plan_energy, Fitting}
use Rattle.exhaustive.specs.declared.Sums.{Sums}
use Rattle.exhaustive.specs.declared.Best.{Best}
use Rattle.exhaustive.specs.Order.{rank}
use Rattle.exhaustive.specs.Engine.{Numbered, Behind, Ahead, Looked, Kept, Seen}
use Rattle.exhaustive.proofs.Order.{moves, rank_below, rank_same}

pub plan_numbered : {p : Problem} {P : List ℕ} → IsPlan p P → Numbered p.rates p.count P
plan_numbered g = record { above = g.above; below = g.below }

-- Before the first plan.
pub seen_none : (p : Problem) → Seen p 0 None
seen_none p Q f l = absurd (omega arith)

-- The next plan, of rank i, stands in the first numbers of P; s are its sums.
module _ (p : Problem) (i : ℕ) {s : Sums} (P : List ℕ) (long : p.count ≤ length P)
    (numbered : Numbered p.rates p.count P) (place : rank p.rates p.count P ≡ i)
    (load_is : s.load ≡ plan_load p P) (cost_is : s.cost ≡ plan_energy p P) where
  abbrev here : List ℕ
  here = take p.count P

  sums : (f : ℕ → ℕ → ℕ) → total f p.count here ≡ total f p.count P
  sums f = total_same f f p.count here P (λ t l. ap (f t) (get_or-take p.count P t 0 l))

  is_plan : IsPlan p here
  is_plan = record {
    size = omega (arith, length-take p.count P);
    above = λ t l. omega (arith, get_or-take p.count P t 0 l, numbered.above t l);
    below = λ t l. omega (arith, get_or-take p.count P t 0 l, numbered.below t l);
  }

  -- A plan of a rank up to i came before, or has the sums of this one.
  at : (Q : List ℕ) → Fitting p Q → rank p.rates p.count Q < i + 1
      → (rank p.rates p.count Q < i)
      ⊎ ((rank p.rates p.count Q ≡ i) × (plan_energy p Q ≡ s.cost) × (plan_load p Q ≡ s.load))
  at Q f l =
      ⊎_elim
      (λ (e : rank p.rates p.count Q ≡ i).
      let same : (t : ℕ) → t < p.count → get_or Q t 0 ≡ get_or P t 0
      = rank_same p.rates p.count Q P (plan_numbered f.plan) numbered (e ∙ sym place) in
      inr (
        e,
        total_same p.energy p.energy p.count Q P (λ t m. ap (p.energy t) (same t m)) ∙ sym cost_is,
        total_same p.load p.load p.count Q P (λ t m. ap (p.load t) (same t m)) ∙ sym load_is,
      ))
      (λ (m : rank p.rates p.count Q < i). inl m)
      (eq-or-lt_of_le (omega arith))

  stays : (kept : Option Best) → Seen p i kept → Behind p.limit s kept → Seen p (i + 1) kept
  stays None w behind = λ Q f l.
      ⊎_elim (λ m. w Q f m) (λ e. absurd (behind (omega (arith, f.fits)))) (at Q f l)
  stays (Some b) w behind = record {
    plan = w.plan;
    fit = w.fit;
    cost_is = w.cost_is;
    load_is = w.load_is;
    rank_is = w.rank_is;
    before = omega (arith, w.before);
    least_cost = λ Q f l.
        ⊎_elim
        (λ m. w.least_cost Q f m)
        (λ e. omega (arith, behind (omega (arith, f.fits))))
        (at Q f l);
    least_load = λ Q f l x.
        ⊎_elim
        (λ m. w.least_load Q f m x)
        (λ e. omega (arith, (behind (omega (arith, f.fits))).1 (omega arith)))
        (at Q f l);
    first = λ Q f l x y. ⊎_elim (λ m. w.first Q f m x y) (λ e. omega (arith, w.before)) (at Q f l);
  }

  -- It goes before every plan looked at that fits.
  leads : (kept : Option Best) → Seen p i kept → Ahead p.limit s kept → (Q : List ℕ) → Fitting p Q
      → rank p.rates p.count Q < i → (s.cost ≤ plan_energy p Q) × (plan_energy p Q ≡ s.cost → s.load < plan_load p Q)
  leads None w ahead Q f m = absurd (w Q f m)
  leads (Some b) w ahead Q f m = (
    omega (arith, w.least_cost Q f m, ahead.before.0),
    λ e. let c : s.cost ≡ b.sums.cost = omega (arith, w.least_cost Q f m, ahead.before.0) in
        omega (arith, w.least_load Q f m (omega arith), ahead.before.1 c),
  )

  taken : (kept : Option Best) → Seen p i kept → Ahead p.limit s kept → Kept p (i + 1) (record { sums = s; rank = i })
  taken kept w ahead = let all = leads kept w ahead in record {
    plan = here;
    fit = record { plan = is_plan; fits = omega (arith, sums p.load, ahead.fits) };
    cost_is = sums p.energy ∙ sym cost_is;
    load_is = sums p.load ∙ sym load_is;
    rank_is = sums (moves p.rates) ∙ place;
    before = omega arith;
    least_cost = λ Q f l. ⊎_elim (λ m. (all Q f m).0) (λ e. omega arith) (at Q f l);
    least_load = λ Q f l x. ⊎_elim (λ m. omega (arith, (all Q f m).1 x)) (λ e. omega arith) (at Q f l);
    first = λ Q f l x y. ⊎_elim (λ m. absurd (omega (arith, (all Q f m).1 x))) (λ e. omega arith) (at Q f l);
  }

  pub seen_more : {kept r : Option Best} → Seen p i kept → Looked p.limit s i kept r → Seen p (i + 1) r
  seen_more {kept} w (inl z) = rw z.0 (stays kept w z.1)
  seen_more {kept} w (inr z) = rw z.0 (taken kept w z.1)

-- No plan has a rank past the last.
pub seen_end : (p : Problem) (i : ℕ) (kept : Option Best) → Seen p i kept → p.rates ^ p.count ≤ i → Seen p (p.rates ^ p.count) kept
seen_end p i None w l = λ Q f m. w Q f (omega arith)
seen_end p i (Some b) w l = record {
  plan = w.plan;
  fit = w.fit;
  cost_is = w.cost_is;
  load_is = w.load_is;
  rank_is = w.rank_is;
  before = omega (arith, w.rank_is, rank_below p.rates p.count w.plan (plan_numbered w.fit.plan));
  least_cost = λ Q f m. w.least_cost Q f (omega arith);
  least_load = λ Q f m. w.least_load Q f (omega arith);
  first = λ Q f m. w.first Q f (omega arith);
}

-- Where a plan fits, one was kept.
pub some_kept : (p : Problem) (i : ℕ) (kept : Option Best) → Seen p i kept → (Q : List ℕ) → Fitting p Q
    → rank p.rates p.count Q < i → IsSome kept
some_kept p i None w Q f l = absurd (w Q f l)
some_kept p i (Some b) w Q f l = search rules
