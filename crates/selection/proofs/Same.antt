-- Two problems that agree in every number that a plan can meet have the same plan selected: so the choice may be made
-- over arrays that hold just these numbers.
-- Assumes nothing.
use Prim.Native.Nat.{ℕ, ◌^◌, ◌≤◌, ◌<◌}
use mathlib.Core.Path.{◌≡◌, sym, ap, ◌∙◌, subst}
use mathlib.Core.List.{List}
use mathlib.Core.Logic.{inl, inr, ⊎_elim}
use native.Mathlib.Omega.{arith}
use lib.ListN.{get_or}
use Rattle.numbers.specs.Numbers.{ceil, total, LeastPower}
use Rattle.numbers.proofs.Sums.{total_same}
use Rattle.selection.specs.Plan.{Problem, IsPlan, Fitting, plan_load, plan_energy, rounded_task, rounded, IsLeastOf, NotAfter, IsChosenOf, fastest, IsUsedOf, IsPlanned}
use Rattle.selection.specs.Same.{Same}
use Rattle.selection.proofs.Fastest.{fastest_plan}

-- It does not matter which of the two comes first, so that what follows is shown one way only.
same_sym : {p q : Problem} → Same p q → Same q p
same_sym {p} {q} same = record {
  count = sym same.count;
  rates = sym same.rates;
  limit = sym same.limit;
  loads = λ t r l a b. sym (same.loads t r (omega (arith, same.count)) a (omega (arith, same.rates)));
  energies = λ t r l a b. sym (same.energies t r (omega (arith, same.count)) a (omega (arith, same.rates)));
}

-- ---- what a plan comes to
module _ (p q : Problem) (same : Same p q) where
  pub plan_same : (P : List ℕ) → IsPlan p P → IsPlan q P
  plan_same P h = record {
    size = h.size ∙ same.count;
    above = λ t l. h.above t (omega (arith, same.count));
    below = λ t l. omega (arith, same.rates, h.below t (omega (arith, same.count)));
  }

  sum_same : (f g : ℕ → ℕ → ℕ) → ((t r : ℕ) → t < p.count → 1 ≤ r → r ≤ p.rates → f t r ≡ g t r)
      → (P : List ℕ) → IsPlan p P → total f p.count P ≡ total g q.count P
  sum_same f g h P i =
      total_same f g p.count P P (λ t l. h t (get_or P t 0) l (i.above t l) (i.below t l)) ∙ ap (λ (n : ℕ). total g n P) same.count

  pub load_same : (P : List ℕ) → IsPlan p P → plan_load p P ≡ plan_load q P
  load_same = sum_same p.load q.load same.loads

  pub energy_same : (P : List ℕ) → IsPlan p P → plan_energy p P ≡ plan_energy q P
  energy_same = sum_same p.energy q.energy same.energies

  rounded_same : (d : ℕ) (P : List ℕ) → IsPlan p P → rounded p d P ≡ rounded q d P
  rounded_same d = sum_same (rounded_task p d) (rounded_task q d) (λ t r l a b. ap (λ (e : ℕ). ceil e d) (same.energies t r l a b))

  pub fitting_same : (P : List ℕ) → Fitting p P → Fitting q P
  fitting_same P f = record { plan = plan_same P f.plan; fits = omega (arith, f.fits, load_same P f.plan, same.limit) }

  fastest_same : fastest p ≡ fastest q
  unfolding fastest
  fastest_same = rw (same.count, same.rates)

  module _ (some_rate : 1 ≤ p.rates) where
    pub fastest-load_same : plan_load p (fastest p) ≡ plan_load q (fastest q)
    fastest-load_same = load_same (fastest p) (fastest_plan p some_rate) ∙ ap (plan_load q) fastest_same

    fastest-energy_same : plan_energy p (fastest p) ≡ plan_energy q (fastest q)
    fastest-energy_same = energy_same (fastest p) (fastest_plan p some_rate) ∙ ap (plan_energy q) fastest_same

-- ---- what is least, what is chosen, and the unit used
module _ (p q : Problem) (same : Same p q) where
  back : (Q : List ℕ) → Fitting q Q → Fitting p Q
  back = fitting_same q p (same_sym same)

  least_same : (d k : ℕ) → IsLeastOf (Fitting p) p d k → IsLeastOf (Fitting q) q d k
  least_same d k h = record {
    plan = h.plan;
    ok = fitting_same p q same h.plan h.ok;
    reached = sym (rounded_same p q same d h.plan h.ok.plan) ∙ h.reached;
    least = λ Q f. let g = back Q f in omega (arith, h.least Q g, rounded_same p q same d Q g.plan);
  }

  chosen_same : (d : ℕ) (P : List ℕ) → IsChosenOf (Fitting p) p d P → IsChosenOf (Fitting q) q d P
  chosen_same d P h =
      let r = rounded_same p q same d P h.ok.plan in
      let w = load_same p q same P h.ok.plan in
      record {
        ok = fitting_same p q same P h.ok;
        least_energy = λ Q f. let g = back Q f in omega (arith, h.least_energy Q g, rounded_same p q same d Q g.plan);
        least_load = λ Q f e.
            let g = back Q f in
            let u = rounded_same p q same d Q g.plan in
            omega (arith, h.least_load Q g (omega (arith, u, e, r)), load_same p q same Q g.plan);
        lowest = λ Q f e x.
            let g = back Q f in
            let u = rounded_same p q same d Q g.plan in
            let v = load_same p q same Q g.plan in
            subst (λ (n : ℕ). NotAfter n P Q) same.count (h.lowest Q g (omega (arith, u, e, r)) (omega (arith, v, x, w)));
      }

  module _ (some_rate : 1 ≤ p.rates) where
    used_same : (G a : ℕ) → IsUsedOf (Fitting p) p G a → IsUsedOf (Fitting q) q G a
    used_same G a h = record {
      first = h.first;
      is_first = subst (λ (e : ℕ). LeastPower e h.first) (fastest-energy_same p q same some_rate) h.is_first;
      tried = h.tried;
      stops = ⊎_elim (λ z. inl z) (λ y. inr (y.0, least_same (2 ^ a) y.0 y.1, omega (arith, y.2, same.count))) h.stops;
      goes_on = λ b x y. let s = h.goes_on b x y in (s.0, least_same (2 ^ b) s.0 s.1, omega (arith, s.2, same.count));
    }

    pub planned_same : (G a : ℕ) (P : List ℕ) → IsPlanned p G a P → IsPlanned q G a P
    planned_same G a P h = record { used = used_same G a h.used; chosen = chosen_same (2 ^ a) P h.chosen }
