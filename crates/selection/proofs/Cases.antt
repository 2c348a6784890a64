-- Document 01's marked selections, over the loads and energies of their tasks: the set S at two slacks, 60 and 61
-- cycles, and the task energy of 33 that shows rounding.
-- Assumes nothing.
use Prim.Native.Nat.{ℕ, zero, suc, ◌^◌, ◌≤◌, ◌<◌}
use mathlib.Core.Path.{◌≡◌, refl}
use mathlib.Core.List.{List, [], ◌∷◌}
use native.Mathlib.Omega.{arith}
use native.Mathlib.Bridge.{le_by_compare, IsLe}
use lib.ListN.{get_or}
use Rattle.numbers.specs.Numbers.{total}
use Rattle.numbers.proofs.Powers.{exponent}
use Rattle.numbers.proofs.Search.{seek}
use Rattle.selection.specs.Plan.{Problem, plan_load, plan_energy, Fitting, fastest, IsPlanned, work_words, most_plans}
use Rattle.selection.proofs.Fastest.{Falling, fastest_fits, fastest_least}
use Rattle.selection.proofs.Table.{least_of, first_of, via, best}
use Rattle.selection.proofs.Choose.{spend, cell}
use Rattle.selection.proofs.Compute.{trace, least_energy_at, choose, used_from, used_exponent, planned_is}

-- A table by the task's place and the rate number; there is no rate 0.
at : List (List ℕ) → ℕ → ℕ → ℕ
at rows t r = get_or (0 ∷ get_or rows t []) r 0

-- The set S: L = 30, job times 6 3 2 and 10 5 3, three jobs of task 1 and two of task 2 in L.
S : Problem
S = record {
  count = 2;
  rates = 3;
  limit = 30;
  load = at ((18 ∷ 9 ∷ 6 ∷ []) ∷ (20 ∷ 10 ∷ 6 ∷ []) ∷ []);
  energy = at ((12 ∷ 27 ∷ 60 ∷ []) ∷ (14 ∷ 30 ∷ 60 ∷ []) ∷ []);
}

-- One task of two rates.
one : ℕ → List ℕ → List ℕ → Problem
one limit loads energies = record { count = 1; rates = 2; limit = limit; load = at (loads ∷ []); energy = at (energies ∷ []) }

-- P is the plan selected with slack G, with unit, load and energy as given.
record Selects (p : Problem) (G : ℕ) (P : List ℕ) (unit load energy : ℕ) : Type 0 where
  exponent_of : ℕ
  unit_is : 2 ^ exponent_of ≡ unit
  planned : IsPlanned p G exponent_of P
  load_is : plan_load p P ≡ load
  energy_is : plan_energy p P ≡ energy

-- What the functions give is the selection.
computed : (p : Problem) (G : ℕ) (P : List ℕ) (a unit load energy : ℕ) → 1 ≤ p.rates → plan_load p (fastest p) ≤ p.limit
    → used_exponent p G ≡ a → choose p (2 ^ a) ≡ P → 2 ^ a ≡ unit → plan_load p P ≡ load → plan_energy p P ≡ energy → Selects p G P unit load energy
computed p G P a unit load energy r f u c d w e = record {
  exponent_of = a;
  unit_is = d;
  planned = rw (← c, ← u) (planned_is p (fastest_fits p r f) G);
  load_is = w;
  energy_is = e;
}

-- 61 cycles: 61 ticks at rate 1, 31 at rate 2, of 30.
over_by_one : Problem
over_by_one = one 30 (61 ∷ 31 ∷ []) (5 ∷ 6 ∷ [])

falls : Falling over_by_one
unfolding over_by_one one at IsLe
falls zero zero l a b = absurd (omega arith)
falls zero (suc zero) l a b = le_by_compare 31 61 tt
falls zero (suc (suc zero)) l a b = le_by_compare 31 31 tt
falls zero (suc (suc (suc r))) l a b = absurd (omega arith)
falls (suc t) r l a b = absurd (omega arith)

none_fits : (P : List ℕ) → Fitting over_by_one P → ⊥
unfolding over_by_one one at total fastest
none_fits P f = omega (arith, fastest_least over_by_one (omega arith) falls P f.plan, f.fits)

pub record Cases : Type 0 where
  -- "S: plan 2 1, unit 1, load 29, energy 41."
  slack_100 : Selects S 100 (2 ∷ 1 ∷ []) 1 29 41
  -- "S with slack 1,000: plan 1 2, unit 8, load 28, energy 42."
  slack_1000 : Selects S 1000 (1 ∷ 2 ∷ []) 8 28 42
  -- "S has W = 243"; "S with slack 1,000: W = 27."
  words : (work_words 2 100 ≡ 243) × (work_words 2 1000 ≡ 27)
  -- "Plan 1 3 for S: load 24."
  load_of_1_3 : plan_load S (1 ∷ 3 ∷ []) ≡ 24
  -- "Highest rate 2, one task of period 30: 60 cycles fit, 61 give refusal 7."
  cycles_60 : Selects (one 30 (60 ∷ 30 ∷ []) (5 ∷ 6 ∷ [])) 100 (2 ∷ []) 1 30 6
  cycles_61 : (P : List ℕ) → Fitting over_by_one P → ⊥
  -- "one task whose task energy is 33 at every rate, with slack 1,000": unit 32.
  energy_33 : Selects (one 10 (10 ∷ 5 ∷ []) (33 ∷ 33 ∷ [])) 1000 (2 ∷ []) 32 5 33

pub cases : Cases
unfolding S one at total fastest exponent seek used_exponent used_from least_energy_at cell best least_of first_of via spend trace choose IsLe
cases = record {
  slack_100 = computed S 100 (2 ∷ 1 ∷ []) 0 1 29 41 (le_by_compare _ _ tt) (le_by_compare _ _ tt) refl refl refl refl refl;
  slack_1000 = computed S 1000 (1 ∷ 2 ∷ []) 3 8 28 42 (le_by_compare _ _ tt) (le_by_compare _ _ tt) refl refl refl refl refl;
  words = (refl, refl);
  load_of_1_3 = refl;
  cycles_60 = computed _ 100 (2 ∷ []) 0 1 30 6 (le_by_compare _ _ tt) (le_by_compare _ _ tt) refl refl refl refl refl;
  cycles_61 = none_fits;
  energy_33 = computed _ 1000 (2 ∷ []) 5 32 5 33 (le_by_compare _ _ tt) (le_by_compare _ _ tt) refl refl refl refl refl;
}

-- Of the powers that numbers of rates and tasks make, 7^7 = 823,543 is the greatest that is not over 1,000,000, and
-- 2^20 = 1,048,576 the least that is.
pub power_edges : (7 ^ 7 ≤ most_plans) × (most_plans < 2 ^ 20)
unfolding IsLe
power_edges = (le_by_compare _ _ tt, le_by_compare _ _ tt)
