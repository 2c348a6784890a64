-- The unit rule, whichever engine finds the least rounded energies: the first unit, half a unit that falls short, and
-- the unit used.
-- Assumes nothing.
use Prim.Native.Nat.{ℕ, suc, ◌-◌, ◌*◌, ◌^◌, ◌≤◌, ◌<◌}
use mathlib.Core.Path.{◌≡◌, ap, ◌∙◌}
use mathlib.Core.Bool.{true, false, ◌||◌}
use mathlib.Core.List.{List}
use mathlib.Core.Logic.{◌⊎◌, inl, inr, ⊎_elim}
use native.Mathlib.Nat.{eq-or-lt_of_le, pow-succ'}
use native.Mathlib.Omega.{arith}
use lib.Dec.{eqb, leb}
use lib.ListN.{replicate}
use borrow.Author.Tests.{eqb-true, eqb-false, leb-true, leb-false}
use Rattle.numbers.specs.Numbers.{total, LeastPower}
use Rattle.engine.specs.declared.Power.{Power}
use Rattle.numbers.proofs.Tests.{or_true, or_false}
use Rattle.selection.specs.Plan.{Problem, Fitting, plan_energy, fastest, threshold, IsLeastOf, FallsShortOf, IsUsedOf}
use Rattle.selection.proofs.Bounds.{last_small, tried_in_table}
use Rattle.selection.proofs.Fastest.{fastest_fits}
use Rattle.engine.specs.Arrays.{option_at, arrays, energy_bound, Small, Asked}
use Rattle.engine.specs.declared.Request.{Request}
use Rattle.engine.proofs.Adding.{energies_low}

-- What holds before a unit is tried, where 2 ^ first is the first unit.
pub record Tried (p : Problem) (G first : ℕ) (unit : Power) : Type 0 where
  pub is_first : LeastPower (plan_energy p (fastest p)) first
  pub tried : unit.exponent ≤ first
  pub goes_on : (b : ℕ) → unit.exponent < b → b ≤ first → FallsShortOf (Fitting p) p G (2 ^ b)

-- The unit is the smallest power of two not below x, the energy with every task at the highest rate.
module _ (q : Request) (loads energies : List ℕ) {x : ℕ} {unit : Power}
    (e : x ≡ total (option_at energies) q.tasks (replicate q.tasks q.rates))
    (least : LeastPower x unit.exponent) where
  pub tried_start : Tried (arrays q loads energies) q.slack unit.exponent unit
  unfolding fastest
  tried_start =
      record {
        is_first = rw (← e) least;
        tried = omega arith;
        goes_on = λ b x y. absurd (omega arith);
      }

-- No first unit is above 2 ^ 63.
pub first_low : (q : Request) (loads energies : List ℕ) {first : ℕ} → Small energy_bound energies → q.tasks ≤ 32
    → LeastPower (plan_energy (arrays q loads energies) (fastest (arrays q loads energies))) first → first ≤ 63
unfolding fastest
first_low q loads energies small few is =
    is.smallest 63 (energies_low energies (replicate q.tasks q.rates) q.tasks small few)

-- A power of two above 1 is twice the one before it.
pub doubled : {a : ℕ} → 0 < a → 2 ^ a ≡ 2 * 2 ^ (a - 1)
doubled {a} pos = let one_more : a ≡ suc (a - 1) = omega arith in ap (λ (x : ℕ). 2 ^ x) one_more ∙ pow-succ' 2 (a - 1)

-- k is the least rounded energy at the unit.
module _ {p : Problem} {G first k : ℕ} {unit : Power} (w : Tried p G first unit)
    (least : IsLeastOf (Fitting p) p (2 ^ unit.exponent) k) where
  -- The rule goes on: half the unit is tried next.
  pub tried_turn : {next : Power} → 0 < unit.exponent → G * k < threshold p
      → next.exponent ≡ unit.exponent - 1 → Tried p G first next
  tried_turn {next} pos short is = record {
    is_first = w.is_first;
    tried = omega (arith, w.tried, is);
    goes_on = λ b x y.
        ⊎_elim
        (λ (e : unit.exponent ≡ b). rw (← e) (k, least, short))
        (λ (e : unit.exponent < b). w.goes_on b e y)
        (eq-or-lt_of_le (omega (arith, is)));
  }

  -- The rule stops: the unit is used.
  pub tried_used : (unit.exponent ≡ 0) ⊎ (threshold p ≤ G * k) → IsUsedOf (Fitting p) p G unit.exponent
  tried_used stop = record {
    first = first;
    is_first = w.is_first;
    tried = w.tried;
    stops = ⊎_elim (λ z. inl z) (λ z. inr (k, least, z)) stop;
    goes_on = w.goes_on;
  }

-- The least rounded energy of a unit that is tried is small.
pub tried_low : {q : Request} {loads energies : List ℕ} {first k : ℕ} {unit : Power} → Asked q loads energies
    → Tried (arrays q loads energies) q.slack first unit
    → IsLeastOf (Fitting (arrays q loads energies)) (arrays q loads energies) (2 ^ unit.exponent) k → k ≤ 128000
tried_low {q} {loads} {energies} {first} {k} {unit} g w least =
    let p = arrays q loads energies in
    let step =
    ⊎_elim (λ e. inl e) (λ l. inr (w.goes_on (suc unit.exponent) (omega arith) l)) (eq-or-lt_of_le w.tried) in
    omega (
      arith,
      tried_in_table (Fitting p) p q.slack unit.exponent k g.slacks.0 g.slacks.1 first w.is_first
          (fastest_fits p g.rates.0 g.fits) step least,
      last_small q.tasks q.slack g.tasks g.slacks.0,
    )

-- The rule's test, split.
pub stops_true : (a x y : ℕ) → (eqb a 0 || leb x y) ≡ true → (a ≡ 0) ⊎ (x ≤ y)
stops_true a x y h = ⊎_elim (λ z. inl (eqb-true a 0 z)) (λ z. inr (leb-true x y z)) (or_true (eqb a 0) (leb x y) h)

pub stops_false : (a x y : ℕ) → (eqb a 0 || leb x y) ≡ false → (0 < a) × (y < x)
stops_false a x y h =
    let s = or_false (eqb a 0) (leb x y) h in
    let z : a ≡ 0 → ⊥ = eqb-false a 0 s.0 in
    (omega arith, omega (arith, leb-false x y s.1))
