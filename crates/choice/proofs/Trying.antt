-- A unit's table over the arrays is the problem's own; and the units tried, from the first down.
-- Assumes nothing.
use Prim.Native.Nat.{ℕ, suc, ◌+◌, ◌-◌, ◌*◌, ◌^◌, ◌≤◌, ◌<◌, min, zero-le}
use mathlib.Core.Path.{◌≡◌, refl, sym, ◌∙◌, subst}
use mathlib.Core.List.{List}
use mathlib.Core.Logic.{◌⊎◌, ⊎_elim}
use native.Mathlib.Nat.{mul-le-mul_left, mul-le-mul_right}
use native.Mathlib.Numerals.{add-one}
use native.Mathlib.Omega.{arith}
use lib.ListN.{length, get_or, replicate}
use Rattle.numbers.specs.Numbers.{total, LeastPower}
use Rattle.std.proofs.Common.{rules}
use Rattle.std.specs.Prelude.{Option, Some, None, IsSome}
use Rattle.engine.specs.declared.Power.{Power}
use Rattle.numbers.proofs.Tests.{lt_or_le}
use Rattle.numbers.proofs.Powers.{power_positive}
use Rattle.selection.specs.Plan.{Problem, Fitting, rounded_task, rounded, fastest, IsLeastOf, IsChosenOf}
use Rattle.selection.specs.Plan.{last_column, work_words}
use Rattle.selection.proofs.Bounds.{rounded_small, rounded-half, last_small, first_in_table, next_in_table}
use Rattle.selection.proofs.Fastest.{fastest_fits}
use Rattle.selection.proofs.Choose.{cell, cell_le, way_back_chosen}
use Rattle.selection.proofs.Cells.{Way, cell-entry, way_back_way}
use Rattle.selection.proofs.Agree.{entry_agrees, way_agrees}
use Rattle.selection.proofs.Compute.{column_least}
use Rattle.engine.specs.declared.Request.{Request}
use Rattle.engine.specs.Arrays.{option_at, Written, cost_of, arrays}
use Rattle.engine.proofs.Units.{Tried, tried_start, doubled, tried_turn, tried_used}
use Rattle.table.specs.declared.Frame.{Frame}
use Rattle.table.specs.Rows.{entry_of, Tabled, Defined, FirstBelow}
use Rattle.choice.specs.Units.{frame_of, cut_of, UnitReady, UnitTabled, SearchReady, UnitUsed}

-- ---- one unit's table
-- The search of a row that holds F at the columns below n.
same_first : (d : List ℕ) (start cap : ℕ) {n : ℕ} {F : ℕ → ℕ} → ((e : ℕ) → e < n → get_or d (start + e) 0 ≡ F e) → (r : Option ℕ)
    → FirstBelow (Defined d start cap) n r → FirstBelow (λ e. F e < cap) n r
same_first d start cap is None s = λ e l h. s e l (rw (is e l) h)
same_first d start cap is (Some k) s = (s.0, rw (← is k s.0) s.1, (λ e l h. s.2 e l (rw (is e (omega (arith, s.0))) h)))

module _ {f : Frame} {energies load work₀ : List ℕ} (g : UnitReady f energies load work₀) where
  pub unit_tabled : (exponent : ℕ) {cost₀ cost work : List ℕ} {r : Option ℕ}
      → Written (cost_of energies exponent) 0 (f.tasks * 16) cost₀ cost
      → Tabled f f.tasks cost load work₀ work
      → FirstBelow (Defined work (f.tasks * f.columns) f.cap) f.columns r
      → UnitTabled f exponent energies load work₀ cost work r
  unit_tabled exponent {cost₀} {cost} {work} {r} c t s = record {
    costs = λ j l. c.here j zero-le l;
    work_size = t.same;
    holds = record { words = rw t.same g.words; cells = t.cells };
    above = t.above;
    least = same_first work (f.tasks * f.columns) f.cap (λ e l. t.cells f.tasks (omega arith) e l) r s;
  }

-- Over arrays cut at the limit and rounded by the unit 2 ^ exponent the table is the problem's own; its columns do not
-- matter here.
module _ (q : Request) (loads energies load cost : List ℕ) (exponent : ℕ) (few : q.rates ≤ 8)
    (cuts : (j : ℕ) → j < q.tasks * 16 → get_or load j 0 ≡ cut_of loads (q.limit + 1) j)
    (costs : (j : ℕ) → j < q.tasks * 16 → get_or cost j 0 ≡ cost_of energies exponent j) where
  abbrev this : Problem
  this = arrays q loads energies

  abbrev last_row : ℕ → ℕ
  last_row = entry_of (frame_of q (q.limit + 1) 0) cost load q.tasks

  same_costs : (t r : ℕ) → t < q.tasks → 1 ≤ r → r ≤ q.rates → option_at cost t r ≡ rounded_task this (2 ^ exponent) t r
  same_costs t r l x y = costs (t * 16 + r) (omega arith)

  same_loads : (t r : ℕ) → t < q.tasks → 1 ≤ r → r ≤ q.rates
      → min (suc q.limit) (option_at load t r) ≡ min (suc q.limit) (option_at loads t r)
  same_loads t r l x y = omega (arith, cuts (t * 16 + r) (omega arith))

  cell_is : (e : ℕ) → cell this (2 ^ exponent) q.tasks e ≡ last_row e
  cell_is e =
      rw (add-one q.limit)
      (cell-entry this (2 ^ exponent) q.tasks e ∙
      sym (entry_agrees (option_at cost) (option_at load) (rounded_task this (2 ^ exponent)) (option_at loads) q.rates
      (suc q.limit) q.tasks
      same_costs same_loads q.tasks e (omega arith)))

  module _ (k : ℕ) (some : last_row k < q.limit + 1) (before : (e : ℕ) → e < k → q.limit + 1 ≤ last_row e) where
    low : cell this (2 ^ exponent) q.tasks k ≤ q.limit
    low = omega (arith, cell_is k)

    over : (e : ℕ) → e < k → q.limit < cell this (2 ^ exponent) q.tasks e
    over e l = omega (arith, cell_is e, before e l)

    -- The least column is k(d).
    pub least_is : IsLeastOf (Fitting this) this (2 ^ exponent) k
    least_is = column_least this (2 ^ exponent) k low over

    -- The way back from there is the chosen plan.
    pub chosen_is : (P : List ℕ) → length P ≡ q.tasks
        → Way (option_at cost) (option_at load) q.rates (q.limit + 1) q.tasks k P
        → IsChosenOf (Fitting this) this (2 ^ exponent) P
    chosen_is P size way =
        (way_back_chosen this (2 ^ exponent) k P low over size
        (way_back_way this (2 ^ exponent) q.tasks k P
        (way_agrees (option_at cost) (option_at load) (rounded_task this (2 ^ exponent)) (option_at loads) q.rates
        (suc q.limit) q.tasks
        same_costs same_loads q.tasks k P (omega arith)
        (subst (λ (C : ℕ). Way (option_at cost) (option_at load) q.rates C q.tasks k P) (add-one q.limit) way)))).0

  -- A fitting plan whose rounded energy is within the table has a column there.
  pub reaches : (columns : ℕ) (Q : List ℕ) → Fitting this Q → rounded this (2 ^ exponent) Q < columns → (r : Option ℕ)
      → FirstBelow (λ e. last_row e < q.limit + 1) columns r → IsSome r
  reaches columns Q fit l None none =
      let e = rounded this (2 ^ exponent) Q in
      absurd (none e l (omega (arith, cell_is e, cell_le this (2 ^ exponent) Q fit, fit.fits)))
  reaches columns Q fit l (Some k) found = search rules

-- ---- the units tried
pub narrow_words : (tasks slack columns : ℕ) → columns ≤ last_column tasks slack + 1
    → (tasks + 1) * columns ≤ work_words tasks slack
narrow_words tasks slack columns h = mul-le-mul_left (tasks + 1) h

-- What holds before a unit is tried with so many columns, where 2 ^ first is the first unit; work₀ is the working list
-- as lent.
pub record Trying (q : Request) (loads energies work₀ : List ℕ) (first : ℕ) (work : List ℕ) (unit : Power)
    (columns : ℕ) : Type 0 where
  pub rule : Tried (arrays q loads energies) q.slack first unit
  pub reach : (Q : List ℕ) × Fitting (arrays q loads energies) Q × (rounded (arrays q loads energies) (2 ^ unit.exponent) Q < columns)
  pub narrow : columns ≤ last_column q.tasks q.slack + 1
  pub work_size : length work ≡ length work₀
  pub above : (j : ℕ) → work_words q.tasks q.slack ≤ j → get_or work j 0 ≡ get_or work₀ j 0

module _ {q : Request} {loads energies load₀ work₀ : List ℕ} (g : SearchReady q loads energies load₀ work₀) where
  abbrev p : Problem
  p = arrays q loads energies

  -- x is the energy with every task at the highest rate, and the unit the smallest power of two not below it.
  pub trying_start : {x : ℕ} {unit : Power} → x ≡ total (option_at energies) q.tasks (replicate q.tasks q.rates)
      → LeastPower x unit.exponent
      → Trying q loads energies work₀ unit.exponent work₀ unit (q.tasks + 1)
  trying_start {x} {unit} e least =
      let rule = tried_start q loads energies e least in
      let small =
      rounded_small p (2 ^ unit.exponent) (power_positive unit.exponent) (fastest p) rule.is_first.enough in
      record {
        rule = rule;
        reach = (fastest p, fastest_fits p g.asked.rates.0 g.asked.fits, omega (arith, small));
        narrow = omega (arith, first_in_table q.slack q.tasks q.tasks g.asked.slacks.0 g.asked.slacks.1 (omega arith));
        work_size = refl;
        above = λ j l. refl;
      }

  -- A unit is in hand.
  module _ {first columns : ℕ} {unit : Power} {work₁ : List ℕ}
      (w : Trying q loads energies work₀ first work₁ unit columns) where
    columns_fit : (q.tasks + 1) * columns ≤ work_words q.tasks q.slack
    columns_fit = narrow_words q.tasks q.slack columns w.narrow

    -- No least column is above the table's columns.
    module _ {k : ℕ} (to : k < columns) where
      pub least_small : k ≤ 128001
      least_small = omega (arith, w.narrow, last_small q.tasks q.slack g.asked.tasks g.asked.slacks.0)

      pub product_small : q.slack * k ≤ 128001000
      product_small = omega (arith, least_small, mul-le-mul_right k g.asked.slacks.1)

    -- Loads that were cut are at most the cap; and the unit can be tried.
    module _ {cap : ℕ} {load : List ℕ} (c : Written (cut_of loads cap) 0 (q.tasks * 16) load₀ load) where
      loads_low : (j : ℕ) → get_or load j 0 ≤ cap
      loads_low j =
          ⊎_elim
          (λ (l : j < q.tasks * 16). omega (arith, c.here j zero-le l))
          (λ (l : q.tasks * 16 ≤ j). omega (arith, c.above j l, g.load_none j))
          (lt_or_le j (q.tasks * 16))

      pub unit_ready : cap + cap < 2 ^ 32 → UnitReady (frame_of q cap columns) energies load work₁
      unit_ready small = record {
        energies_fit = g.energies_fit;
        framed = record { tasks = g.asked.tasks; rates = g.asked.rates.1; small = small; loads = loads_low };
        words = omega (arith, columns_fit, g.work_room, w.work_size);
      }

    module _ {load : List ℕ} (c : Written (cut_of loads (q.limit + 1)) 0 (q.tasks * 16) load₀ load)
        {cost work : List ℕ} where
      -- The table has the least column.
      pub some_column : {r : Option ℕ}
          → UnitTabled (frame_of q (q.limit + 1) columns) unit.exponent energies load work₁ cost work r → IsSome r
      some_column {r} u =
          reaches q loads energies load cost unit.exponent g.asked.rates.1 (λ j l. c.here j zero-le l) u.costs
          columns w.reach.0 w.reach.1 w.reach.2 r u.least

      module _ {k : ℕ}
          (u : UnitTabled (frame_of q (q.limit + 1) columns) unit.exponent energies load work₁ cost work (Some k)) where
        abbrev last_entry : ℕ → ℕ
        last_entry = entry_of (frame_of q (q.limit + 1) columns) cost load q.tasks

        before : (e : ℕ) → e < k → q.limit + 1 ≤ last_entry e
        before e l =
            ⊎_elim
            (λ (x : last_entry e < q.limit + 1). absurd (u.least.2 e l x))
            (λ (x : q.limit + 1 ≤ last_entry e). x)
            (lt_or_le (last_entry e) (q.limit + 1))

        least : IsLeastOf (Fitting p) p (2 ^ unit.exponent) k
        least =
            least_is q loads energies load cost unit.exponent g.asked.rates.1 (λ j l. c.here j zero-le l) u.costs k u.least.1 before

        above : (j : ℕ) → work_words q.tasks q.slack ≤ j → get_or work j 0 ≡ get_or work₀ j 0
        above j l = u.above j (omega (arith, columns_fit)) ∙ w.above j l

        work_same : length work ≡ length work₀
        work_same = u.work_size ∙ w.work_size

        -- The rule stops: the unit is used.
        pub unit_used : (unit.exponent ≡ 0) ⊎ (2000 * q.tasks ≤ q.slack * k)
            → UnitUsed q loads energies work₀ load cost work (record { unit = unit.value; frame = frame_of q (q.limit + 1) columns; least = k })
        unit_used stop = record {
          exponent = unit.exponent;
          unit_is = unit.power;
          used = tried_used w.rule least stop;
          loads_low = loads_low c;
          loads_cut = λ j l. c.here j zero-le l;
          costs = u.costs;
          frame_is = refl;
          narrow = w.narrow;
          holds = u.holds;
          place = u.least.0;
          some = u.least.1;
          before = before;
          above = above;
          work_size = work_same;
        }

        -- It does not: half the unit is tried next.
        pub trying_turn : {next : Power} → (0 < unit.exponent) × (q.slack * k < 2000 * q.tasks)
            → next.exponent ≡ unit.exponent - 1
            → Trying q loads energies work₀ first work next (2 * k + 1)
        trying_turn {next} goes_on is = record {
          rule = tried_turn w.rule least goes_on.0 goes_on.1 is;
          reach = (least.plan, least.ok, rw is (omega (arith, halved, least.reached)));
          narrow =
              omega (
                arith,
                next_in_table q.slack q.tasks k (2 * k) g.asked.slacks.0 goes_on.1 (omega arith),
              );
          work_size = work_same;
          above = above;
        }
          where
            halved : rounded p (2 ^ (unit.exponent - 1)) least.plan ≤ 2 * rounded p (2 ^ unit.exponent) least.plan
            halved =
                rw (doubled goes_on.0)
                (rounded-half p (2 ^ (unit.exponent - 1)) (power_positive (unit.exponent - 1)) least.plan)
