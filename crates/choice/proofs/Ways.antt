-- The way back, a task a turn from the last down.
-- Assumes nothing.
use Prim.Native.Nat.{ℕ, ◌+◌, ◌-◌, ◌*◌, ◌≤◌, ◌<◌}
use mathlib.Core.Path.{◌≡◌, refl, sym, ap, ◌∙◌, subst}
use mathlib.Core.List.{List}
use native.Mathlib.Nat.{mul-le-mul_right}
use native.Mathlib.Omega.{arith}
use lib.ListN.{length, get_or, set, length-set}
use lib.Seq.{get_or-set_same, get_or-set_other}
use Rattle.selection.proofs.Cells.{Way, way_step, way_end, Sound, rate_sound}
use Rattle.engine.specs.Arrays.{option_at}
use Rattle.table.specs.declared.Frame.{Frame}
use Rattle.table.specs.Rows.{entry_of, rate_of, RateReady}
use Rattle.table.proofs.Rows.{next_row}
use Rattle.choice.specs.Units.{WayReady, WayTaken}

-- A list that goes back from row i, column e.
abbrev Follow : Frame → List ℕ → List ℕ → ℕ → ℕ → List ℕ → Type 0
Follow f cost load i e P = Way (option_at cost) (option_at load) f.rates f.cap i e P

-- What holds before the task i - 1 is taken: the entry in row i, column e, is not 'none', and whatever list goes back
-- from there and has the plan's numbers from i on goes back from the last row.
pub record OnWay (f : Frame) (column : ℕ) (cost load plan₀ plan : List ℕ) (e i : ℕ) : Type 0 where
  pub tasks : i ≤ f.tasks
  pub place : e < f.columns
  pub some : entry_of f cost load i e < f.cap
  pub same : length plan ≡ length plan₀
  pub rest : (p : ℕ) → f.tasks ≤ p → get_or plan p 0 ≡ get_or plan₀ p 0
  pub leads : (P : List ℕ) → ((p : ℕ) → i ≤ p → p < f.tasks → get_or P p 0 ≡ get_or plan p 0)
      → Follow f cost load i e P → Follow f cost load f.tasks column P

module _ {f : Frame} {column : ℕ} {cost load d plan₀ : List ℕ} (g : WayReady f column cost load d plan₀) where
  pub way_start : OnWay f column cost load plan₀ plan₀ column f.tasks
  way_start = record {
    tasks = omega arith;
    place = g.place;
    some = g.some;
    same = refl;
    rest = λ p h. refl;
    leads = λ P s w. w;
  }

  module _ {plan : List ℕ} {e i : ℕ} (w : OnWay f column cost load plan₀ plan e i) (h : 0 < i) where
    one_more : i ≡ i - 1 + 1
    one_more = omega arith

    row_before : i * f.columns ≡ (i - 1) * f.columns + f.columns
    row_before = omega (arith, next_row (i - 1) f.columns, ap (λ (x : ℕ). x * f.columns) one_more)

    -- Row i is within the table.
    pub row_here : i * f.columns + f.columns ≤ length d
    row_here =
        omega (
          arith,
          g.holds.words,
          next_row i f.columns,
          mul-le-mul_right {m = i + 1} {n = f.tasks + 1} f.columns (omega (arith, w.tasks)),
        )

    some_next : entry_of f cost load (i - 1 + 1) e < f.cap
    some_next = rw (← one_more) w.some

    pub rate_ready : RateReady f ((i - 1) * f.columns) e (i - 1) cost load d
    rate_ready = record {
      is_task = omega (arith, w.tasks);
      rows = omega (arith, row_here, row_before);
      prev = g.holds.cells (i - 1) (omega (arith, w.tasks));
      next = λ j l.
          ap (λ (x : ℕ). get_or d (x + j) 0) (sym row_before) ∙ g.holds.cells i w.tasks j l ∙
          ap (λ (x : ℕ). entry_of f cost load x j) one_more;
      place = w.place;
      some = some_next;
    }

    module _ {r : ℕ} (is : r ≡ rate_of f cost load (i - 1) e) where
      pub way_sound : Sound (option_at cost) (option_at load) f.rates f.cap (i - 1) e r
      way_sound = rw is (rate_sound (option_at cost) (option_at load) f.rates f.cap (i - 1) e some_next)

      pub way_turn : {k : ℕ} → k ≡ option_at cost (i - 1) r
          → OnWay f column cost load plan₀ (set plan (i - 1) r) (e - k) (i - 1)
      way_turn {k} q = record {
        tasks = omega (arith, w.tasks);
        place = omega (arith, w.place);
        some = rw q (omega (arith, way_sound.sum, some_next));
        same = length-set plan (i - 1) r ∙ w.same;
        rest = λ p x. get_or-set_other plan (i - 1) p r 0 (omega (arith, w.tasks)) ∙ w.rest p x;
        leads = leads;
      }
        where
          leads : (P : List ℕ) → ((p : ℕ) → i - 1 ≤ p → p < f.tasks → get_or P p 0 ≡ get_or (set plan (i - 1) r) p 0)
              → Follow f cost load (i - 1) (e - k) P → Follow f cost load f.tasks column P
          leads P s y =
              let here : get_or P (i - 1) 0 ≡ r =
              s (i - 1) (omega arith) (omega (arith, w.tasks)) ∙ get_or-set_same plan (i - 1) r 0
              (omega (arith, w.same, w.tasks, g.room)) in
              let c : option_at cost (i - 1) (get_or P (i - 1) 0) ≡ k = ap (option_at cost (i - 1)) here ∙ sym q in
              let step : Follow f cost load (i - 1 + 1) e P =
              way_step (option_at cost) (option_at load) f.rates f.cap (i - 1) e P (here ∙ is)
              (subst (λ (x : ℕ). Follow f cost load (i - 1) (e - x) P) (sym c) y) in
              w.leads P (λ p x z. s p (omega arith) z ∙ get_or-set_other plan (i - 1) p r 0 (omega arith))
              (subst (λ (x : ℕ). Follow f cost load x e P) (sym one_more) step)

  -- With no task left the plan list is the way back.
  pub way_whole : {plan : List ℕ} {e i : ℕ} → OnWay f column cost load plan₀ plan e i → i ≡ 0
      → WayTaken f column cost load plan₀ plan
  way_whole {plan} {e} {i} w z = record {
    same = w.same;
    way =
        w.leads plan (λ p x y. refl)
        (subst (λ (x : ℕ). Follow f cost load x e plan) (sym z) (way_end (option_at cost) (option_at load) f.rates f.cap e plan));
    rest = w.rest;
  }
