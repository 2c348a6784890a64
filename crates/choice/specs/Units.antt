-- What the functions below the choice take and give. Not part of what a reader must believe.
use Rattle.std.specs.Prelude.{ℕ, ◌+◌, ◌*◌, ◌^◌, ◌≤◌, ◌<◌, min, ◌≡◌, List, Option, length, get_or}
use Rattle.selection.specs.Plan.{Fitting, IsUsedOf, last_column, work_words}
use Rattle.selection.proofs.Cells.{Way}
use Rattle.engine.specs.declared.Request.{Request}
use Rattle.engine.specs.Arrays.{option_at, cost_of, energy_bound, Small, arrays, Asked}
use Rattle.table.specs.Rows.{entry_of, Framed, RowAt, FirstBelow}
use Rattle.table.specs.declared.Frame.{Frame}
use Rattle.choice.specs.declared.Used.{Used}

-- The table for a request, with a cap and so many columns.
abbrev pub frame_of : Request → ℕ → ℕ → Frame
frame_of q cap columns = record { tasks = q.tasks; rates = q.rates; columns = columns; cap = cap }

-- d holds the table.
pub record Table (f : Frame) (cost load d : List ℕ) : Type 0 where
  pub words : (f.tasks + 1) * f.columns ≤ length d
  pub cells : (i : ℕ) → i ≤ f.tasks → RowAt f (i * f.columns) i cost load d

-- What the way back asks: the table, a column of its last row that is not 'none', and room for the plan.
pub record WayReady (f : Frame) (column : ℕ) (cost load d plan : List ℕ) : Type 0 where
  pub holds : Table f cost load d
  pub place : column < f.columns
  pub some : entry_of f cost load f.tasks column < f.cap
  pub room : f.tasks ≤ length plan

-- The plan list holds the way back in its first words, and every other word as it was.
pub record WayTaken (f : Frame) (column : ℕ) (cost load plan₀ plan : List ℕ) : Type 0 where
  pub same : length plan ≡ length plan₀
  pub way : Way (option_at cost) (option_at load) f.rates f.cap f.tasks column plan
  pub rest : (p : ℕ) → f.tasks ≤ p → get_or plan p 0 ≡ get_or plan₀ p 0

-- A load cut at cap.
abbrev pub cut_of : List ℕ → ℕ → ℕ → ℕ
cut_of loads cap k = min (get_or loads k 0) cap

-- What the table of one unit asks.
pub record UnitReady (f : Frame) (energies load work : List ℕ) : Type 0 where
  pub energies_fit : Small energy_bound energies
  pub framed : Framed f load
  pub words : (f.tasks + 1) * f.columns ≤ length work

-- What it gives: costs by the unit, the table over them, and the search of its last row.
pub record UnitTabled (f : Frame) (exponent : ℕ) (energies load work₀ cost work : List ℕ) (r : Option ℕ) : Type 0 where
  pub costs : (j : ℕ) → j < f.tasks * 16 → get_or cost j 0 ≡ cost_of energies exponent j
  pub work_size : length work ≡ length work₀
  pub holds : Table f cost load work
  pub above : (p : ℕ) → (f.tasks + 1) * f.columns ≤ p → get_or work p 0 ≡ get_or work₀ p 0
  pub least : FirstBelow (λ e. entry_of f cost load f.tasks e < f.cap) f.columns r

-- What the search for the unit asks.
pub record SearchReady (q : Request) (loads energies load work : List ℕ) : Type 0 where
  pub asked : Asked q loads energies
  pub energies_fit : Small energy_bound energies
  pub load_none : (k : ℕ) → get_or load k 0 ≡ 0
  pub work_room : work_words q.tasks q.slack ≤ length work

-- What it gives: the unit used, and its table with the least column.
pub record UnitUsed (q : Request) (loads energies work₀ load cost work : List ℕ) (u : Used) : Type 0 where
  pub exponent : ℕ
  pub unit_is : u.unit ≡ 2 ^ exponent
  pub used : IsUsedOf (Fitting (arrays q loads energies)) (arrays q loads energies) q.slack exponent
  pub loads_low : (j : ℕ) → get_or load j 0 ≤ q.limit + 1
  pub loads_cut : (j : ℕ) → j < q.tasks * 16 → get_or load j 0 ≡ cut_of loads (q.limit + 1) j
  pub costs : (j : ℕ) → j < q.tasks * 16 → get_or cost j 0 ≡ cost_of energies exponent j
  pub frame_is : u.frame ≡ frame_of q (q.limit + 1) u.frame.columns
  pub narrow : u.frame.columns ≤ last_column q.tasks q.slack + 1
  pub holds : Table (frame_of q (q.limit + 1) u.frame.columns) cost load work
  pub place : u.least < u.frame.columns
  pub some : entry_of (frame_of q (q.limit + 1) u.frame.columns) cost load q.tasks u.least < q.limit + 1
  pub before : (e : ℕ) → e < u.least → q.limit + 1 ≤ entry_of (frame_of q (q.limit + 1) u.frame.columns) cost load q.tasks e
  pub above : (p : ℕ) → work_words q.tasks q.slack ≤ p → get_or work p 0 ≡ get_or work₀ p 0
  pub work_size : length work ≡ length work₀
