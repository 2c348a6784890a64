-- What the table's functions take and give, over selection's table theory. Not part of what a reader must believe.
use Rattle.std.specs.Prelude.{ℕ, ◌+◌, ◌-◌, ◌*◌, ◌^◌, ◌≤◌, ◌<◌, min, ◌≡◌, List, Option, MatchOption, length, get_or}
use Rattle.selection.proofs.Cells.{entry, rate_up_to}
use Rattle.engine.specs.Arrays.{option_at}
use Rattle.table.specs.declared.Frame.{Frame}

-- The table's entry in row i, the one after i tasks, column e.
abbrev pub entry_of : Frame → List ℕ → List ℕ → ℕ → ℕ → ℕ
entry_of f cost load = entry (option_at cost) (option_at load) f.rates f.cap

-- The word in column e of a row, or l more than the word c columns before it in the row before, where that is less.
abbrev pub relaxed : ℕ → ℕ → List ℕ → List ℕ → ℕ → ℕ
relaxed c l before row e = min (get_or row e 0) (get_or before (e - c) 0 + l)

-- The row before has the words that are read, and the sums fit.
pub record Relaxable (c l : ℕ) (before row : List ℕ) : Type 0 where
  pub words : length row ≤ length before
  pub sums : (e : ℕ) → e < length before → get_or before e 0 + l < 2 ^ 32

-- The sizes that every table keeps to, and loads that are cut at the cap.
pub record Framed (f : Frame) (load : List ℕ) : Type 0 where
  pub tasks : f.tasks ≤ 32
  pub rates : f.rates ≤ 8
  pub small : f.cap + f.cap < 2 ^ 32
  pub loads : (k : ℕ) → get_or load k 0 ≤ f.cap

-- The row from start on is row i.
abbrev pub RowAt : Frame → ℕ → ℕ → List ℕ → List ℕ → List ℕ → Type 0
RowAt f start i cost load d = (e : ℕ) → e < f.columns → get_or d (start + e) 0 ≡ entry_of f cost load i e

-- What a row asks: the row before the task, and as many words.
pub record RowReady (f : Frame) (task : ℕ) (cost load before words : List ℕ) : Type 0 where
  pub is_task : task < f.tasks
  pub before_size : length before ≡ f.columns
  pub prev : (e : ℕ) → e < f.columns → get_or before e 0 ≡ entry_of f cost load task e
  pub size : length words ≡ f.columns

-- What it gives: the row after the task.
pub record RowWritten (f : Frame) (task : ℕ) (cost load words : List ℕ) : Type 0 where
  pub size : length words ≡ f.columns
  pub next : (e : ℕ) → e < f.columns → get_or words e 0 ≡ entry_of f cost load (task + 1) e

-- What the table asks: its rows are within d.
pub record TableReady (f : Frame) (d : List ℕ) : Type 0 where
  pub words : (f.tasks + 1) * f.columns ≤ length d

-- d is d₀ with the rows 0 to n of the table at its front, and every other place as it was.
pub record Tabled (f : Frame) (n : ℕ) (cost load d₀ d : List ℕ) : Type 0 where
  pub same : length d ≡ length d₀
  pub cells : (i : ℕ) → i ≤ n → RowAt f (i * f.columns) i cost load d
  pub above : (p : ℕ) → (n + 1) * f.columns ≤ p → get_or d p 0 ≡ get_or d₀ p 0

-- The word in column e of the row from start on is not 'none'.
abbrev pub Defined : List ℕ → ℕ → ℕ → ℕ → Type 0
Defined d start cap e = get_or d (start + e) 0 < cap

-- The first number below n with P, where there is one.
abbrev pub FirstBelow : (ℕ → Type 0) → ℕ → Option ℕ → Type 0
FirstBelow P n r = MatchOption r ((k : ℕ) → k < n → P k → ⊥) (λ e. (e < n) × P e × ((k : ℕ) → k < e → P k → ⊥))

-- The lowest rate number of the task that makes the entry in column e of the row after it.
abbrev pub rate_of : Frame → List ℕ → List ℕ → ℕ → ℕ → ℕ
rate_of f cost load task e = rate_up_to (option_at cost) (option_at load) f.rates f.cap task e (f.rates + 1)

-- What the search for a rate asks: the rows before and after the task, from start on, and a column of the second that
-- is not 'none'.
pub record RateReady (f : Frame) (start column task : ℕ) (cost load d : List ℕ) : Type 0 where
  pub is_task : task < f.tasks
  pub rows : start + f.columns + f.columns ≤ length d
  pub prev : RowAt f start task cost load d
  pub next : RowAt f (start + f.columns) (task + 1) cost load d
  pub place : column < f.columns
  pub some : entry_of f cost load (task + 1) column < f.cap
