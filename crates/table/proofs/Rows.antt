-- A row from the row before it, rate by rate, and the table row by row. Column e of row i is at i * columns + e.
-- Assumes nothing.
use Prim.Native.Nat.{ℕ, ◌+◌, ◌-◌, ◌*◌, ◌≤◌, ◌<◌, min}
use mathlib.Core.Path.{◌≡◌, sym, ap, ap₂, ◌∙◌}
use mathlib.Core.List.{List, ◌++◌}
use mathlib.Core.Logic.{⊎_elim}
use native.Mathlib.Nat.{mul-le-mul_right, suc-mul, zero-mul, zero-add}
use native.Mathlib.Numerals.{add-one}
use native.Mathlib.Omega.{arith}
use lib.ListN.{length, get_or, take, drop, replicate, get_or-replicate, length-replicate, length-take, get_or-append}
use Rattle.std.proofs.lemmas.List.{get_or-append_right}
use Rattle.std.proofs.lemmas.Grind.{common_steps}
use Rattle.numbers.proofs.Tests.{lt_or_le}
use Rattle.selection.proofs.Cells.{entry_first, entry_row, entry_cap, least_to, least_none, least_skip, least_step}
use Rattle.engine.specs.Arrays.{option_at, Written}
use Rattle.table.specs.declared.Frame.{Frame}
use Rattle.table.specs.Rows.{entry_of, Framed, relaxed, Relaxable, RowAt, RowReady, RowWritten, TableReady, Tabled}

-- ---- a row
-- Its words hold the least loads by the rate numbers below r.
pub record RowTo (f : Frame) (i : ℕ) (cost load : List ℕ) (r : ℕ) (d : List ℕ) : Type 0 where
  pub size : length d ≡ f.columns
  pub least : (e : ℕ) → e < f.columns
      → get_or d e 0 ≡ least_to (option_at cost) (option_at load) f.rates f.cap i e r

module _ {f : Frame} {i : ℕ} {cost load before d₀ : List ℕ} (framed : Framed f load) (g : RowReady f i cost load before d₀) where
  pub row_start : {d : List ℕ} → d ≡ replicate (length d₀) f.cap → RowTo f i cost load 1 d
  row_start q = record {
    size = ap length q ∙ length-replicate (length d₀) f.cap ∙ g.size;
    least = λ e x.
        ap (λ (y : List ℕ). get_or y e 0) q ∙ get_or-replicate (length d₀) e f.cap 0 (omega (arith, g.size)) ∙
        sym (least_none (option_at cost) (option_at load) f.rates f.cap i e);
  }

  module _ (r : ℕ) {d : List ℕ} (t : RowTo f i cost load r d) where
    -- A rate whose cost is beyond the row.
    pub row_skip : f.columns ≤ option_at cost i r → RowTo f i cost load (r + 1) d
    row_skip h = record {
      size = t.size;
      least = λ e x. t.least e x ∙ sym (least_skip (option_at cost) (option_at load) f.rates f.cap i e r (omega arith));
    }

    -- Any other rate.
    pub row_relaxable : (x : ℕ) → Relaxable (option_at cost i r) (get_or load x 0) before d
    row_relaxable x = record {
      words = omega (arith, t.size, g.before_size);
      sums = λ e h.
          omega (
            arith,
            framed.small,
            framed.loads x,
            g.prev e (omega (arith, g.before_size)),
            entry_cap (option_at cost) (option_at load) f.rates f.cap i e,
          );
    }

    pub row_turn : {d' : List ℕ} → 1 ≤ r
        → Written (relaxed (option_at cost i r) (option_at load i r) before d) (option_at cost i r) (length d) d d'
        → RowTo f i cost load (r + 1) d'
    row_turn {d'} l u = record {
      size = u.same ∙ t.size;
      least = λ e x.
          ⊎_elim
          (λ (h : e < option_at cost i r).
          u.below e h ∙ t.least e x ∙ sym (least_skip (option_at cost) (option_at load) f.rates f.cap i e r h))
          (λ (h : option_at cost i r ≤ e).
          u.here e h (omega (arith, t.size)) ∙
          ap₂ min (t.least e x) (ap (λ (y : ℕ). y + option_at load i r) (g.prev (e - option_at cost i r) (omega arith))) ∙
          sym (least_step (option_at cost) (option_at load) f.rates f.cap i e r l h))
          (lt_or_le e (option_at cost i r));
    }

    pub row_end : r ≡ f.rates + 1 → RowWritten f i cost load d
    row_end q = record {
      size = t.size;
      next = λ e x.
          t.least e x ∙ ap (least_to (option_at cost) (option_at load) f.rates f.cap i e) q ∙
          sym (entry_row (option_at cost) (option_at load) f.rates f.cap i e);
    }

-- ---- the table
-- The words of a list from lo on that are parted from it and written.
pub parted : (f : ℕ → ℕ) (lo n : ℕ) (d front rest w : List ℕ) → front ≡ take lo d → rest ≡ drop lo d → lo + n ≤ length d
    → length w ≡ n → ((e : ℕ) → e < n → get_or w e 0 ≡ f (lo + e)) → Written f lo (lo + n) d (front ++ (w ++ drop n rest))
parted f lo n d front rest w x y room size is = record {
  same = grind (arith, common_steps);
  here = λ p a b.
      let front_size : length front ≡ lo = omega (arith, ap length x, length-take lo d) in
      get_or-append_right front (w ++ drop n rest) lo p 0 front_size a ∙
      get_or-append w (drop n rest) 0 (p - lo) (omega arith) ∙ is (p - lo) (omega arith) ∙ ap f (omega arith);
  below = λ p a. grind (arith, common_steps);
  above = λ p a. grind (arith, common_steps);
}

pub next_row : (i columns : ℕ) → (i + 1) * columns ≡ i * columns + columns
next_row i columns = rw (add-one i) (suc-mul i columns)

place-before : (columns k i e : ℕ) → k ≤ i → e < columns → k * columns + e < (i + 1) * columns
place-before columns k i e h l = omega (arith, mul-le-mul_right columns h, next_row i columns)

pub row_within : (columns i tasks words : ℕ) → i < tasks → (tasks + 1) * columns ≤ words
    → (i + 1) * columns + columns ≤ words
row_within columns i tasks words h l =
    omega (arith, mul-le-mul_right {m = i + 1} {n = tasks} columns (omega arith), next_row (i + 1) columns, next_row tasks columns)

module _ {f : Frame} {cost load : List ℕ} where
  -- The first row is zeros.
  pub table_start : {d z : List ℕ} (n : ℕ) → z ≡ replicate n 0 → n ≡ f.columns → f.columns ≤ length d
      → Tabled f 0 cost load d (z ++ drop f.columns d)
  table_start {d} {z} n q m room = record {
    same = grind (arith, common_steps);
    cells = λ i h e x. let none : i ≡ 0 = omega arith in rw none (first e x);
    above = λ p h. grind (arith, common_steps);
  }
    where
      first : RowAt f (0 * f.columns) 0 cost load (z ++ drop f.columns d)
      first e x =
          rw (zero-mul f.columns, zero-add e) (grind (arith, common_steps, entry_first (option_at cost) (option_at load) f.rates f.cap e))

  -- A row more.
  pub table_more : {i : ℕ} {d₀ d d' : List ℕ} → Tabled f i cost load d₀ d
      → Written (λ p. entry_of f cost load (i + 1) (p - (i + 1) * f.columns)) ((i + 1) * f.columns) ((i + 1) * f.columns + f.columns) d d'
      → Tabled f (i + 1) cost load d₀ d'
  table_more {i} {d₀} {d} {d'} w r = record {
    same = r.same ∙ w.same;
    cells = λ k h e x.
        ⊎_elim
        (λ (s : k < i + 1).
        r.below (k * f.columns + e) (place-before f.columns k i e (omega arith) x) ∙ w.cells k (omega arith) e x)
        (λ (s : i + 1 ≤ k). let q : k ≡ i + 1 = omega arith in rw q (new e x))
        (lt_or_le k (i + 1));
    above = λ p h.
        r.above p (omega (arith, next_row (i + 1) f.columns)) ∙ w.above p (omega (arith, next_row (i + 1) f.columns));
  }
    where
      new : RowAt f ((i + 1) * f.columns) (i + 1) cost load d'
      new e x = r.here ((i + 1) * f.columns + e) (omega arith) (omega arith) ∙ ap (entry_of f cost load (i + 1)) (omega arith)

  -- The row is parted from the list, after the rows before it, and written.
  pub table_turn : {i : ℕ} {d₀ d front rest words : List ℕ} → Tabled f i cost load d₀ d → TableReady f d₀ → i < f.tasks
      → front ≡ take ((i + 1) * f.columns) d → rest ≡ drop ((i + 1) * f.columns) d → RowWritten f i cost load words
      → Tabled f (i + 1) cost load d₀ (front ++ (words ++ drop f.columns rest))
  table_turn {i} {d₀} {d} {front} {rest} {words} t g h x y r =
      table_more t
      (parted
      (λ p. entry_of f cost load (i + 1) (p - (i + 1) * f.columns))
      ((i + 1) * f.columns) f.columns d front rest words x y
      (omega (arith, t.same, row_within f.columns i f.tasks (length d₀) h g.words))
      r.size
      (λ e l. r.next e l ∙ ap (entry_of f cost load (i + 1)) (omega arith)))
