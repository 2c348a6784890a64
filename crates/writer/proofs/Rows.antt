-- Items in a row, which a sink takes one by one; and words that stand in a row of a list.
-- Assumes nothing.
use Prim.Native.Nat.{ℕ, ◌+◌, ◌-◌, ◌≤◌, ◌<◌}
use mathlib.Core.Path.{◌≡◌}
use mathlib.Core.List.{List, [], ◌++◌}
use native.Mathlib.Numerals.{add-one}
use native.Mathlib.Omega.{arith}
use lib.ListN.{length, get_or, take, drop}
use lib.Seq.{take-suc, take_at, take_all, drop-cons}
use Rattle.numbers.specs.Numbers.{each, joined}
use Rattle.numbers.proofs.Lists.{each-length, joined-one}
use Rattle.printer.specs.Sinks.{SinkLaws}
use Rattle.layout.specs.Words.{word}
use Rattle.text.proofs.RoundTrip.{row}

-- Of a row of items the first i are taken, and the others have room.
pub record InRow {S A : Type 0} (fits : S → List ℕ → Type 0) (takes : S → List ℕ → S → Type 0) (g : A → List ℕ)
    (s : S) (l : List A) (i : ℕ) (t : S) : Type 0 where
  pub taken : takes s (joined g (take i l)) t
  pub left : fits t (joined g (drop i l))

module _ {S A : Type 0} {fits : S → List ℕ → Type 0} {takes : S → List ℕ → S → Type 0} (laws : SinkLaws fits takes) (g : A → List ℕ) where
  pub row_none : (s : S) (l : List A) → fits s (joined g l) → InRow fits takes g s l 0 s
  row_none s l h = record { taken = laws.none (laws.front [] (joined g l) h); left = h }

  module _ {s t : S} {l : List A} {i : ℕ} (d : A) (row : InRow fits takes g s l i t) (h : i < length l) where
    -- Item i stands in front of what has room.
    next : fits t (g (get_or l i d) ++ joined g (drop (i + 1) l))
    next = rw add-one (rw (drop-cons l i d h) at row.left)

    pub row_room : fits t (g (get_or l i d))
    row_room = laws.front (g (get_or l i d)) (joined g (drop (i + 1) l)) next

    pub row_more : {u : S} → takes t (g (get_or l i d)) u → InRow fits takes g s l (i + 1) u
    row_more a = record {
      taken = rw (add-one i, take-suc l i d h, joined-one) (laws.then row.taken a);
      left = laws.behind next a;
    }

  pub row_all : {s t : S} {l : List A} {i : ℕ} → InRow fits takes g s l i t → length l ≤ i → takes s (joined g l) t
  row_all {s} {t} {l} {i} row h = rw (take_all i l h) at row.taken

-- The words from place a to place e are those that f gives from number i on, where it gives the word at place p + j for
-- number j.
pub part : (s : List ℕ) (f : ℕ → ℕ) (p : ℕ) → ((j : ℕ) → f j ≡ word s (p + j)) → (i n a e : ℕ)
    → a ≡ p + i → e ≡ p + i + n → e ≤ length s → take (e - a) (drop a s) ≡ each f i n
part s f p stands i n a e x y h =
    let size : e - a ≡ n = omega arith in
    rw (size, x, ← row s f p stands i n (omega arith)) (take_at (each f i n) (drop (p + i + n) s) n (each-length f i n))
