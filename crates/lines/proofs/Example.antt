-- Document 01's own lines are lines of these definitions.
-- Assumes nothing.
use Prim.Native.Nat.{ℕ}
use mathlib.Core.Path.{◌≡◌, refl}
use mathlib.Core.List.{List, [], ◌∷◌, ◌++◌}
use Rattle.text.specs.Text.{bytes, digits, decimal}
use Rattle.lines.specs.Lines.{plan_line, rate_line, rate_lines, walk_line, refused_line}

-- "All that it prints"
unfoldable pub printed : List ℕ
printed = bytes "(plan (unit 1) (load 29 30) (energy 41))\n(rate 1 2)\n(rate 2 1)\n(walk (busy 29) (idle 1) (preempted 1))\n"

pub printed_lines : printed ≡ plan_line 1 29 30 41 ++ (rate_lines 1 (2 ∷ 1 ∷ []) ++ walk_line 29 1 1)
unfolding printed plan_line rate_line walk_line decimal digits
printed_lines = refl

-- The lines of a text with the chip ppc405lp (document 02, note 2), and of its refusal 9.
unfoldable pub chip_printed : List ℕ
chip_printed = bytes "(plan (unit 128) (load 20 40) (energy 1680))\n(rate 1 2)\n(rate 2 2)\n(walk (busy 20) (idle 20) (preempted 0))\n"

pub chip_lines : chip_printed ≡ plan_line 128 20 40 1680 ++ (rate_lines 1 (2 ∷ 2 ∷ []) ++ walk_line 20 20 0)
unfolding chip_printed plan_line rate_line walk_line decimal digits
chip_lines = refl

pub refused_9_2 : refused_line 9 2 ≡ bytes "(refused 9 2)\n"
unfolding refused_line decimal digits
refused_9_2 = refl

-- The lines of a text with an idle line (note 4), and of its refusal 10.
unfoldable pub idle_printed : List ℕ
idle_printed = bytes "(plan (unit 1) (load 90 100) (energy 1010))\n(rate 1 1)\n(walk (busy 90) (idle 10) (preempted 0))\n"

pub idle_lines : idle_printed ≡ plan_line 1 90 100 1010 ++ (rate_lines 1 (1 ∷ []) ++ walk_line 90 10 0)
unfolding idle_printed plan_line rate_line walk_line decimal digits
idle_lines = refl

pub refused_10_9 : refused_line 10 9 ≡ bytes "(refused 10 9)\n"
unfolding refused_line decimal digits
refused_10_9 = refl

-- The lines of document 01's example with a first release (note 6): the walk's count to 60, twice the hyper-period.
unfoldable pub from_printed : List ℕ
from_printed = bytes "(plan (unit 1) (load 29 30) (energy 41))\n(rate 1 2)\n(rate 2 1)\n(walk (busy 55) (idle 5) (preempted 2))\n"

pub from_lines : from_printed ≡ plan_line 1 29 30 41 ++ (rate_lines 1 (2 ∷ 1 ∷ []) ++ walk_line 55 5 2)
unfolding from_printed plan_line rate_line walk_line decimal digits
from_lines = refl

-- "it prints only `(refused 7 0)`"
pub refused_7_0 : refused_line 7 0 ≡ bytes "(refused 7 0)\n"
unfolding refused_line decimal digits
refused_7_0 = refl
