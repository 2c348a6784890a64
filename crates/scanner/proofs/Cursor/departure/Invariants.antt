-- Where a text departs from a fixed string that does not stand there. The invariant: what is left of the string, read at
-- the place in hand, gives the whole answer.
-- Assumes nothing.
use Prim.Native.Nat.{◌-◌, ◌≤◌, max}
use mathlib.Core.Path.{◌≡◌}
use lib.ListN.{length, drop}
use Rattle.text.specs.Reading.{literal, read_at}
use Rattle.scanner.proofs.Cursor.departure.Given as goal

abbrev pub invariant-loop-i : goal.invariant-loop-i
invariant-loop-i l = record {
  most : l.i ≤ max l.self.at (length l.self.text.now);
  rest : read_at (literal l.l) l.self.text.now l.self.at ≡ read_at (literal (drop (l.i - l.self.at) l.l)) l.self.text.now l.i;
}
