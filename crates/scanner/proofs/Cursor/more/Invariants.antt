-- The digits after the first. The invariant: the digits from the place in hand on, after the value so far, give the
-- whole answer.
-- Assumes nothing.
use Prim.Native.Nat.{◌-◌, ◌<◌, ◌^◌}
use mathlib.Core.Path.{◌≡◌}
use lib.ListN.{length}
use Rattle.text.specs.Reading.{more, read_at}
use Rattle.scanner.proofs.Cursor.more.Given as goal

abbrev pub invariant-loop-d : goal.invariant-loop-d
invariant-loop-d l = record {
  fits : l.v < 2 ^ 32;
  same : l.here.text.now ≡ l.initial.here.text.now;
  rest : read_at (more l.first) l.initial.here.text.now l.initial.here.at ≡ read_at (more l.v) l.here.text.now l.here.at;
}

abbrev pub decreases-loop-d : goal.decreases-loop-d
decreases-loop-d l = length l.here.text.now - l.here.at
