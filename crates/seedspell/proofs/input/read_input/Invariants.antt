-- The bytes that were read are within the array, and are the first that the reader had left. The measure is the room
-- and the retries that are left, together: a read that brings bytes lessens the first, one that is interrupted the
-- second.
use Rattle.std.proofs.Common.{◌+◌, ◌-◌, ◌≤◌, length, take}
use Rattle.std.specs.Io.KnownBytes.{Consumes}
use Rattle.seedspell.proofs.input.read_input.Given as goal

abbrev pub invariant-loop-n : goal.invariant-loop-n
invariant-loop-n g l = record {
  room : l.n ≤ 8192;
  within : l.n ≤ length l.bytes;
  taken : Consumes (g.R.Read.remaining l.initial.reader) (g.R.Read.remaining l.reader) (take l.n l.bytes);
}

abbrev pub decreases-loop-n : goal.decreases-loop-n
decreases-loop-n g l = (8192 - l.n) + l.retries
