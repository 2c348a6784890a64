-- Numbers in a row. The loop's invariant: those before `v` are taken, and the others have room.
-- Assumes nothing.
use Rattle.text.specs.Text.{spaced}
use Rattle.writer.proofs.Rows.{InRow}
use Rattle.writer.proofs.numbers.Given as goal

abbrev pub invariant-loop-v : goal.invariant-loop-v
invariant-loop-v g l = InRow g.S.Sink.fits g.S.Sink.takes spaced l.initial.sink l.l l.v-index l.sink
