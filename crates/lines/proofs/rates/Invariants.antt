-- A line for each rate. The loop's invariant: those of the tasks before `place` are taken, and the others have room.
-- Assumes nothing.
use Rattle.lines.proofs.Lengths.{RatesIn}
use Rattle.lines.proofs.rates.Given as goal

abbrev pub invariant-loop-place : goal.invariant-loop-place
invariant-loop-place g l = RatesIn g.S.Sink.fits g.S.Sink.takes l.initial.sink l.plan l.place l.sink
