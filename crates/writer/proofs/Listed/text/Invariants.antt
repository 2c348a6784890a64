-- The tasks' lines. The loop's invariant: those before `t` are taken, and the others have room.
-- Assumes nothing.
use Rattle.text.specs.Text.{task_text, script_of}
use Rattle.writer.proofs.Rows.{InRow}
use Rattle.writer.proofs.Listed.text.Given as goal

abbrev pub invariant-loop-t : goal.invariant-loop-t
invariant-loop-t g l = InRow g.S.Sink.fits g.S.Sink.takes task_text l.initial.sink (script_of l.self.set.words.now).tasks l.t l.sink
