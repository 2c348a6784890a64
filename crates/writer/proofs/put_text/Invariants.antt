-- The tasks' lines. The loop's invariant: those before `t` stand behind the other forms, and the others have room.
-- Assumes nothing.
use Rattle.text.specs.Text.{task_text, script_of}
use Rattle.writer.proofs.Rows.{InRow}
use Rattle.writer.proofs.Rests.{RestFits, RestTakes}
use Rattle.writer.proofs.put_text.Given as goal

abbrev pub invariant-loop-t : goal.invariant-loop-t
invariant-loop-t l = InRow RestFits RestTakes task_text (l.initial.buf, l.initial.n) (script_of l.listed.set.words.now).tasks l.t (l.buf, l.n)
