-- The tasks. The invariant: the tasks so far are in place, and with those that are left, read at the place in hand,
-- they give the whole answer.
-- Assumes nothing.
use Rattle.layout.specs.Words.{tasks_place, task_size}
use Rattle.layout.specs.declared.Layout.TheVariants.{Ordinary}
use Rattle.text.specs.Reading.{read_task}
use Rattle.forms.specs.Forms.{energies_in, words_by}
use Rattle.forms.proofs.Lists.{SoFar}
use Rattle.forms.proofs.tasks.Given as goal

abbrev pub invariant-loop-n : goal.invariant-loop-n
invariant-loop-n l = SoFar (read_task (energies_in l.clock)) 40 1 31 (words_by l.clock) (task_size Ordinary l.m)
    l.initial.text (tasks_place Ordinary l.m) l.initial.out l.text l.n l.out
