use native.Mathlib.Omega.{arith}
use lib.ListN.{length-take}
use Rattle.table.proofs.Rows.{table_start, table_turn, next_row}
use Rattle.table.proofs.Options.table.Goals as goal

pub loop-task-init : goal.loop-task-init
loop-task-init c =
    let room = next_row c.args.self.frame.tasks c.args.self.frame.columns in
    table_start _ (c.fill.ensures.after (λ y h. h))
    (omega (arith, c.requires.words, room, length-take c.args.self.frame.columns c.args.d.now))
    (omega (arith, c.requires.words, room))

pub loop-task-preserved : goal.loop-task-preserved
loop-task-preserved c = let s = c.split_at_mut-front.ensures in
    table_turn c.loop-task.invariant c.requires (omega arith) s.front s.back c.row.ensures
