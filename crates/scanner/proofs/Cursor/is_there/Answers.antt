-- A string does not stand where there is no room for it.
-- Assumes nothing.
use mathlib.Core.Path.{sym}
use native.Mathlib.Omega.{arith}
use Rattle.scanner.proofs.Strings.{short}
use Rattle.scanner.proofs.Cursor.is_there.Goals as goal

pub returns-then-room-l : goal.returns-then-room-l
returns-then-room-l c = let x = c.args.self.now in sym (short c.args.l.now x.text.now x.at (omega arith))
