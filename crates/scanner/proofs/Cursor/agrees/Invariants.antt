-- A fixed string with room for it. The invariant: the string stands there if the bytes passed agree, and what is left of
-- it stands behind them.
-- Assumes nothing.
use Prim.Native.Nat.{◌+◌}
use mathlib.Core.Path.{◌≡◌}
use mathlib.Core.Bool.{false, cond}
use lib.ListN.{drop}
use Rattle.scanner.specs.Steps.{taken}
use Rattle.text.specs.Reading.{literal, read_at}
use Rattle.scanner.proofs.Cursor.agrees.Given as goal

abbrev pub invariant-loop-j : goal.invariant-loop-j
invariant-loop-j l = taken (read_at (literal l.l) l.self.text.now l.self.at)
    ≡ cond l.same (taken (read_at (literal (drop l.j l.l)) l.self.text.now (l.self.at + l.j))) false
