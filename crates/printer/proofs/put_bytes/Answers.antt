-- The front is the bytes, and what lies after stays.
-- Assumes nothing.
use Prim.Native.Nat.{ℕ}
use mathlib.Core.Path.{refl, ap}
use mathlib.Core.List.{List, ◌++◌}
use lib.ListN.{length, drop}
use Rattle.lists.specs.Writing.{placed}
use Rattle.printer.proofs.put_bytes.Goals as goal

pub returns : goal.returns
unfolding placed
returns c = let l = c.args.l.now in
    record { size = refl; is = ap (λ (z : List ℕ). z ++ drop (length l) c.args.buf.now) c.copy_from_slice.ensures.after }
