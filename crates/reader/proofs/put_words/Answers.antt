-- The words are copied as a whole.
-- Assumes nothing.
use mathlib.Core.List.{List, ◌++◌}
use Prim.Native.Nat.{ℕ}
use mathlib.Core.Path.{refl, ap}
use lib.ListN.{length, drop}
use Rattle.lists.specs.Writing.{placed}
use Rattle.reader.proofs.put_words.Goals as goal

pub returns : goal.returns
unfolding placed
returns c = (refl, ap (λ (z : List ℕ). z ++ drop (length c.args.l.now) c.args.out.now) c.copy_from_slice.ensures.after)
