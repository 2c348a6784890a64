use Rattle.std.proofs.Common.{arith}
use Rattle.lists.proofs.Rows.{part_each}
use Rattle.lists.proofs.put_each.Goals as goal

pub returns : goal.returns
returns g c word gives = part_each word _ _ _ _ _ (omega arith) (omega arith) (λ k h. gives _ _ (omega arith) (omega arith) (c.loop-i.invariant k (omega arith)))
