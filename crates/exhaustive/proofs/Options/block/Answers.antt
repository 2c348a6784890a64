use Prim.Native.Nat.{◌+◌, ◌-◌}
use mathlib.Core.Path.{◌≡◌}
use native.Mathlib.Omega.{arith}
use Rattle.exhaustive.proofs.Order.{rank_below}
use Rattle.exhaustive.proofs.Hands.{block_change, block_turn}
use Rattle.exhaustive.proofs.Options.block.Goals as goal

pub change-requires : goal.change-requires
change-requires c = block_change c.args.self.posed c.requires c.loop-r.r (omega arith) (omega arith)

pub overflow_add-rank : goal.overflow_add-rank
overflow_add-rank c = let g = c.requires in
    omega (arith, rank_below _ _ g.plan g.hand.numbered, g.rank_is, c.args.self.posed.few)

pub loop-r-preserved : goal.loop-r-preserved
loop-r-preserved c =
    let next : c.args.rank + (c.loop-r.r - 1) + 1 ≡ c.args.rank + (c.loop-r.r + 1 - 1) = omega arith in
    (rw (← next) (block_turn c.args.self.posed c.requires c.loop-r.r (omega arith) (omega arith) c.change.ensures c.loop-r.invariant.0 c.look-best.ensures), omega arith)

pub returns-2 : goal.returns-2
returns-2 c =
    let last : c.args.rank + (c.loop-r.r - 1) + 1 ≡ c.args.rank + c.args.self.q.rates = omega arith in
    rw (← last) (block_turn c.args.self.posed c.requires c.loop-r.r (omega arith) (omega arith) c.change.ensures c.loop-r.invariant.0 c.look-best.ensures)
