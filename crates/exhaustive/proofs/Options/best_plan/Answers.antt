use native.Mathlib.Omega.{arith}
use Rattle.exhaustive.proofs.Seeing.{seen_end}
use Rattle.exhaustive.proofs.Hands.{going_start, going_block, going_turn}
use Rattle.exhaustive.proofs.Options.best_plan.Goals as goal

pub loop-rank-init : goal.loop-rank-init
loop-rank-init c = going_start c.args.self.q c.args.self.posed c.first_sums-s.ensures

pub block-best-requires : goal.block-best-requires
block-best-requires c = going_block c.args.self.posed c.loop-rank.invariant (omega (arith, c.requires))

pub loop-rank-preserved : goal.loop-rank-preserved
loop-rank-preserved c = going_turn c.args.self.posed c.loop-rank.invariant (omega (arith, c.requires)) c.block-best.ensures
    c.advance-s.ensures

pub returns : goal.returns
returns c = seen_end _ _ _ c.loop-rank.invariant.seen (omega (arith, c.requires))

pub returns-2 : goal.returns-2
returns-2 c = seen_end _ _ _ c.block-best.ensures (omega (arith, c.requires))
