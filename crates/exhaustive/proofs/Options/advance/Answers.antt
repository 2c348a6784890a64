use Prim.Native.Nat.{◌+◌}
use mathlib.Core.Path.{refl}
use native.Mathlib.Omega.{arith}
use lib.ListN.{get_or}
use Rattle.exhaustive.proofs.Hands.{change_ready, carry_start, carry_raise, carry_turn}
use Rattle.exhaustive.proofs.Options.advance.Goals as goal

pub loop-t-init : goal.loop-t-init
loop-t-init c = carry_start c.args.self.posed c.requires

pub change-requires : goal.change-requires
change-requires c = change_ready c.args.self.posed c.loop-t.invariant.hand c.loop-t.t (get_or c.loop-t.hand c.loop-t.t 0 + 1)
    c.loop-t-test.true (omega arith) (omega arith) refl (omega arith)

pub returns-then-r-self : goal.returns-then-r-self
returns-then-r-self c = carry_raise c.args.self.posed c.loop-t.invariant c.loop-t-test.true refl
    c.change.ensures _ refl (omega arith) (omega arith)

pub change-sums-requires : goal.change-sums-requires
change-sums-requires c = change_ready c.args.self.posed c.loop-t.invariant.hand c.loop-t.t 1
    c.loop-t-test.true (omega arith) c.args.self.posed.rates.0 refl refl

pub loop-t-preserved : goal.loop-t-preserved
loop-t-preserved c = carry_turn c.args.self.posed c.loop-t.invariant c.loop-t-test.true refl
    c.change-sums.ensures (omega arith) refl
