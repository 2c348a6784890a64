use mathlib.Core.Path.{refl}
use mathlib.Core.Logic.{inl}
use native.Mathlib.Omega.{arith}
use Rattle.checks.proofs.Judging.{below_idle, none_below, none_below_more}
use Rattle.checks.proofs.check_idle.Goals as goal

pub loop-t-init : goal.loop-t-init
loop-t-init c = λ u e r a b x. absurd (omega arith)

pub returns-in-Some : goal.returns-in-Some
returns-in-Some c = let found = c.in-Some.ensures in
    rw c.energy_place-at.ensures
    (inl (refl, below_idle c.args.set.now.counts c.loop-t.invariant found.0 found.1 (omega arith)))

pub loop-t-preserved : goal.loop-t-preserved
loop-t-preserved c = none_below_more _ _ c.loop-t.invariant c.in_default.ensures

pub returns : goal.returns
returns c = (none_below c.args.set.now.counts c.loop-t.invariant (omega arith), tt)
