use native.Mathlib.Omega.{arith}
use Rattle.lines.proofs.Lengths.{rates_none, rates_room, rates_more, rates_all}
use Rattle.lines.proofs.rates.Goals as goal

pub loop-place-init : goal.loop-place-init
loop-place-init g c = rates_none g.S.Sink.laws _ _ c.requires

-- It stands before what the call asks, so that a wrong number is refused here.
pub loop-place-preserved : goal.loop-place-preserved
loop-place-preserved g c = rates_more g.S.Sink.laws c.loop-place.invariant (omega arith) c.from.ensures c.rate.ensures

pub rate-requires : goal.rate-requires
rate-requires g c = rates_room g.S.Sink.laws c.loop-place.invariant (omega arith) c.from.ensures

pub returns : goal.returns
returns g c = rates_all g.S.Sink.laws c.loop-place.invariant (omega arith)
