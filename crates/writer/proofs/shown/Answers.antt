-- A form, where its number is above 0.
-- Assumes nothing.
use Prim.Native.Nat.{◌<◌}
use native.Mathlib.Omega.{arith}
use Rattle.writer.proofs.Lists.{shown-none, shown_some}
use Rattle.writer.proofs.shown.Goals as goal

pub put_bytes-requires : goal.put_bytes-requires
put_bytes-requires g c = let laws = g.S.Sink.laws in
    let above : 0 < c.args.v = omega arith in
    laws.front _ _ (rw (shown_some c.args.front.now c.args.end.now c.args.v above) at c.requires)

pub put_number-requires : goal.put_number-requires
put_number-requires g c = let laws = g.S.Sink.laws in
    let above : 0 < c.args.v = omega arith in
    laws.front _ _ (laws.behind (rw (shown_some c.args.front.now c.args.end.now c.args.v above) at c.requires) c.put_bytes.ensures)

pub put_bytes-requires-then-v-ge-LEAST_SHOWN : goal.put_bytes-requires-then-v-ge-LEAST_SHOWN
put_bytes-requires-then-v-ge-LEAST_SHOWN g c = let laws = g.S.Sink.laws in
    let above : 0 < c.args.v = omega arith in
    laws.behind (laws.behind (rw (shown_some c.args.front.now c.args.end.now c.args.v above) at c.requires) c.put_bytes.ensures)
    c.put_number.ensures

pub returns-then-v-ge-LEAST_SHOWN : goal.returns-then-v-ge-LEAST_SHOWN
returns-then-v-ge-LEAST_SHOWN g c = let laws = g.S.Sink.laws in
    let above : 0 < c.args.v = omega arith in
    rw (shown_some c.args.front.now c.args.end.now c.args.v above)
    (laws.then c.put_bytes.ensures (laws.then c.put_number.ensures c.put_bytes-then-v-ge-LEAST_SHOWN.ensures))

pub returns-else-v-ge-LEAST_SHOWN : goal.returns-else-v-ge-LEAST_SHOWN
returns-else-v-ge-LEAST_SHOWN g c =
    let none = shown-none c.args.front.now c.args.end.now c.args.v (omega arith) in
    rw none (g.S.Sink.laws.none (rw none at c.requires))
