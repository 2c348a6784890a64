-- The energies stand one after the other.
-- Assumes nothing.
use Prim.Native.Nat.{◌+◌, ◌-◌}
use native.Mathlib.Omega.{arith}
use Rattle.reader.proofs.Overs.{over_in, over_among}
use Rattle.reader.proofs.has_over.Goals as goal

pub returns : goal.returns
returns c = let e = c.any_over.ensures in
    let a = c.args in
    let first = c.energy_place-first.result in
    let n = first + a.m - first in (
      (λ b. over_in a.set.now a.m a.t first n c.energy_place-first.ensures (omega arith) c.requires (e.0 b)),
      (λ o. e.1 (over_among a.set.now a.m a.t first n c.energy_place-first.ensures (omega arith) c.requires o)),
    )
