-- Power times job time, which has room in a word.
-- Assumes nothing.
use Prim.Native.Nat.{◌*◌}
use mathlib.Core.Path.{◌≡◌}
use native.Mathlib.Omega.{arith}
use Rattle.chips.specs.Chips.{chip_energy}
use Rattle.chips.proofs.Tables.{rate_range, energy-word}
use Rattle.chips.proofs.energy.Goals as goal

pub job_ticks-time-requires : goal.job_ticks-time-requires
job_ticks-time-requires c = omega (arith, rate_range c.args.chip c.args.r c.requires.0 c.requires.1)

pub overflow_mul-result : goal.overflow_mul-result
overflow_mul-result c =
    let product : let a = c.args in c.power.result * c.job_ticks-time.result ≡ chip_energy a.chip a.cycles a.r = rw (c.power.ensures, c.job_ticks-time.ensures, c.rate.ensures) in
    let a = c.args in
    let room = energy-word a.chip a.cycles a.r c.ranges.cycles.fits c.requires.0 c.requires.1 in
    record { fits = rw product room }

pub returns : goal.returns
returns c =
    let product : let a = c.args in c.power.result * c.job_ticks-time.result ≡ chip_energy a.chip a.cycles a.r = rw (c.power.ensures, c.job_ticks-time.ensures, c.rate.ensures) in
    product
