use Prim.Native.Nat.{◌*◌}
use mathlib.Core.Path.{◌≡◌, refl, ap₂, ◌∙◌}
use native.Mathlib.Omega.{arith}
use Rattle.numbers.proofs.Searches.{found_here, found_end, none_more}
use Rattle.layout.specs.Words.{idle}
use Rattle.taskset.specs.Quantities.{job_time}
use Rattle.checks.proofs.below_rate.Goals as goal
use Rattle.checks.proofs.below_rate.Goals.{After-from}

drawn : (c : After-from)
    → c.from-idle.result * c.from.result ≡ idle c.args.set.now.words.now * job_time c.args.set.now.layout c.args.set.now.words.now c.args.t c.loop-r.r
drawn c = ap₂ ◌*◌ (c.from-idle.ensures ∙ c.idle.ensures) (c.from.ensures ∙ c.job_time.ensures)

pub loop-r-init : goal.loop-r-init
loop-r-init c = λ k a b. absurd (omega arith)

pub returns-then-energy-drawn : goal.returns-then-energy-drawn
returns-then-energy-drawn c = let d = drawn (goal.at.returns-then-energy-drawn c).After-from in
    (found_here (omega arith) c.loop-r.invariant (omega arith) (omega (arith, d)), omega arith)

pub loop-r-preserved : goal.loop-r-preserved
loop-r-preserved c = let d = drawn (goal.at.loop-r-preserved c).After-from in
    none_more (omega arith) c.loop-r.invariant (λ h. omega (arith, d))

pub returns-else-energy-drawn : goal.returns-else-energy-drawn
returns-else-energy-drawn c = let d = drawn (goal.at.returns-else-energy-drawn c).After-from in
    let last : c.args.set.now.rates ≡ c.loop-r.r = omega arith in
    rw last (found_end (omega arith) (none_more (omega arith) c.loop-r.invariant (λ h. omega (arith, d))) refl)
