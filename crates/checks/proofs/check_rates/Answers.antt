use mathlib.Core.Path.{refl}
use mathlib.Core.Logic.{inl}
use native.Mathlib.Omega.{arith}
use Rattle.std.proofs.Common.{below_more}
use Rattle.checks.proofs.check_rates.Goals as goal

pub loop-q-init : goal.loop-q-init
loop-q-init c = λ j a f. absurd (omega (arith, f.0, c.rate_place-q.ensures))

pub returns-then-s-q : goal.returns-then-s-q
returns-then-s-q c = inl (
  refl,
  record {
    here = (omega (arith, c.rate_place-q.ensures), omega (arith, c.task_count_place-q-end.ensures, c.requires.counted), omega (arith, c.if-s-q.true));
    before = c.loop-q.invariant;
  },
)

pub loop-q-preserved : goal.loop-q-preserved
loop-q-preserved c = below_more _ _ c.loop-q.invariant (λ f. omega (arith, f.2, c.if-s-q.false))

pub returns : goal.returns
returns c = ((λ q h. c.loop-q.invariant q (omega (arith, h.here.1, c.requires.counted, c.task_count_place-q-end.ensures)) h.here), tt)
