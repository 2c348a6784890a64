use mathlib.Core.Path.{refl, sym, ◌∙◌}
use mathlib.Core.Logic.{inl}
use native.Mathlib.Omega.{arith}
use Rattle.numbers.proofs.Multiples.{running_none}
use Rattle.checks.proofs.Following.{all_followed, divisor_asked, divisor_positive, passed_here, next_turn, product_fits}
use Rattle.checks.proofs.check_hyper.Goals as goal

pub loop-t-init : goal.loop-t-init
loop-t-init c = record {
  value = sym (running_none _);
  least = omega arith;
  most = omega arith;
  none = λ k a w. absurd (omega arith);
}

pub common_divisor-requires : goal.common_divisor-requires
common_divisor-requires c =
    divisor_asked c.args.set.now.counts c.loop-t.invariant c.loop-t-test.true (c.from-p.ensures ∙ c.period.ensures)

pub nonzero_div-next : goal.nonzero_div-next
nonzero_div-next c =
    divisor_positive c.args.set.now.counts c.loop-t.invariant c.loop-t-test.true (c.from-p.ensures ∙ c.period.ensures)
    c.common_divisor.ensures.0

pub overflow_mul-next : goal.overflow_mul-next
overflow_mul-next c = record { fits = product_fits c.loop-t.hyper c.common_divisor.result.value c.from-p.result c.loop-t.invariant.most (omega arith) }

pub returns-then-is_long : goal.returns-then-is_long
returns-then-is_long c =
    rw c.period_place-at.ensures
    (inl (
      refl,
      passed_here c.args.set.now.counts c.loop-t.invariant c.loop-t-test.true (c.from-p.ensures ∙ c.period.ensures)
          c.common_divisor.ensures.0 c.if-is_long.true,
    ))

pub loop-t-preserved : goal.loop-t-preserved
loop-t-preserved c =
    next_turn c.args.set.now.counts c.loop-t.invariant c.loop-t-test.true (c.from-p.ensures ∙ c.period.ensures)
    c.common_divisor.ensures.0 c.if-is_long.false

pub returns : goal.returns
returns c = all_followed c.args.set.now.counts c.loop-t.invariant (omega arith) (omega arith)
