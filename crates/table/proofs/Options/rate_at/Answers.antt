use mathlib.Core.Path.{refl}
use native.Mathlib.Omega.{arith}
use Rattle.table.proofs.Rates.{rate_from, rate_to, sum_fits, rate_pass, rate_hit}
use Rattle.table.proofs.Options.rate_at.Goals as goal
use Rattle.table.proofs.Options.rate_at.Goals.{else-c-column-via-then-c-column+else-d-start, else-c-column-via-else-c-column}
use Rattle.table.proofs.Options.rate_at.Goals.{else-loop-number-test, then-loop-number-test+else-c-column+else-number-number-end}

pub loop-number-init : goal.loop-number-init
loop-number-init c = rate_from c.args.self.framed c.requires

pub overflow_add-d : goal.overflow_add-d
overflow_add-d c = record { fits = sum_fits c.args.self.framed c.requires _ _ (omega arith) }

pub returns-then-d-start : goal.returns-then-d-start
returns-then-d-start c = (
  rate_hit c.args.self.framed c.requires refl c.loop-number.number (omega arith) (omega arith) c.loop-number.invariant
      c.if-c-column.true c.if-d-start.true,
  omega arith,
)

pub loop-number-preserved : goal.loop-number-preserved
loop-number-preserved c = let pass = rate_pass c.args.self.framed c.requires refl c.loop-number.number c.loop-number.invariant in
    elim c.else-c-column.branch [
      | else-c-column-via-then-c-column+else-d-start w ↦ pass (λ h q. w.if-d-start.false q)
      | else-c-column-via-else-c-column w ↦ pass (λ h q. omega (arith, w.if-c-column.false))
    ]

-- Some rate number makes the entry.
pub unreachable-requires : goal.unreachable-requires
unreachable-requires c = let pass = rate_pass c.args.self.framed c.requires refl c.loop-number.number c.loop-number.invariant in
    let last = rate_to c.args.self.framed c.requires in
    elim c.loop-number-test.branch [
      | else-loop-number-test w ↦ omega (arith, last)
      | then-loop-number-test+else-c-column+else-number-number-end w ↦
          elim w.else-c-column.branch [
            | else-c-column-via-then-c-column+else-d-start v ↦ omega (arith, last, pass (λ h q. v.if-d-start.false q))
            | else-c-column-via-else-c-column v ↦ omega (arith, last, pass (λ h q. omega (arith, v.if-c-column.false)))
          ]
    ]
