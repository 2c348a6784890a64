use mathlib.Core.Path.{sym, ◌∙◌}
use mathlib.Core.Logic.{inl, inr}
use native.Mathlib.Omega.{arith}
use Rattle.ticks.specs.Arrays.{blank}
use Rattle.ticks.proofs.Jobs.{left_jobs, none_left, pick_some, pick-none}
use Rattle.ticks.proofs.Scan.{scanned-first, scanned-end, scanned-take, scanned_pass}
use Rattle.ticks.proofs.pick.Goals as goal
use Rattle.ticks.proofs.pick.Goals.{then-l-gt0+then-d-when, else-l-gt0, else-l-gt0-via-then-l-gt0+else-d-when, else-l-gt0-via-else-l-gt0}

pub loop-i-init : goal.loop-i-init
loop-i-init c = (scanned-first _ _ _ _ c.requires.low, sym (none_left c.args.left.now c.args.due.now c.args.n))

pub loop-i-preserved : goal.loop-i-preserved
loop-i-preserved c = let k = c.loop-i in
    let lt = c.loop-i-test.true in
    let v = k.invariant.0 in
    elim c.if-l-gt0.branch [
      | then-l-gt0+then-d-when w ↦ (
        rw (w.best-is, w.when-is) (sym (scanned-take _ _ _ k.best.place k.when k.i lt w.if-l-gt0.true w.if-d-when.true) ∙ v),
        rw w.best-is (sym (left_jobs blank _ _ _ k.i lt)),
      )
      | else-l-gt0 w ↦ (
        rw (w.best-is, w.when-is)
            (sym (scanned_pass _ _ _ k.best.place k.when k.i lt
            (elim w.else-l-gt0.branch [
              | else-l-gt0-via-then-l-gt0+else-d-when w' ↦ inr w'.if-d-when.false
              | else-l-gt0-via-else-l-gt0 w' ↦ inl w'.if-l-gt0.false
            ])) ∙ v),
        rw w.best-is k.invariant.1,
      )
    ]

pub returns-then-best-gt0 : goal.returns-then-best-gt0
returns-then-best-gt0 c = let v = c.loop-i.invariant in
    pick_some _ _ _ _ (sym (scanned-end _ _ _ _ _ _ (omega arith) v.0)) v.1 c.if-best-gt0.true

pub returns-else-best-gt0 : goal.returns-else-best-gt0
returns-else-best-gt0 c = let v = c.loop-i.invariant in
    pick-none _ _ _ c.loop-i.best (sym (scanned-end _ _ _ _ _ _ (omega arith) v.0)) v.1 (omega (arith, c.if-best-gt0.false))
