use Prim.Native.Nat.{ℕ, ◌+◌, ◌-◌, ◌≤◌, ◌<◌}
use mathlib.Core.Path.{◌≡◌, refl, sym, ap, ◌∙◌}
use mathlib.Core.Bool.{false}
use native.Mathlib.Omega.{arith}
use lib.ListN.{length}
use lib.Seq.{get_or-set_other}
use Rattle.schedule.specs.Walk.{Task, tasks_from, misses}
use Rattle.schedule.specs.Counted.{walk_from, missed}
use Rattle.ticks.specs.Arrays.{timing_at, task_at}
use Rattle.ticks.specs.declared.State.{State}
use Rattle.ticks.proofs.Releases.{Counted, counted_on, part_pass, part_take, part_miss, part_end, walk_from_miss, walk_from_kept}
use Rattle.ticks.proofs.Jobs.{early_set}
use Rattle.ticks.proofs.Stretches.{stretch_ready, stretch_on}
use Rattle.ticks.proofs.Loops.{steady, first_tick, turns_come, turn_over, stretch_comes, next_tick}
use Rattle.ticks.proofs.run.Goals as goal
use Rattle.ticks.proofs.run.Goals.{else-ticks-test, then-ticks-test+then-loop-i-test+then-s-i+then-is_late, then-ticks-test+else-loop-i-test+then-t-end, then-s-i+else-is_late, else-s-i, In-None}

-- Where no task was late, the loop over the ticks was left at `end`, after all turns.
record Over (k : ℕ → Task) (n end t : ℕ) (s : State) : Type 0 where
  here : t ≡ end
  on_time : misses (tasks_from k 0 n) t ≡ false
  counts : Counted k n t s

at_end : (c : In-None) →
    Over (task_at c.args.tasks.now) (length c.args.tasks.now) c.args.end c.ticks.t c.ticks-test.s
at_end c =
    elim c.ticks-test.branch [
      | else-ticks-test w ↦ absurd (omega (arith, c.ticks.invariant.reached, w.ticks-test.false))
      | then-ticks-test+then-loop-i-test+then-s-i+then-is_late w ↦ cc (w.late-is, c.in-None.is)
      | then-ticks-test+else-loop-i-test+then-t-end w ↦
          let v = w.loop-i.invariant in
          rw w.s-is
          (record {
            here = w.if-t-end.true;
            on_time = (part_end (omega (arith, v.inside, w.loop-i-test.false)) v.part).on_time;
            counts = v.counts;
          })
    ]

pub ticks-init : goal.ticks-init
ticks-init c = first_tick c.requires c.begin.ensures

pub loop-i-init : goal.loop-i-init
loop-i-init c = turns_come c.ticks.invariant

pub loop-i-preserved : goal.loop-i-preserved
loop-i-preserved c =
    let small : c.ticks.t ≤ 200000000 = omega (arith, c.ticks.invariant.reached, c.requires.ends) in
    let deadline : c.loop-i.i < length c.args.tasks.now → c.ticks.t + (timing_at c.args.tasks.now c.loop-i.i).period < 4294967295 = λ h. omega (arith, small, c.requires.period c.loop-i.i h) in
    let v = c.loop-i.invariant in
    let i = c.loop-i.i in
    let lt = c.loop-i-test.true in
    elim c.if-s-i.branch [
      | then-s-i+else-is_late b ↦
          rw b.s-is (turn_over v lt
          (part_take lt v.part (omega (arith, v.early)) (omega (arith, v.early)) (steady c.requires i lt)
          b.if-s-i.true (omega (arith, b.if-is_late.false)))
          (counted_on v.counts _ _) (early_set _ _ _ i _ _ (omega (arith, v.early)) (deadline lt) v.early)
          (λ j x. get_or-set_other c.loop-i.s.due i j _ 0 (λ e. absurd (omega arith))) (rw b.s-is at c.min-next.ensures))
      | else-s-i b ↦
          rw b.s-is (turn_over v lt (part_pass lt v.part b.if-s-i.false) v.counts v.early (λ j x. refl) (rw b.s-is at c.min-next.ensures))
    ]

pub loop-t-init : goal.loop-t-init
loop-t-init c =
    let turns-over : c.loop-i.i ≡ length c.args.tasks.now = omega (arith, c.loop-i.invariant.inside, c.loop-i-test.false) in
    let before-end : c.ticks.t < c.args.end = omega (arith, c.ticks.invariant.reached, c.if-t-end.false) in
    stretch_comes c.loop-i.invariant turns-over before-end

pub ticks-smaller : goal.ticks-smaller
ticks-smaller c =
    let before-end : c.ticks.t < c.args.end = omega (arith, c.ticks.invariant.reached, c.if-t-end.false) in
    let v = c.loop-i.invariant in
    omega (arith, before-end, v.ahead before-end, v.within, c.loop-t-test.false)

pub ticks-preserved : goal.ticks-preserved
ticks-preserved c =
    let turns-over : c.loop-i.i ≡ length c.args.tasks.now = omega (arith, c.loop-i.invariant.inside, c.loop-i-test.false) in
    let before-end : c.ticks.t < c.args.end = omega (arith, c.ticks.invariant.reached, c.if-t-end.false) in
    next_tick c.loop-i.invariant turns-over before-end c.ticks.invariant c.loop-t.invariant (omega (arith, c.loop-t-test.false))

pub tick-made-requires : goal.tick-made-requires
tick-made-requires c = stretch_ready c.loop-t.invariant c.loop-t-test.true (omega (arith, c.loop-i.invariant.within, c.requires.ends))

pub loop-t-preserved : goal.loop-t-preserved
loop-t-preserved c = stretch_on c.loop-t.invariant c.loop-t-test.true c.tick-made.ensures

pub returns-in-Some : goal.returns-in-Some
returns-in-Some c = let v = c.ticks.invariant in
    elim c.ticks-test.branch [
      | else-ticks-test w ↦ absurd (omega (arith, v.reached, w.ticks-test.false))
      | then-ticks-test+then-loop-i-test+then-s-i+then-is_late w ↦
          let here = w.loop-i in
          let lt = w.loop-i-test.true in
          let m = part_miss lt here.invariant.part (steady c.requires here.i lt) w.if-s-i.true w.if-is_late.true in
          let place : here.i ≡ c.in-Some.i = cc (w.late-is, c.in-Some.is) in
          rw (c.from.ensures, ← place) (sym v.rest ∙ walk_from_miss _ c.ticks.t (c.args.end - c.ticks.t) m.0 ∙ ap (missed c.ticks.t) m.1)
      | then-ticks-test+else-loop-i-test+then-t-end w ↦ cc (w.loop-i.invariant.on_time, w.late-is, c.in-Some.is)
    ]

pub returns-in-None : goal.returns-in-None
returns-in-None c =
    let o = at_end (goal.at.returns-in-None c).In-None in
    let z : c.args.end - c.ticks.t ≡ 0 = omega (arith, o.here) in
    rw (c.from-in-None.ensures, c.from-in-None-2.ensures, c.from-in-None-3.ensures, o.counts.busy, o.counts.idle, o.counts.preempted)
    (sym c.ticks.invariant.rest ∙ ap (walk_from _ c.ticks.t) z ∙ walk_from_kept _ c.ticks.t o.on_time)
