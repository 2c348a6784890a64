use Prim.Native.Nat.{ℕ, ◌+◌, ◌*◌, ◌<◌}
use mathlib.Core.Path.{◌≡◌, sym}
use mathlib.Core.List.{List}
use lib.ListN.{length, get_or, take, length-take}
use lib.Seq.{get_or-take}
use native.Mathlib.Omega.{arith}
use Rattle.numbers.specs.Numbers.{total}
use Rattle.numbers.proofs.Sums.{total-none}
use Rattle.engine.specs.Arrays.{option_at, load_bound}
use Rattle.engine.proofs.Adding.{sum_low, sum_turn}
use Rattle.engine.proofs.sum.Goals as goal

-- The sum with one task more, whose rate number is read from the first words of the plan.
turn : (options plan : List ℕ) (tasks t : ℕ) {s : ℕ} → s ≡ total (option_at options) t plan → t < length (take tasks plan)
    → s + get_or options (t * 16 + get_or (take tasks plan) t 0) 0 ≡ total (option_at options) (t + 1) plan
turn options plan tasks t e h =
    let lt : t < tasks = omega (arith, length-take tasks plan) in
    rw (get_or-take tasks plan t 0 lt) (sum_turn (option_at options) t plan e)

pub loop-t-init : goal.loop-t-init
loop-t-init c = sym (total-none _ _)

pub overflow_add-s-in-loop-t : goal.overflow_add-s-in-loop-t
overflow_add-s-in-loop-t c = let i = c.args in
    omega (
      arith,
      turn i.options.now i.plan.now i.tasks c.loop-t.t c.loop-t.invariant c.loop-t-test.true,
      sum_low load_bound i.options.now i.plan.now (c.loop-t.t + 1) c.requires.small (omega (arith, c.requires.few, length-take i.tasks i.plan.now)),
    )

pub loop-t-preserved : goal.loop-t-preserved
loop-t-preserved c = let i = c.args in turn i.options.now i.plan.now i.tasks c.loop-t.t c.loop-t.invariant c.loop-t-test.true
