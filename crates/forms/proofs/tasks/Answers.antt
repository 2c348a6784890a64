use Prim.Native.Nat.{ℕ, ◌-◌, ◌≤◌}
use mathlib.Core.Path.{◌≡◌, sym, ap, ◌∙◌}
use mathlib.Core.Bool.{true}
use native.Mathlib.Omega.{arith}
use lib.ListN.{length, drop}
use Rattle.layout.specs.Words.{most_rates, most_tasks, task_size, period_place}
use Rattle.layout.specs.declared.Layout.TheVariants.{Ordinary}
use Rattle.layout.proofs.Places.{before-end}
use Rattle.text.specs.Reading.{read_task, starts}
use Rattle.lists.specs.Writing.{written}
use Rattle.scanner.proofs.Places.{lost}
use Rattle.forms.specs.Forms.{rates_in, energies_in, words_by, no_value}
use Rattle.forms.proofs.Gives.{refuses, handed, told}
use Rattle.forms.proofs.Lists.{none_yet, one_more, refused, stopped, full}
use Rattle.forms.proofs.Words.{few_rates, task-words}
use Rattle.forms.proofs.tasks.Goals as goal
use Rattle.forms.proofs.tasks.Goals.{After-task, else-n-gt0-via-then-n-gt0+else-not-opens, else-n-gt0-via-else-n-gt0}

-- Behind the first an opening bracket begins the next task.
starting : (c : After-task) → let x = c.loop-n.text in 1 ≤ c.loop-n.n → starts 40 (drop x.at x.text.now) ≡ true
starting c l =
    elim c.else-n-gt0.branch [
      | else-n-gt0-via-then-n-gt0+else-not-opens w ↦ sym w.opens.ensures ∙ w.if-not-opens.false
      | else-n-gt0-via-else-n-gt0 w ↦ absurd (omega (arith, w.if-n-gt0.false))
    ]

pub loop-n-init : goal.loop-n-init
loop-n-init c = let k = c.args.clock in
    none_yet (read_task (energies_in k)) 40 1 31 (words_by k) (task_size Ordinary _) _ _ _

pub returns-then-not-opens : goal.returns-then-not-opens
returns-then-not-opens c =
    rw (← c.rate_count-m.ensures) (stopped c.loop-n.invariant (omega arith) (sym c.opens.ensures ∙ c.if-not-opens.true))

pub period_place-requires : goal.period_place-requires
period_place-requires c =
    let few : rates_in c.args.clock ≤ most_rates = few_rates c.args.clock c.requires.0 in
    omega (arith, c.rate_count-m.ensures, few)

pub task-requires : goal.task-requires
task-requires c =
    let size = task_size Ordinary (rates_in c.args.clock) in
    let there = c.period_place.ensures ∙ ap (λ (m : ℕ). period_place Ordinary m c.loop-n.n) c.rate_count-m.ensures in (
      c.requires.0,
      omega (
        arith,
        before-end most_tasks size c.loop-n.n (size - 1) (omega arith) (omega arith),
        there,
        c.requires.1,
        c.loop-n.invariant.same,
      ),
    )

pub returns-in_err-task : goal.returns-in_err-task
returns-in_err-task c = handed _ _ _ _ c.from_residual.ensures.1
    (refuses _ _ _ (refused c.loop-n.invariant (omega arith) (starting (goal.at.returns-in_err-task c).After-task)
    (lost no_value (read_task (energies_in c.args.clock)) c.in_err-task.ensures.reads)))

pub loop-n-preserved : goal.loop-n-preserved
loop-n-preserved c =
    let k = c.args.clock in
    let t = told no_value (words_by k) (read_task (energies_in k)) c.in_ok-task.ensures in
    let size : length (words_by k t.item) ≡ task_size Ordinary c.rate_count-m.result =
    task-words k t.item t.reads ∙ ap (task_size Ordinary) (sym c.rate_count-m.ensures) in
    one_more c.loop-n.invariant (omega arith) (starting (goal.at.loop-n-preserved c).After-task) t.item _ t.reads size
    (omega arith) c.task.auto.out (t.wrote ∙ ap (λ (v : ℕ). written v (words_by k t.item) c.loop-n.out) c.period_place.ensures)

pub returns : goal.returns
returns c = rw (← c.rate_count-m.ensures) (full c.loop-n.invariant (omega arith))
