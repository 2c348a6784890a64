-- A task: three steps, the words that their draws give, and where each is stored.
-- Assumes nothing.
use Rattle.std.proofs.Common.{ℕ, List, ap, ◌∙◌, arith, rules, length-set}
use Rattle.lists.specs.Writing.{written}
use Rattle.lists.proofs.Rows.{part_zeros}
use Rattle.draws.specs.Generated.{drawn_energy}
use Rattle.generator.proofs.Parts.{state_behind, task-words, task-written}
use Rattle.generator.proofs.put_task.Goals as goal

pub returns : goal.returns
returns c = let a = c.args in
    let one = c.next-first.ensures in
    let two = c.next-second.ensures in
    let three = c.next-third.ensures in
    let front = c.before_energies-before.ensures in (
      state_behind a.state _ _ _ one two three,
      task-written _ _ _ _ a.list.now _ _ a.at front (omega (arith, c.requires))
          (part_zeros _ _ _ _ _ (omega arith) (simp length-set (omega (arith, c.requires, front))) (c.fill.ensures.after (λ y e. e)))
          (c.put_each.ensures (drawn_energy c.draw-x.result) (λ j r low high e. search rules))
          ∙ ap (λ (ws : List ℕ). written a.at ws a.list.now)
          (task-words a.state _ _ _ one two three _ _ _ _ c.draw.ensures c.draw-2.ensures
          c.draw-x.ensures c.period-p.ensures),
    )
