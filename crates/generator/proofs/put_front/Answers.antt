-- The words before the tasks, stored one behind the other.
-- Assumes nothing.
use Rattle.std.proofs.Common.{refl, arith, length-set}
use Rattle.layout.specs.declared.Layout.TheVariants.{Ordinary}
use Rattle.layout.proofs.Layouts.{slack_in_head}
use Rattle.lists.proofs.Rows.{part_zeros}
use Rattle.draws.specs.Generated.{rate_of}
use Rattle.generator.proofs.Parts.{front_written}
use Rattle.generator.proofs.put_front.Goals as goal

pub returns : goal.returns
returns c =
    front_written c.args.n _ _ c.args.list.now _ _ c.head_size-head.ensures c.task_count_place.ensures c.requires
    (part_zeros _ _ 1 _ _ refl (simp length-set (omega (arith, c.requires, c.head_size-head.ensures, slack_in_head Ordinary))) (c.fill.ensures.after (λ y e. e)))
    (c.put_each.ensures rate_of (λ j r low high e. e))
