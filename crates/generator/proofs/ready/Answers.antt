-- The checks in their order.
-- Assumes nothing.
use Rattle.std.proofs.Common.{◌≡◌, true, sym, ◌∙◌, arith, rules}
use Rattle.numbers.specs.Numbers.{between}
use Rattle.numbers.proofs.Tests.{between_true}
use Rattle.layout.specs.Words.{most_tasks}
use Rattle.generator.proofs.Answers.{count_refused, room_refused, room-enough}
use Rattle.generator.proofs.ready.Goals as goal
use Rattle.generator.proofs.ready.Goals.{Else-not-contains}

-- The count has passed.
in_range : (c : Else-not-contains) → between 1 most_tasks c.args.n ≡ true
in_range c = let is : c.contains.result ≡ between 1 most_tasks c.args.n = search rules in sym is ∙ c.if-not-contains.false

pub returns-then-not-contains : goal.returns-then-not-contains
returns-then-not-contains c =
    let is : c.contains.result ≡ between 1 most_tasks c.args.n = search rules in
    count_refused _ _ (sym is ∙ c.if-not-contains.true)

pub period_place-needed-requires : goal.period_place-needed-requires
period_place-needed-requires c =
    let in_range = in_range (goal.at.period_place-needed-requires c).Else-not-contains in
    (omega arith, (between_true 1 most_tasks _ in_range).1)

pub returns-then-lent-needed : goal.returns-then-lent-needed
returns-then-lent-needed c =
    let in_range = in_range (goal.at.returns-then-lent-needed c).Else-not-contains in
    room_refused _ _ in_range _ c.period_place-needed.ensures c.if-lent-needed.true

pub returns : goal.returns
returns c =
    let in_range = in_range (goal.at.returns c).Else-not-contains in
    room-enough _ _ in_range _ c.period_place-needed.ensures (omega arith)
