-- The whole text, form by form.
-- Assumes nothing.
use mathlib.Core.Path.{refl, ◌∙◌}
use native.Mathlib.Omega.{arith}
use Rattle.text.specs.Text.{task_text, line_of}
use Rattle.writer.proofs.Rows.{row_none, row_room, row_more, row_all}
use Rattle.writer.proofs.Lists.{cut, tasks-count, line_is, counts_of}
use Rattle.writer.proofs.Listed.text.Goals as goal

pub slack_line-requires : goal.slack_line-requires
slack_line-requires g c = g.S.Sink.laws.front _ _ (rw (cut c.args.self.now.set.words.now (c.from.ensures ∙ c.slack.ensures) refl refl) at c.requires)

pub idle_line-requires : goal.idle_line-requires
idle_line-requires g c = let laws = g.S.Sink.laws in
    let has = rw (cut c.args.self.now.set.words.now (c.from.ensures ∙ c.slack.ensures) (c.from-2.ensures ∙ c.idle.ensures) refl) at c.requires in
    laws.front _ _ (laws.behind has c.slack_line.ensures)

pub rates_line-requires : goal.rates_line-requires
rates_line-requires g c = let laws = g.S.Sink.laws in
    let has = rw (cut c.args.self.now.set.words.now (c.from.ensures ∙ c.slack.ensures) (c.from-2.ensures ∙ c.idle.ensures) c.rates.ensures)
    at c.requires in
    laws.front _ _ (laws.behind (laws.behind has c.slack_line.ensures) c.idle_line.ensures)

pub loop-t-init : goal.loop-t-init
loop-t-init g c = let laws = g.S.Sink.laws in
    let has = rw (cut c.args.self.now.set.words.now (c.from.ensures ∙ c.slack.ensures) (c.from-2.ensures ∙ c.idle.ensures) c.rates.ensures)
    at c.requires in
    row_none laws task_text _ _ (laws.behind (laws.behind (laws.behind has c.slack_line.ensures) c.idle_line.ensures) c.rates_line.ensures)

pub task_line-requires-clause-fits : goal.task_line-requires-clause-fits
task_line-requires-clause-fits g c =
    rw (line_is (counts_of c.args.self.now) c.loop-t.t (omega arith)) at
    (row_room g.S.Sink.laws task_text (line_of c.args.self.now.set.words.now c.loop-t.t) c.loop-t.invariant
    (omega (arith, tasks-count (counts_of c.args.self.now))))

pub loop-t-preserved : goal.loop-t-preserved
loop-t-preserved g c =
    row_more g.S.Sink.laws task_text (line_of c.args.self.now.set.words.now c.loop-t.t) c.loop-t.invariant
    (omega (arith, tasks-count (counts_of c.args.self.now)))
    (rw (line_is (counts_of c.args.self.now) c.loop-t.t (omega arith)) c.task_line.ensures)

pub returns : goal.returns
returns g c = let laws = g.S.Sink.laws in
    let tasks = row_all laws task_text c.loop-t.invariant (omega (arith, tasks-count (counts_of c.args.self.now))) in
    rw (cut c.args.self.now.set.words.now (c.from.ensures ∙ c.slack.ensures) (c.from-2.ensures ∙ c.idle.ensures) c.rates.ensures)
    (laws.then c.slack_line.ensures (laws.then c.idle_line.ensures (laws.then c.rates_line.ensures tasks)))
