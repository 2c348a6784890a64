-- A task's line, part by part.
-- Assumes nothing.
use mathlib.Core.Path.{◌≡◌, ◌∙◌}
use mathlib.Core.List.{◌++◌}
use Rattle.numbers.specs.Numbers.{joined}
use Rattle.text.specs.Text.{bytes, spaced, task_text, shown, line_of}
use Rattle.writer.specs.Lines.{optional_text}
use Rattle.layout.specs.Words.{period, cycles, first}
use Rattle.layout.specs.declared.Layout.{Layout}
use Rattle.writer.proofs.Lists.{task_of, line_text, line_same, counts_of, at_ordinary}
use Rattle.writer.proofs.Listed.task_line.Given.{Over}
use Rattle.writer.proofs.Listed.task_line.Goals as goal
use Rattle.writer.proofs.Listed.task_line.Goals.{After-energies-energies, After-put_bytes}

-- What was taken from the list makes the task's line; it has room, and so has its end from the energies on.
is_line : (g : Over) (c : After-energies-energies g)
    → line_text c.from-period.result c.from-cycles.result c.energies-energies.result.now c.from-first.result ≡
    task_text (line_of c.args.self.now.set.words.now c.args.t)
is_line g c =
    line_same (task_of (counts_of c.args.self.now) c.args.t c.requires.has) (c.from-period.ensures ∙ at_ordinary (λ (l : Layout). period l c.args.self.now.set.words.now c.args.t) c.args.self.now c.period.ensures)
    (c.from-cycles.ensures ∙ at_ordinary (λ (l : Layout). cycles l c.args.self.now.set.words.now c.args.t) c.args.self.now c.cycles.ensures)
    c.energies-energies.ensures
    (c.from-first.ensures ∙ at_ordinary (λ (l : Layout). first l c.args.self.now.set.words.now c.args.t) c.args.self.now c.first.ensures)

has : (g : Over) (c : After-energies-energies g)
    → g.S.Sink.fits c.args.sink.now (line_text c.from-period.result c.from-cycles.result c.energies-energies.result.now c.from-first.result)
has g c = rw (← is_line g c) at c.requires.fits

has_end : (g : Over) (c : After-put_bytes g)
    → g.S.Sink.fits c.args.sink.now (line_text c.from-period.result c.from-cycles.result c.energies-energies.result.now c.from-first.result)
    → g.S.Sink.fits c.put_bytes.new.self (joined spaced c.energies-energies.result.now ++
    (bytes ")" ++ (optional_text (bytes " (from ") (bytes ")") (shown c.from-first.result) ++ bytes ")\n")))
has_end g c all = let laws = g.S.Sink.laws in
    laws.behind (laws.behind (laws.behind all c.put_field.ensures) c.put_field-2.ensures) c.put_bytes.ensures

pub put_field-requires : goal.put_field-requires
put_field-requires g c = let laws = g.S.Sink.laws in
    laws.front _ _ (has g (goal.at.put_field-requires g c).After-energies-energies)

pub put_field-requires-2 : goal.put_field-requires-2
put_field-requires-2 g c = let laws = g.S.Sink.laws in
    laws.front _ _ (laws.behind (has g (goal.at.put_field-requires-2 g c).After-energies-energies) c.put_field.ensures)

pub put_bytes-requires : goal.put_bytes-requires
put_bytes-requires g c = let laws = g.S.Sink.laws in
    laws.front _ _ (laws.behind (laws.behind
    (has g (goal.at.put_bytes-requires g c).After-energies-energies) c.put_field.ensures) c.put_field-2.ensures)

pub numbers-requires : goal.numbers-requires
numbers-requires g c = let laws = g.S.Sink.laws in
    laws.front _ _
    (has_end g (goal.at.numbers-requires g c).After-put_bytes (has g (goal.at.numbers-requires g c).After-energies-energies))

pub put_bytes-requires-2 : goal.put_bytes-requires-2
put_bytes-requires-2 g c = let laws = g.S.Sink.laws in
    laws.front _ _ (laws.behind
    (has_end g (goal.at.put_bytes-requires-2 g c).After-put_bytes (has g (goal.at.put_bytes-requires-2 g c).After-energies-energies))
    c.numbers.ensures)

pub shown-requires : goal.shown-requires
shown-requires g c = let laws = g.S.Sink.laws in
    laws.front _ _ (laws.behind (laws.behind
    (has_end g (goal.at.shown-requires g c).After-put_bytes (has g (goal.at.shown-requires g c).After-energies-energies))
    c.numbers.ensures) c.put_bytes-2.ensures)

pub put_bytes-requires-3 : goal.put_bytes-requires-3
put_bytes-requires-3 g c = let laws = g.S.Sink.laws in
    laws.behind (laws.behind (laws.behind
    (has_end g (goal.at.put_bytes-requires-3 g c).After-put_bytes (has g (goal.at.put_bytes-requires-3 g c).After-energies-energies))
    c.numbers.ensures) c.put_bytes-2.ensures) c.shown.ensures

pub returns : goal.returns
returns g c = let laws = g.S.Sink.laws in
    rw (← is_line g (goal.at.returns g c).After-energies-energies)
    (laws.then c.put_field.ensures
    (laws.then c.put_field-2.ensures
    (laws.then c.put_bytes.ensures
    (laws.then c.numbers.ensures
    (laws.then c.put_bytes-2.ensures
    (laws.then c.shown.ensures c.put_bytes-3.ensures))))))
