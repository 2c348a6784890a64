-- The rates' line, part by part.
-- Assumes nothing.
use mathlib.Core.List.{◌++◌}
use Rattle.numbers.specs.Numbers.{joined}
use Rattle.text.specs.Text.{bytes, spaced}
use Rattle.writer.specs.Lines.{rates_text}
use Rattle.writer.proofs.rates_line.Goals as goal

pub put_bytes-requires : goal.put_bytes-requires
unfolding rates_text
put_bytes-requires g c = g.S.Sink.laws.front _ (joined spaced c.args.rates.now ++ bytes ")\n") c.requires

pub numbers-requires : goal.numbers-requires
unfolding rates_text
numbers-requires g c = g.S.Sink.laws.front _ (bytes ")\n") (g.S.Sink.laws.behind c.requires c.put_bytes.ensures)

pub put_bytes-requires-2 : goal.put_bytes-requires-2
unfolding rates_text
put_bytes-requires-2 g c = g.S.Sink.laws.behind (g.S.Sink.laws.behind c.requires c.put_bytes.ensures) c.numbers.ensures

pub returns : goal.returns
unfolding rates_text
returns g c = g.S.Sink.laws.then c.put_bytes.ensures (g.S.Sink.laws.then c.numbers.ensures c.put_bytes-2.ensures)
