-- The slack's line, part by part.
-- Assumes nothing.
use Rattle.text.specs.Text.{bytes}
use Rattle.writer.specs.Lines.{slack_text}
use Rattle.writer.proofs.slack_line.Goals as goal

pub put_field-requires : goal.put_field-requires
unfolding slack_text
put_field-requires g c = g.S.Sink.laws.front _ (bytes ")\n") c.requires

pub put_bytes-requires : goal.put_bytes-requires
unfolding slack_text
put_bytes-requires g c = g.S.Sink.laws.behind c.requires c.put_field.ensures

pub returns : goal.returns
unfolding slack_text
returns g c = g.S.Sink.laws.then c.put_field.ensures c.put_bytes.ensures
