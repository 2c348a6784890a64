-- The walk's line, part by part.
-- Assumes nothing.
use Rattle.lines.specs.Lines.{walk_line}
use Rattle.lines.proofs.walk_line.Goals as goal

-- The line that the parts make. It stands before what the calls ask, so that a part in a wrong place is refused here.
pub returns : goal.returns
unfolding walk_line
returns g c = let laws = g.S.Sink.laws in
    laws.then c.put_field.ensures (laws.then c.put_field-2.ensures (laws.then c.put_field-3.ensures c.put_bytes.ensures))

pub put_field-requires : goal.put_field-requires
unfolding walk_line
put_field-requires g c = let laws = g.S.Sink.laws in
    laws.front _ _ c.requires

pub put_field-requires-2 : goal.put_field-requires-2
unfolding walk_line
put_field-requires-2 g c = let laws = g.S.Sink.laws in
    laws.front _ _ (laws.behind c.requires c.put_field.ensures)

pub put_field-requires-3 : goal.put_field-requires-3
unfolding walk_line
put_field-requires-3 g c = let laws = g.S.Sink.laws in
    laws.front _ _ (laws.behind (laws.behind c.requires c.put_field.ensures) c.put_field-2.ensures)

pub put_bytes-requires : goal.put_bytes-requires
unfolding walk_line
put_bytes-requires g c = let laws = g.S.Sink.laws in
    laws.behind (laws.behind (laws.behind c.requires c.put_field.ensures) c.put_field-2.ensures) c.put_field-3.ensures
