-- A line of two numbers, part by part.
-- Assumes nothing.
use Rattle.lines.proofs.pair.Goals as goal

-- The line that the parts make. It stands before what the calls ask, so that a part in a wrong place is refused here.
pub returns : goal.returns
returns g c = let laws = g.S.Sink.laws in
    laws.then c.put_bytes.ensures (laws.then c.put_number.ensures (laws.then c.put_field.ensures c.put_bytes-2.ensures))

pub put_bytes-requires : goal.put_bytes-requires
put_bytes-requires g c = let laws = g.S.Sink.laws in
    laws.front _ _ c.requires

pub put_number-requires : goal.put_number-requires
put_number-requires g c = let laws = g.S.Sink.laws in
    laws.front _ _ (laws.behind c.requires c.put_bytes.ensures)

pub put_field-requires : goal.put_field-requires
put_field-requires g c = let laws = g.S.Sink.laws in
    laws.front _ _ (laws.behind (laws.behind c.requires c.put_bytes.ensures) c.put_number.ensures)

pub put_bytes-requires-2 : goal.put_bytes-requires-2
put_bytes-requires-2 g c = let laws = g.S.Sink.laws in
    laws.behind (laws.behind (laws.behind c.requires c.put_bytes.ensures) c.put_number.ensures) c.put_field.ensures
