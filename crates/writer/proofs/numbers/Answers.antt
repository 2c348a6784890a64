use native.Mathlib.Omega.{arith}
use Rattle.text.specs.Text.{spaced}
use Rattle.writer.proofs.Rows.{row_none, row_room, row_more, row_all}
use Rattle.writer.proofs.numbers.Goals as goal

pub loop-v-init : goal.loop-v-init
loop-v-init g c = row_none g.S.Sink.laws spaced _ _ c.requires

pub spaced-requires : goal.spaced-requires
spaced-requires g c = row_room g.S.Sink.laws spaced 0 c.loop-v.invariant (omega arith)

pub loop-v-preserved : goal.loop-v-preserved
loop-v-preserved g c = row_more g.S.Sink.laws spaced 0 c.loop-v.invariant (omega arith) c.spaced.ensures

pub returns : goal.returns
returns g c = row_all g.S.Sink.laws spaced c.loop-v.invariant (omega arith)
