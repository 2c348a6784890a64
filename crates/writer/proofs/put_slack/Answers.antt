-- The rest is the buffer of a sink, and is back.
-- Assumes nothing.
use Rattle.std.proofs.Common.{refl, rules}
use Rattle.printer.proofs.Puts.{from_front, front}
use Rattle.writer.proofs.put_slack.Goals as goal

pub slack_line-requires : goal.slack_line-requires
slack_line-requires c = from_front refl c.requires

pub returns : goal.returns
returns c = front (search rules) c.slack_line.ensures.added
