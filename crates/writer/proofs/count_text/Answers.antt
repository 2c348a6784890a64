-- The text by the counter.
-- Assumes nothing.
use native.Mathlib.Omega.{arith}
use Rattle.writer.proofs.Lists.{text_short, counts_of}
use Rattle.writer.proofs.count_text.Goals as goal

pub text-requires : goal.text-requires
text-requires c = omega (arith, text_short (counts_of c.args.listed.now))
