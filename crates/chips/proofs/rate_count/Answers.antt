use mathlib.Core.Path.{ap, ◌∙◌}
use lib.ListN.{length}
use Rattle.chips.proofs.Tables.{rates-length}
use Rattle.chips.proofs.rate_count.Goals as goal

pub returns : goal.returns
returns c = ap length c.rates.ensures ∙ rates-length c.args.chip
