-- The lines of a plan: each goes behind those before it.
-- Assumes nothing.
use Rattle.std.proofs.Common.{refl, rules}
use Rattle.printer.specs.Taken.{buffer_laws}
use Rattle.printer.proofs.Puts.{from_front, front}
use Rattle.lines.proofs.put_plan.Goals as goal

-- The lines that they make. They stand before what the calls ask, so that a number in a wrong place is refused here.
pub returns : goal.returns
returns c = front (search rules) (buffer_laws.then c.plan_line.ensures (buffer_laws.then c.rates.ensures c.walk_line.ensures)).added

pub plan_line-requires : goal.plan_line-requires
plan_line-requires c = buffer_laws.front _ _ (from_front refl c.requires)

pub rates-requires : goal.rates-requires
rates-requires c = buffer_laws.front _ _ (buffer_laws.behind (from_front refl c.requires) c.plan_line.ensures)

pub walk_line-requires : goal.walk_line-requires
walk_line-requires c = buffer_laws.behind (buffer_laws.behind (from_front refl c.requires) c.plan_line.ensures) c.rates.ensures
