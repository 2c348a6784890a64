-- The first task's number; none, where nothing was worked out.
-- Assumes nothing.
use mathlib.Core.Path.{sym, subst}
use Rattle.reader.specs.Over.{NamesChip}
use Rattle.reader.proofs.Overs.{with_fact}
use Rattle.reader.proofs.over_task.Goals as goal

pub returns-in-Rates : goal.returns-in-Rates
returns-in-Rates c = λ t l h. subst NamesChip c.in-Rates.is h.0

pub returns-in-Named : goal.returns-in-Named
returns-in-Named c = with_fact _ _ c.first_over.result (subst NamesChip (sym c.in-Named.is) tt) c.first_over.ensures
