use Rattle.choice.proofs.Trying.{unit_tabled}
use Rattle.choice.proofs.least_energy.Goals as goal

pub returns : goal.returns
returns c = unit_tabled c.requires c.args.unit.exponent c.round_up.ensures c.table.ensures c.least_column.ensures
