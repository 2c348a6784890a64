-- The energies are those that the closure gives.
-- Assumes nothing.
use borrow.Author.Rules.{rules}
use Rattle.chips.specs.Chips.{chip_energy, chip_energies}
use Rattle.chips.proofs.put_energies.Goals as goal

pub returns : goal.returns
unfolding chip_energies
returns c = rw (← c.rate_count.ensures) (c.put_each.ensures (chip_energy c.args.chip c.args.cycles) (λ j r low high e. search rules))
