-- The energies: as the line has them, or as the chip does.
-- Assumes nothing.
use mathlib.Core.Path.{refl}
use Rattle.forms.proofs.Gives.{gives}
use Rattle.forms.proofs.Words.{no_energies}
use Rattle.forms.proofs.energies.Goals as goal

pub energy_form-requires : goal.energy_form-requires
energy_form-requires c = let f = rw c.in-Rates.is at c.requires.0 in
    let room = rw c.in-Rates.is at c.requires.1 in
    (f.0, f.1, room)

pub put_energies-requires : goal.put_energies-requires
put_energies-requires c = rw c.in-Named.is at c.requires.1

pub returns-in-Rates : goal.returns-in-Rates
returns-in-Rates c = rw c.in-Rates.is c.energy_form.ensures

pub returns-in-Named : goal.returns-in-Named
returns-in-Named c = rw c.in-Named.is (gives _ _ _ (no_energies _) refl c.put_energies.ensures)
