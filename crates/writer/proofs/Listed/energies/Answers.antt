-- The energies stand in a row.
-- Assumes nothing.
use mathlib.Core.Path.{refl}
use native.Mathlib.Omega.{arith}
use Rattle.writer.proofs.Lists.{counts_of, task_of, task_few, task_inside, energies_are}
use Rattle.writer.proofs.Listed.energies.Goals as goal

pub energy_place-start-requires : goal.energy_place-start-requires
energy_place-start-requires c = let few = task_few (task_of (counts_of c.args.self.now) c.args.t c.requires) in (few.0, few.1, omega arith)

pub overflow_add-end : goal.overflow_add-end
overflow_add-end c = omega (arith, task_inside (task_of (counts_of c.args.self.now) c.args.t c.requires))

pub offset_bounds-self-start : goal.offset_bounds-self-start
offset_bounds-self-start c = omega (arith, task_inside (task_of (counts_of c.args.self.now) c.args.t c.requires))

pub slice_bounds-result-end : goal.slice_bounds-result-end
slice_bounds-result-end c = omega (arith, task_inside (task_of (counts_of c.args.self.now) c.args.t c.requires))

pub returns : goal.returns
returns c = energies_are (task_of (counts_of c.args.self.now) c.args.t c.requires) _ _ c.energy_place-start.ensures refl
