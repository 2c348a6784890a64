use native.Mathlib.Omega.{arith}
use Rattle.layout.proofs.Layouts.{head_few, extra_few, task-words}
use Rattle.places.proofs.energy_place.Goals as goal

pub overflow_add-result : goal.overflow_add-result
overflow_add-result c = omega (arith, head_few c.args.layout, extra_few c.args.layout, task-words c.args.layout c.args.m c.args.t (omega arith) (omega arith))

pub overflow_add-result-2 : goal.overflow_add-result-2
overflow_add-result-2 c = omega (arith, head_few c.args.layout, extra_few c.args.layout, task-words c.args.layout c.args.m c.args.t (omega arith) (omega arith))

pub overflow_add-result-3 : goal.overflow_add-result-3
overflow_add-result-3 c = omega (arith, head_few c.args.layout, extra_few c.args.layout, task-words c.args.layout c.args.m c.args.t (omega arith) (omega arith))
