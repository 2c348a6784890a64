use mathlib.Core.Path.{refl}
use native.Mathlib.Omega.{arith}
use Rattle.layout.proofs.Layouts.{head_few, task-words}
use Rattle.places.proofs.period_place.Goals as goal

pub overflow_mul-result : goal.overflow_mul-result
overflow_mul-result c = rw c.task_size.ensures (omega (arith, task-words c.args.layout c.args.m c.args.t (omega arith) (omega arith)))

pub overflow_add-result : goal.overflow_add-result
overflow_add-result c = rw (c.task_size.ensures, c.tasks_place.ensures) (omega (arith, head_few c.args.layout, task-words c.args.layout c.args.m c.args.t (omega arith) (omega arith)))

pub returns : goal.returns
returns c = rw (c.task_size.ensures, c.tasks_place.ensures) refl
