use native.Mathlib.Omega.{arith}
use Rattle.layout.proofs.Layouts.{head_few, extra_few, task-words}
use Rattle.places.proofs.first_place.Goals as goal

pub overflow_add-result : goal.overflow_add-result
overflow_add-result c = let a = c.args in
    omega (arith, head_few a.layout, extra_few a.layout, task-words a.layout a.m a.t (omega arith) (omega arith))
