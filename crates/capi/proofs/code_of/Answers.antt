use native.Mathlib.Omega.{arith}
use Rattle.taskset.proofs.Unique.{number_range}
use Rattle.capi.proofs.code_of.Goals as goal

pub overflow_mul-result : goal.overflow_mul-result
overflow_mul-result c = omega (arith, c.number_of.ensures, (number_range c.args.r).1)

pub overflow_add-result : goal.overflow_add-result
overflow_add-result c = omega (arith, c.number_of.ensures, c.second_of.ensures, (number_range c.args.r).1, c.requires)
