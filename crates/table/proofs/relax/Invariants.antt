use Rattle.engine.specs.Arrays.{Written}
use Rattle.table.specs.Rows.{relaxed}
use Rattle.table.proofs.relax.Given as goal

abbrev pub invariant-loop-e : goal.invariant-loop-e
invariant-loop-e l = Written (relaxed l.c l.l l.before l.initial.row) l.c l.e l.initial.row l.row
