use Rattle.engine.specs.Arrays.{Written}
use Rattle.choice.specs.Units.{cut_of}
use Rattle.choice.proofs.cut.Given as goal

abbrev pub invariant-loop-k : goal.invariant-loop-k
invariant-loop-k l = Written (cut_of l.loads l.cap) 0 l.k l.initial.load l.load
