use native.Mathlib.Omega.{arith}
use borrow.Author.Count.{below_more}
use Rattle.reader.proofs.Overs.{holds_each, numbered}
use Rattle.reader.proofs.first_over.Goals as goal

pub has_over-requires : goal.has_over-requires
has_over-requires c = holds_each _ _ _ c.loop-t.t c.requires (omega arith)

pub returns-then-has_over : goal.returns-then-has_over
returns-then-has_over c = numbered (omega arith) (c.has_over.ensures.0 c.if-has_over.true) c.loop-t.invariant

pub loop-t-preserved : goal.loop-t-preserved
loop-t-preserved c = below_more _ _ c.loop-t.invariant (λ o. let e = c.has_over.ensures.1 o in cc)

pub returns : goal.returns
returns c = λ t l. c.loop-t.invariant t (omega arith)
