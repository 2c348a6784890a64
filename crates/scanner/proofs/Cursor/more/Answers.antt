use mathlib.Core.Path.{refl, sym, ◌∙◌}
use native.Mathlib.Omega.{arith}
use Rattle.scanner.proofs.Classes.{no_digit, not_digit}
use Rattle.scanner.proofs.Places as laws
use Rattle.scanner.proofs.Cursor.more.Goals as goal

pub returns-then-w-ge4294967296 : goal.returns-then-w-ge4294967296
returns-then-w-ge4294967296 c = let x = c.loop-d.here in
    let i = c.loop-d.invariant in
    let over = laws.more-over x.text.now x.at c.in-Digit.d c.in-Digit.ensures c.loop-d.v (omega arith) in
    record { same = refl; answers = sym (i.rest ∙ over) }

pub loop-d-preserved : goal.loop-d-preserved
loop-d-preserved c = let x = c.loop-d.here in
    let i = c.loop-d.invariant in
    record {
      fits = omega arith;
      same = i.same;
      rest = i.rest ∙ laws.more_on x.text.now x.at c.in-Digit.d c.in-Digit.ensures c.loop-d.v c.if-w-ge4294967296.false;
    }

pub returns : goal.returns
returns c = let x = c.loop-d.here in
    let i = c.loop-d.invariant in
    let none = no_digit _ _ (not_digit _ _ c.step.result c.step.ensures c.in_default.not-Digit) in
    record { same = i.same; answers = sym (i.rest ∙ laws.more-ends x.text.now x.at none c.loop-d.v) }
