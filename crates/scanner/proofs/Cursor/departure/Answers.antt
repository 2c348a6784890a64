use Prim.Native.Nat.{◌+◌, ◌-◌, ◌<◌}
use mathlib.Core.Path.{◌≡◌, sym, ap, ◌∙◌}
use native.Mathlib.Omega.{arith}
use lib.ListN.{length}
use Rattle.text.specs.Reading.{ext}
use Rattle.scanner.specs.Steps.{taken}
use Rattle.scanner.proofs.Places.{literal_on, literal_departs, literal-ends}
use Rattle.scanner.proofs.Strings.{left}
use Rattle.scanner.proofs.Cursor.departure.Goals as goal
use Rattle.scanner.proofs.Cursor.departure.Goals.{At-loop-i}

-- Some of the string is left.
on : (c : At-loop-i) → c.loop-i.i - c.args.self.at < length c.args.l.now
on c = left c.args.l.now c.args.self.text.now c.loop-i.i (c.loop-i.i - c.args.self.at)
    (sym (ap taken c.loop-i.invariant.rest) ∙ c.requires)

pub bounds-l-i : goal.bounds-l-i
bounds-l-i c = on (goal.at.bounds-l-i c).At-loop-i

pub returns-then-self-i : goal.returns-then-self-i
returns-then-self-i c = let x = c.args.self in
    sym (ap ext (c.loop-i.invariant.rest
    ∙ literal_departs c.args.l.now x.text.now c.loop-i.i (c.loop-i.i - x.at) (omega arith)
    (on (goal.at.returns-then-self-i c).At-loop-i) c.if-self-i.true))

pub loop-i-preserved : goal.loop-i-preserved
loop-i-preserved c = let x = c.args.self in
    let one : c.loop-i.i - x.at + 1 ≡ c.loop-i.i + 1 - x.at = omega arith in
    record {
      most = omega arith;
      rest = c.loop-i.invariant.rest
          ∙ rw one at (literal_on c.args.l.now x.text.now c.loop-i.i (c.loop-i.i - x.at) (omega arith)
          (on (goal.at.loop-i-preserved c).At-loop-i) c.if-self-i.false);
    }

pub returns : goal.returns
returns c = let x = c.args.self in
    let e = ap ext (c.loop-i.invariant.rest
    ∙ literal-ends c.args.l.now x.text.now c.loop-i.i (c.loop-i.i - x.at) (omega arith)
    (on (goal.at.returns c).At-loop-i)) in
    omega (arith, e)
