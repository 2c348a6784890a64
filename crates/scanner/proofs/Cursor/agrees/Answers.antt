use Prim.Native.Nat.{◌+◌}
use mathlib.Core.Path.{sym, ap, ◌∙◌}
use mathlib.Core.Bool.{Bool, false, cond}
use native.Mathlib.Omega.{arith}
use native.Mathlib.Nat.{add_assoc}
use Rattle.scanner.specs.Steps.{taken}
use Rattle.scanner.proofs.Places.{literal_done}
use Rattle.scanner.proofs.Strings.{one_more, cond_self}
use Rattle.scanner.proofs.Cursor.agrees.Goals as goal

pub loop-j-preserved : goal.loop-j-preserved
loop-j-preserved c = let x = c.args.self.now in
    let more = one_more c.args.l.now x.text.now (x.at + c.loop-j.j) c.loop-j.j c.loop-j.same (omega arith) (omega arith) in
    c.loop-j.invariant ∙ rw (add_assoc x.at c.loop-j.j 1) at more

pub returns : goal.returns
returns c = let x = c.args.self.now in
    let whole = ap taken (literal_done c.args.l.now x.text.now (x.at + c.loop-j.j) c.loop-j.j (omega arith)) in
    sym (c.loop-j.invariant ∙ ap (λ (b : Bool). cond c.loop-j.same b false) whole ∙ cond_self c.loop-j.same)
