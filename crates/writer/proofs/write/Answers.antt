-- The call: checks 2 and 3, the bytes needed, check 6, and the text.
-- Assumes nothing.
use native.Mathlib.Omega.{arith}
use Rattle.std.proofs.lemmas.Result.{err_from_is_err_and}
use Rattle.writer.proofs.Calls.{counted, set_refused, too_short, wrote}
use Rattle.writer.proofs.write.Goals as goal

pub returns-in_err-counts : goal.returns-in_err-counts
returns-in_err-counts c = let a = c.args in
    let p = err_from_is_err_and c.from_residual.result c.from_residual.ensures.1 in
    rw (p.1, p.2) (set_refused a.set.now a.text.now _ c.in_err-counts.ensures)

pub invariant_of-listed : goal.invariant_of-listed
invariant_of-listed c = record { counts = counted _ _ _ c.in_ok-counts.ensures }

pub returns-then-text-needed : goal.returns-then-text-needed
returns-then-text-needed c =
    too_short _ c.args.text.now _ _ c.in_ok-counts.ensures _ c.count_text-needed.ensures c.if-text-needed.true

pub put_text-requires : goal.put_text-requires
put_text-requires c = omega (arith, c.count_text-needed.ensures, c.if-text-needed.false)

pub returns : goal.returns
returns c =
    wrote _ c.args.text.now _ _ c.in_ok-counts.ensures c.put_text.result c.put_text.new.buf
    (omega (arith, c.count_text-needed.ensures, c.if-text-needed.false)) c.put_text.ensures
