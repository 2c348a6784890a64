-- The set that was read, and its lines; or the line of the reader's refusal.
-- Assumes nothing.
use mathlib.Core.Path.{refl}
use native.Mathlib.Omega.{arith}
use Rattle.taskset.specs.Refusals.{number, second}
use Rattle.lines.proofs.Lengths.{refused_short}
use Rattle.answer.proofs.Calls.{read_set, text_refused}
use Rattle.answer.proofs.answer_text.Goals as goal

pub put_refused-requires : goal.put_refused-requires
put_refused-requires c = let r = c.in-Err.r in
    omega (arith, refused_short (number r) (second r))

pub returns-in-Ok : goal.returns-in-Ok
returns-in-Ok c = read_set _ _ _ refl _ _ _ _ c.in-Ok.ensures c.answer_set.ensures

pub returns-in-Err : goal.returns-in-Err
returns-in-Err c = text_refused _ _ _ refl c.in-Err.r _ _ _ c.in-Err.ensures c.put_refused.ensures
