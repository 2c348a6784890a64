-- What the call wrote stands at the front of the output, which has room for every answer.
use Rattle.std.proofs.Common.{arith}
use Rattle.answer.proofs.Outputs.{never_short}
use Rattle.taskset.proofs.Copied.{count-within}
use Rattle.seedspell.proofs.answer_bytes.Goals as goal

pub returns : goal.returns
returns c =
    let responds = c.in-Ok.ensures in
    record {
      within = count-within responds.gives.0 _ _ _ responds.gives.3;
      prints = responds.owes.0;
      owes = responds.owes.1;
    }

pub unreachable-requires : goal.unreachable-requires
unreachable-requires c = never_short _ _ _ _ (omega arith) c.in-Err.ensures
