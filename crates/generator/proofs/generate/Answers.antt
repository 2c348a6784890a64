-- The call: the checks, then the words.
-- Assumes nothing.
use Rattle.generator.proofs.Answers.{count_range, fits, wrote}
use Rattle.generator.proofs.generate.Goals as goal

pub put_set-requires : goal.put_set-requires
put_set-requires c = let a = c.args in
    ((count_range a.seed a.n a.list.now _ c.in_ok-length.ensures).1, fits a.seed a.n a.list.now _ c.in_ok-length.ensures)

pub returns : goal.returns
returns c = let a = c.args in
    wrote a.seed a.n a.list.now _ c.in_ok-length.ensures _ c.put_set.ensures
