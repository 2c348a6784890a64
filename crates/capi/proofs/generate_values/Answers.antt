-- Each exit is the entry's.
-- Assumes nothing.
use Rattle.std.proofs.lemmas.Result.{err_from_is_err_and}
use borrow.Author.Rules.{rules}
use Rattle.generator.proofs.Answers.{count_range, fits}
use Rattle.entries.proofs.GenerateEntries.{checks_refused, bytes_refused, words_answered}
use Rattle.capi.proofs.generate_values.Goals as goal

pub returns-in_err-needed : goal.returns-in_err-needed
returns-in_err-needed c = let a = c.args in
    let p = err_from_is_err_and c.from_residual.result c.from_residual.ensures.1 in
    rw (p.1, p.2) (checks_refused a.seed a.n a.set.now _ _ c.in_err-needed.ensures)

pub returns-in_err-enough : goal.returns-in_err-enough
returns-in_err-enough c = let a = c.args in
    let p = err_from_is_err_and c.from_residual-in_err-enough.result c.from_residual-in_err-enough.ensures.1 in
    rw (p.1, p.2) (bytes_refused a.seed a.n a.set.now _ _ c.in_ok-needed.ensures _ c.in_err-enough.ensures)

pub put_set-requires : goal.put_set-requires
put_set-requires c = let a = c.args in
    ((count_range a.seed a.n a.set.now _ c.in_ok-needed.ensures).1, fits a.seed a.n a.set.now _ c.in_ok-needed.ensures)

pub returns : goal.returns
returns c = let a = c.args in
    words_answered a.seed a.n a.set.now _ _ c.in_ok-needed.ensures _ c.in_ok-enough.ensures (search rules) c.put_set.ensures
