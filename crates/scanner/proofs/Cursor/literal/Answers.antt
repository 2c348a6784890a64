-- A fixed string is read whole, or the text departs from it.
-- Assumes nothing.
use mathlib.Core.Path.{refl, sym, ◌∙◌}
use native.Mathlib.Omega.{arith}
use Rattle.scanner.proofs.Strings.{fits, read_whole}
use Rattle.scanner.proofs.Cursor.literal.Goals as goal

pub overflow_add-self : goal.overflow_add-self
overflow_add-self c = let x = c.args.self.now in
    omega (arith, fits c.args.l.now x.text.now x.at (sym c.is_there.ensures ∙ c.if-is_there.true))

pub returns-then-is_there-clause-reads : goal.returns-then-is_there-clause-reads
returns-then-is_there-clause-reads c = let x = c.args.self.now in
    let whole = read_whole c.args.l.now x.text.now x.at (sym c.is_there.ensures ∙ c.if-is_there.true) in
    record { same = refl; answers = sym whole }
