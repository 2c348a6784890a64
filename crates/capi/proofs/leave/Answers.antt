-- The values are put one behind the other.
-- Assumes nothing.
use mathlib.Core.Path.{refl, sym, subst}
use Rattle.entries.specs.Put.{EntryAnswer, Left}
use Rattle.entries.proofs.Bytes.{four}
use Rattle.capi.proofs.leave.Goals as goal

pub returns-in-Ok : goal.returns-in-Ok
returns-in-Ok c = let a = c.args in
    subst (λ (x : EntryAnswer). Left x a.d.now c.put_value-in-Ok-3.new.d 0) (sym c.in-Ok.is)
    (refl, four _ _ _ _ _ _ _ _ _ c.put_value.ensures c.put_value-in-Ok.ensures c.put_value-in-Ok-2.ensures c.put_value-in-Ok-3.ensures)
