use mathlib.Core.Path.{◌∙◌}
use native.Mathlib.Omega.{arith}
use Rattle.entries.proofs.Bytes.{part_placed}
use Rattle.capi.proofs.put_value.Goals as goal

pub returns : goal.returns
returns c = let a = c.args in
    part_placed a.at _ a.v c.copy_from_slice.new.self a.d.now (omega arith) (c.copy_from_slice.ensures.after ∙ c.to_le_bytes.ensures) c.requires
