-- The bytes that a read brings come behind those that came before.
use Rattle.std.proofs.Common.{◌≡◌, ℕ, ◌+◌, List, ◌++◌, take, drop, sym, ap, ◌∙◌, subst}
use Rattle.std.proofs.Math.Seq.{take-add}
use Rattle.std.proofs.KnownBytes.{Consumes-trans}
use Rattle.std.specs.Io.KnownBytes.{Consumes}
use Rattle.cases.proofs.input.fill.Goals as goal

joined : (at k : ℕ) (old new : List ℕ) → take at new ≡ take at old → take at old ++ take k (drop at new) ≡ take (at + k) new
joined at k old new kept = ap (λ l. l ++ take k (drop at new)) (sym kept) ∙ sym (take-add at k new)

pub loop-have-preserved : goal.loop-have-preserved
loop-have-preserved g c =
    let read = c.read_more-k in
    record {
      within = read.ensures.within;
      taken = subst (Consumes _ _) (joined c.loop-have.have read.result c.loop-have.buf read.new.buf read.ensures.kept)
          (Consumes-trans _ _ _ _ _ c.loop-have.invariant.taken read.ensures.taken);
    }
