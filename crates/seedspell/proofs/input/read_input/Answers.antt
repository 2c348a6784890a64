-- The bytes that a read brings come behind those that were there.
use Rattle.std.proofs.Common.{◌≡◌, ℕ, ◌+◌, ◌≤◌, List, ◌++◌, length, take, drop, sym, ap, ◌∙◌, subst, arith, le_refl, drop_at, length-take-le, length-append}
use Rattle.std.proofs.lemmas.List.{take-append-le}
use Rattle.std.proofs.lemmas.Slice.{take-put_mid_below}
use Rattle.std.proofs.Math.Seq.{take-add}
use Rattle.std.proofs.KnownBytes.{Consumes-trans}
use Rattle.std.specs.Io.KnownBytes.{Consumes}
use borrow.Rule.Slice.PartMut.{put_mid, post_of}
use Rattle.seedspell.proofs.input.read_input.Goals as goal

module _ (at room k : ℕ) (old part : List ℕ) (within : at ≤ length old) (fits : k ≤ length part) where
  abbrev after : List ℕ
  after = post_of at room old

  abbrev all : List ℕ
  all = put_mid at room old part

  reach : at + k ≤ length all
  reach = omega (arith, length-append (take at old) (part ++ after), length-append part after, length-take-le at old within)

  joined : take at old ++ take k part ≡ take (at + k) all
  joined =
      let front = take-put_mid_below at room old part at (le_refl at) within in
      let behind = ap (take k) (drop_at (take at old) (part ++ after) at (length-take-le at old within)) ∙ take-append-le k part after fits in
      sym (take-add at k all ∙ ap (λ l. l ++ take k (drop at all)) front ∙ ap (λ l. take at old ++ l) behind)

pub loop-n-preserved-in-Ok : goal.loop-n-preserved-in-Ok
loop-n-preserved-in-Ok g c =
    let within = c.loop-n.invariant.within in
    let fits = c.in-Ok.ensures.bound.0 in
    record {
      room = omega arith;
      within = reach c.loop-n.n _ c.in-Ok.k c.loop-n.bytes c.read.new.buf within fits;
      taken = subst (Consumes _ _) (joined c.loop-n.n _ c.in-Ok.k c.loop-n.bytes c.read.new.buf within fits)
          (Consumes-trans _ _ _ _ _ c.loop-n.invariant.taken c.in-Ok.ensures.bytes.0);
    }
