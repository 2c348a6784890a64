-- The bytes that a write takes come behind those that were taken.
use Rattle.std.proofs.Common.{◌≡◌, ℕ, ◌+◌, ◌-◌, List, ◌++◌, length, take, drop, sym, ap, ◌∙◌, subst, arith}
use Rattle.std.proofs.lemmas.List.{take_rest, length-take, length-drop}
use Rattle.std.proofs.Math.Seq.{take-add}
use Rattle.std.proofs.KnownBytes.{Appends-trans, Appends-kept}
use Rattle.std.specs.Io.KnownBytes.{Appends}
use Rattle.seedspell.proofs.output.write_bytes.Goals as goal
use Rattle.seedspell.proofs.output.write_bytes.Goals.{in-Ok, in-Err}

joined : (n k : ℕ) (d : List ℕ) → take n d ++ take k (take (length d - n) (drop n d)) ≡ take (n + k) d
joined n k d = ap (λ l. take n d ++ take k l) (take_rest d n) ∙ sym (take-add n k d)

pub loop-n-preserved : goal.loop-n-preserved
loop-n-preserved g c =
    let n = c.loop-n.n in
    let d = c.args.bytes.now in
    elim c.match-write.branch [
      | in-Ok w ↦
          record {
            within = omega (arith, w.k-is, w.in-Ok.ensures.bound, length-take {A = ℕ}, length-drop {A = ℕ});
            put = subst (Appends _ _) (joined n w.in-Ok.k d ∙ ap (λ k. take (n + k) d) (sym w.k-is))
                (Appends-trans _ _ _ _ _ c.loop-n.invariant.put w.in-Ok.ensures.bytes);
          }
      | in-Err w ↦
          let none : n ≡ n + c.match-write.k = omega (arith, w.k-is) in
          record {
            within = omega (arith, w.k-is);
            put = subst (Appends _ _) (ap (λ m. take m d) none) (Appends-kept _ _ _ _ c.loop-n.invariant.put w.in-Err.ensures.bytes);
          }
    ]
