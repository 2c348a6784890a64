-- A part of a list that is written as a slice of its own, and put back.
-- Assumes nothing.
use Prim.Native.Nat.{ℕ, ◌+◌, ◌≤◌, ◌<◌}
use mathlib.Core.Path.{◌≡◌, refl, sym, ap, ◌∙◌}
use mathlib.Core.List.{List}
use native.Mathlib.Omega.{arith}
use lib.Seq.{length-take-le}
use lib.ListN.{length-drop, length-replicate, length, get_or, take, drop, replicate}
use borrow.Rule.Slice.PartMut.{put_mid}
use Rattle.std.proofs.lemmas.Grind.{same_number_lists}
use Rattle.numbers.specs.Numbers.{each}
use Rattle.numbers.proofs.Lists.{each-length, each_at}
use Rattle.lists.specs.Writing.{placed, written}

-- The part now holds xs.
pub part_written : (xs d : List ℕ) (at k : ℕ) → k ≡ length xs → put_mid at k d xs ≡ written at xs d
unfolding placed written
part_written xs d at k e = rw e refl

-- The part now holds f 1, f 2 and so on, n of them.
pub part_each : (f : ℕ → ℕ) (ys d : List ℕ) (at k n : ℕ) → k ≡ n → length ys ≡ n → ((j : ℕ) → j < n → get_or ys j 0 ≡ f (1 + j))
    → put_mid at k d ys ≡ written at (each f 1 n) d
part_each f ys d at k n e l is =
    let same : ys ≡ each f 1 n = same_number_lists ys (each f 1 n) (l ∙ sym (each-length f 1 n))
    (λ j h. let inside : j < n = omega arith in is j inside ∙ sym (each_at f 1 n j inside 0)) in
    rw same (part_written (each f 1 n) d at k (e ∙ sym (each-length f 1 n)))

-- The part was filled with zeros.
pub part_zeros : (ys d : List ℕ) (at k n : ℕ) → k ≡ n → at + k ≤ length d → ys ≡ replicate (length (take k (drop at d))) 0
    → put_mid at k d ys ≡ written at (replicate n 0) d
part_zeros ys d at k n e room is =
    let size : length (take k (drop at d)) ≡ n = length-take-le k (drop at d) (rw length-drop (omega arith)) ∙ e in
    let zeros : ys ≡ replicate n 0 = is ∙ ap (λ (l : ℕ). replicate l 0) size in
    rw zeros (part_written (replicate n 0) d at k (e ∙ sym (length-replicate n 0)))
