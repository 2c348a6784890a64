-- Writing to the front of a list, and from a place on, part by part: words by the reader and the generator, bytes by the
-- writer.
-- Assumes nothing.
use Prim.Native.Nat.{ℕ, suc, ◌+◌, ◌≤◌, ◌<◌}
use mathlib.Core.Path.{◌≡◌, refl, sym, ap, ◌∙◌}
use mathlib.Core.List.{List, [], ◌∷◌, ◌++◌, append_assoc}
use native.Mathlib.Omega.{arith}
use lib.ListN.{length, get_or, take, drop, set, length-append, length-drop, take-append-drop}
use lib.Seq.{drop-cons, set_at, append_snoc, take_at, drop_at, length-take-le, drop-drop}
use Rattle.lists.specs.Writing.{placed, written}

pub placed-none : (d : List ℕ) → d ≡ placed [] d
unfolding placed
placed-none d = refl

pub written_none : (d : List ℕ) (at : ℕ) → d ≡ written at [] d
unfolding placed written
written_none d at = sym (take-append-drop at d)

pub written_front : (xs d : List ℕ) → written 0 xs d ≡ placed xs d
unfolding placed written
written_front xs d = refl

pub length-placed : (xs d : List ℕ) → length xs ≤ length d → length (placed xs d) ≡ length d
unfolding placed
length-placed xs d h = rw (length-append, length-drop) (omega arith)

pub length-written : (xs d : List ℕ) (at : ℕ) → at + length xs ≤ length d → length (written at xs d) ≡ length d
unfolding placed written
length-written xs d at h = rw (length-append, length-append, length-take-le at d (omega arith), length-drop, length-drop) (omega arith)

-- One item behind what is there.
pub placed_one : (xs d : List ℕ) (a n : ℕ) → length xs ≡ n → n < length d → set (placed xs d) n a ≡ placed (xs ++ (a ∷ [])) d
unfolding placed
placed_one xs d a n e h =
    let l : length (xs ++ (a ∷ [])) ≡ suc n = length-append xs (a ∷ []) ∙ omega arith in
    rw (l, e, drop-cons d n 0 h, append_snoc xs a (drop (suc n) d)) (set_at xs (get_or d n 0) (drop (suc n) d) a n e)

-- A part, and then a part behind it.
pub written_then : (xs ys d : List ℕ) (at n : ℕ) → n ≡ at + length xs → at ≤ length d → written n ys (written at xs d) ≡ written at (xs ++ ys) d
unfolding placed written
written_then xs ys d at n e h =
    let p : List ℕ = take at d ++ xs in
    let r : List ℕ = drop (length xs) (drop at d) in
    let l : length p ≡ n = length-append (take at d) xs ∙ rw (length-take-le at d h) (sym e) in
    let s : take at d ++ (xs ++ r) ≡ p ++ r = sym (append_assoc (take at d) xs r) in
    ap (written n ys) s ∙ rw (take_at p r n l, drop_at p r n l, length-append, ← drop-drop, append_assoc, append_assoc)

pub extend : (xs ys d e₁ e₂ : List ℕ) (at n : ℕ)
    → n ≡ at + length xs → at ≤ length d → e₁ ≡ written at xs d → e₂ ≡ written n ys e₁ → e₂ ≡ written at (xs ++ ys) d
extend xs ys d e₁ e₂ at n l h p q = q ∙ ap (written n ys) p ∙ written_then xs ys d at n l h
