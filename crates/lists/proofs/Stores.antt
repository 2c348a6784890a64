-- Words that the code stores one by one, in front of words that stand in the list already.
-- Assumes nothing.
use Prim.Native.Nat.{ℕ, suc, ◌+◌, ◌≤◌}
use mathlib.Core.Path.{◌≡◌, refl, ap, ◌∙◌}
use mathlib.Core.List.{List, [], ◌∷◌, ◌++◌, append_assoc, append-nil}
use native.Mathlib.Omega.{arith}
use native.Mathlib.Nat.{add-suc, add_assoc}
use native.Mathlib.Numerals.{add-one}
use lib.ListN.{length, take, drop, set, length-append}
use lib.Seq.{sets, sets-eq, take-append-le, take-take, drop_at, drop-drop, length-take-le}
use Rattle.lists.specs.Writing.{placed, written}
use Rattle.lists.proofs.Writing.{written_none}

-- `stored k (a ∷ b ∷ c ∷ []) d` is `set (set (set d k a) (k + 1) b) (k + 2) c`, as the code has it.
abbrev stored_on : ℕ → ℕ → List ℕ → List ℕ → List ℕ
stored_on k j [] d = d
stored_on k j (w ∷ ws) d = stored_on k (suc j) ws (set d (k + j) w)

abbrev pub stored : ℕ → List ℕ → List ℕ → List ℕ
stored k [] d = d
stored k (w ∷ ws) d = stored_on k 1 ws (set d k w)

stored_on_lem : (k j : ℕ) (ws d : List ℕ) → stored_on k j ws d ≡ sets d (k + j) ws
stored_on_lem k j [] d = refl
stored_on_lem k j (w ∷ ws) d = stored_on_lem k (suc j) ws (set d (k + j) w) ∙ rw add-suc

stored_sets : (k : ℕ) (ws d : List ℕ) → stored k ws d ≡ sets d k ws
stored_sets k [] d = refl
stored_sets k (w ∷ ws) d = stored_on_lem k 1 ws (set d k w) ∙ rw add-one

-- Words in front of others.
pub in_front : (ws es d : List ℕ) (k n : ℕ) → n ≡ k + length ws → n ≤ length d → stored k ws (written n es d) ≡ written k (ws ++ es) d
unfolding written placed
in_front ws es d k n e h =
    let rest : List ℕ = es ++ drop (length es) (drop n d) in
    let l : length (take n d) ≡ n = length-take-le n d h in
    let size : k + length ws ≤ length (take n d ++ rest) = rw length-append (omega arith) in
    let a : take k (take n d ++ rest) ≡ take k d = take-append-le k (take n d) rest (omega arith) ∙ take-take k n d (omega arith) in
    let b : drop (k + length ws) (take n d ++ rest) ≡ rest = drop_at (take n d) rest (k + length ws) (l ∙ e) in
    stored_sets k ws (take n d ++ rest) ∙ sets-eq ws (take n d ++ rest) k size ∙ rw (a, b, e, length-append, drop-drop, drop-drop, add_assoc) (simp append_assoc)

-- Words in front of nothing.
pub stored-alone : (ws d : List ℕ) (k : ℕ) → k + length ws ≤ length d → stored k ws d ≡ written k ws d
stored-alone ws d k h =
    ap (stored k ws) (written_none d (k + length ws)) ∙ in_front ws [] d k (k + length ws) refl h ∙ rw append-nil
