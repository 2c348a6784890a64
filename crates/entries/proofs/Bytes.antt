-- Bytes put into a list, and read back.
-- Assumes nothing.
use Prim.Native.Nat.{ℕ, zero, suc, ◌+◌, ◌*◌, ◌/◌, ◌%◌, ◌^◌, ◌≤◌, ◌<◌}
use mathlib.Core.Path.{◌≡◌, refl, sym, ap, ◌∙◌}
use mathlib.Core.List.{List, [], ◌∷◌, ◌++◌, append_assoc, append-nil}
use native.Mathlib.Nat.{pow-succ', div-lt_iff_lt-mul}
use native.Mathlib.Omega.{arith}
use lib.ListN.{length, get_or, take, drop, length-append}
use lib.Seq.{take-append_seam, drop-append-add, drop-drop, take_at}
use Rattle.entries.specs.Entry.{bytes_of, result_bytes, value_of, result_at}
use borrow.Rule.Slice.PartMut.{put_mid}
use Rattle.std.specs.Int.{w64, bytes_low_first, to_le_bytes}
use Rattle.std.proofs.Math.Nat.{div-div-eq-div-mul}
use lib.ListN.{length-drop}
use lib.Seq.{length-take-le}
use Rattle.entries.specs.Put.{placed, Placed}

-- "lowest byte first": 258 is 2 and 1 × 256.
lowest_first : result_bytes (258 ∷ []) ≡ 2 ∷ 1 ∷ 0 ∷ 0 ∷ 0 ∷ 0 ∷ 0 ∷ 0 ∷ []
unfolding bytes_of result_bytes
lowest_first = refl

pub length-bytes : (k v : ℕ) → length (bytes_of k v) ≡ k
unfolding bytes_of
length-bytes zero v = refl
length-bytes (suc k) v = ap suc (length-bytes k (v / 256))

-- ---- putting: the library's bytes of a number, lowest first, are these
low_first : (i k v : ℕ) → bytes_low_first (suc i) k v ≡ bytes_of k (v / 256 ^ suc i)
unfolding bytes_of
low_first i zero v = refl
low_first i (suc k) v =
    let shifted : v / 256 ^ suc i / 256 ≡ v / 256 ^ suc (suc i)
    = div-div-eq-div-mul v (256 ^ suc i) 256 ∙ ap (λ (x : ℕ). v / x) (omega (arith, pow-succ' 256 (suc i))) in
    ap (λ (xs : List ℕ). v / 256 ^ suc i % 256 ∷ xs) (low_first (suc i) k v ∙ ap (bytes_of k) (sym shifted))

bytes_are : (v : ℕ) → to_le_bytes w64 v ≡ bytes_of 8 v
unfolding bytes_of
bytes_are v = ap (λ (xs : List ℕ). v % 256 ∷ xs) (low_first 0 7 v ∙ ap (bytes_of 7) (ap (λ (x : ℕ). v / x) (omega arith)))

-- They are put in a part of a list.
pub part_placed : (at k v : ℕ) (ys d : List ℕ) → k ≡ 8 → ys ≡ to_le_bytes w64 v → at + 8 ≤ length d → Placed at v d (put_mid at k d ys)
unfolding placed
part_placed at k v ys d e is room =
    let same : ys ≡ bytes_of 8 v = is ∙ bytes_are v in
    let bytes : put_mid at k d ys ≡ placed at (bytes_of 8 v) d = rw (same, e, drop-drop, length-bytes) refl in
    record {
      bytes = bytes;
      size = ap length bytes ∙ rw (length-append, length-append, length-bytes, length-drop, length-take-le at d (omega arith)) (omega arith);
    }

-- ---- four values, one behind the other
placed-next : (f xs d : List ℕ) (k : ℕ) → placed (length f) xs (f ++ drop k d) ≡ (f ++ xs) ++ drop (k + length xs) d
unfolding placed
placed-next f xs d k =
    rw (take-append_seam f (drop k d), drop-append-add f (drop k d) (length xs), drop-drop (length xs) k d)
    (sym (append_assoc f xs (drop (k + length xs) d)))

-- f holds the first k bytes, and v is put behind them
pub put_next : (k v : ℕ) (f d d₁ d₂ : List ℕ) → length f ≡ k → d₁ ≡ f ++ drop k d → Placed k v d₁ d₂ → d₂ ≡ (f ++ bytes_of 8 v) ++ drop (k + 8) d
put_next k v f d d₁ d₂ s e p =
    p.bytes ∙ ap (placed k (bytes_of 8 v)) e ∙ ap (λ (x : ℕ). placed x (bytes_of 8 v) (f ++ drop k d)) (sym s) ∙
    placed-next f (bytes_of 8 v) d k ∙ ap (λ (x : ℕ). (f ++ bytes_of 8 v) ++ drop (k + x) d) (length-bytes 8 v)

longer : (k v : ℕ) (f : List ℕ) → length f ≡ k → length (f ++ bytes_of 8 v) ≡ k + 8
longer k v f s = simp length-append (omega (arith, length-bytes 8 v))

pub four : (a b c e : ℕ) (d d₁ d₂ d₃ d₄ : List ℕ) → Placed 0 a d d₁ → Placed 8 b d₁ d₂ → Placed 16 c d₂ d₃ → Placed 24 e d₃ d₄ → d₄ ≡ result_bytes (a ∷ b ∷ c ∷ e ∷ []) ++ drop 32 d
unfolding result_bytes
four a b c e d d₁ d₂ d₃ d₄ p q r s =
    let x₁ = put_next 0 a [] d d d₁ refl refl p in
    let x₂ = put_next 8 b (bytes_of 8 a) d d₁ d₂ (length-bytes 8 a) x₁ q in
    let two = longer 8 b (bytes_of 8 a) (length-bytes 8 a) in
    let x₃ = put_next 16 c (bytes_of 8 a ++ bytes_of 8 b) d d₂ d₃ two x₂ r in
    let x₄ = put_next 24 e ((bytes_of 8 a ++ bytes_of 8 b) ++ bytes_of 8 c) d d₃ d₄ (longer 16 c (bytes_of 8 a ++ bytes_of 8 b) two) x₃ s in
    x₄ ∙ simp (append_assoc, append-nil)

-- ---- reading
pub value_of_bytes : (k v : ℕ) → v < 256 ^ k → value_of (bytes_of k v) ≡ v
unfolding bytes_of value_of
value_of_bytes zero v h = omega arith
value_of_bytes (suc k) v h =
    let l = (div-lt_iff_lt-mul {k = 256} {x = v} {y = 256 ^ k} (omega arith)).1 (omega (arith, pow-succ' 256 k)) in
    omega (arith, value_of_bytes k (v / 256) l)

-- the value at place k of those whose bytes stand first
pub result_value : (vs d : List ℕ) (k : ℕ) → k < length vs → get_or vs k 0 < 2 ^ 64 → result_at (result_bytes vs ++ d) k ≡ get_or vs k 0
unfolding result_bytes
result_value [] d k l h = absurd (omega arith)
result_value (v ∷ vs) d zero l h =
    rw (append_assoc (bytes_of 8 v) (result_bytes vs) d, take_at (bytes_of 8 v) (result_bytes vs ++ d) 8 (length-bytes 8 v)) (value_of_bytes 8 v h)
result_value (v ∷ vs) d (suc k) l h =
    let past : 8 * suc k ≡ length (bytes_of 8 v) + 8 * k = omega (arith, length-bytes 8 v) in
    ap (λ (x : List ℕ). value_of (take 8 x))
    (ap (λ (x : List ℕ). drop (8 * suc k) x) (append_assoc (bytes_of 8 v) (result_bytes vs) d) ∙
    ap (λ (n : ℕ). drop n (bytes_of 8 v ++ (result_bytes vs ++ d))) past ∙
    drop-append-add (bytes_of 8 v) (result_bytes vs ++ d) (8 * k)) ∙
    result_value vs d k (omega arith) h
