-- Parts of a text, one behind the other.
-- Assumes nothing.
use Prim.Native.Nat.{ℕ, zero, suc, ◌+◌, ◌-◌, ◌*◌, ◌/◌, ◌%◌, ◌^◌, ◌≤◌, ◌<◌}
use mathlib.Core.Path.{◌≡◌, refl, sym, ap, ◌∙◌}
use mathlib.Core.List.{List, [], ◌∷◌, ◌++◌, append-nil}
use mathlib.Core.Bool.{Bool, true, false}
use native.Mathlib.Nat.{pow-succ', one-le-pow}
use native.Mathlib.Omega.{arith}
use lib.ListN.{length, get_or, take, drop, set, length-append, length-drop, length-set}
use lib.Dec.{ltb}
use lib.Seq.{take_all, take-suc, drop-length, drop-cons, append_snoc, set_at, length-take-le}
use borrow.Author.Tests.{ltb-true, ltb-false}
use borrow.Rule.Slice.PartMut.{put_mid, Post-is}
use Rattle.text.specs.Text.{decimal}
use Rattle.text.proofs.Numerals.{decimal_step, decimal-one}
use Rattle.lists.specs.Writing.{placed, written}
use Rattle.lists.proofs.Writing.{written_none, written_front}
use Rattle.printer.specs.Puts.{Put, Added}
use Rattle.printer.specs.Taken.{BufferFits}
use Rattle.printer.specs.declared.Buffer.{Buffer}

-- ---- the digits of a number
decimal_split : (v : ℕ) → 10 ≤ v → v < 2 ^ 64 → decimal v ≡ decimal (v / 10) ++ ((48 + v % 10) ∷ [])
decimal_split v h l =
    let back : v / 10 * 10 + v % 10 ≡ v = omega arith in
    ap decimal (sym back) ∙ decimal_step (v / 10) (v % 10) (omega arith) (omega arith) (omega arith)

pub length_small : (v : ℕ) → v < 10 → length (decimal v) ≡ 1
length_small v h = rw (decimal-one v h)

length_large : (v : ℕ) → 10 ≤ v → v < 2 ^ 64 → length (decimal v) ≡ length (decimal (v / 10)) + 1
length_large v h l = rw (decimal_split v h l, length-append)

-- A number is below 10, or not.
tell : (P : Type 0) (v : ℕ) → (v < 10 → P) → (10 ≤ v → P) → P
tell P v f g = go (ltb v 10) refl
  where
    go : (x : Bool) → ltb v 10 ≡ x → P
    go true e = f (ltb-true v 10 e)
    go false e = g (ltb-false v 10 e)

-- There is a digit at least; with more than one, the number is 10 at least.
pub length_some : (v : ℕ) → v < 2 ^ 64 → 1 ≤ length (decimal v)
length_some v l = tell _ v (λ h. omega (arith, length_small v h)) (λ h. omega (arith, length_large v h l))

long_large : (v : ℕ) → 1 < length (decimal v) → 10 ≤ v
long_large v m = tell _ v (λ h. absurd (omega (arith, length_small v h))) (λ h. h)

-- How many digits there are, by the powers of ten.
pub length-between : (j v : ℕ) → 10 ^ j ≤ v → v < 10 ^ suc j → v < 2 ^ 64 → length (decimal v) ≡ suc j
length-between zero v h k l = length_small v k
length-between (suc j) v h k l =
    let p = one-le-pow j 10 (omega arith) in
    let h' : 10 * 10 ^ j ≤ v = rw (pow-succ' 10 j) at h in
    let k' : v < 10 * 10 ^ suc j = rw (pow-succ' 10 (suc j)) at k in
    omega (arith, length_large v (omega arith) l, length-between j (v / 10) (omega arith) (omega arith) (omega arith))

-- Digits from the back: those of v behind the first i stand in their places of e, which was d; the first i are x's.
pub record Filled (v : ℕ) (d : List ℕ) (x : ℕ) (e : List ℕ) (i : ℕ) : Type 0 where
  pub some : 1 ≤ i
  pub inside : i ≤ length d
  pub same : length e ≡ length d
  pub fits : x < 2 ^ 64
  pub left : length (decimal x) ≡ i
  pub digits : List ℕ
  pub all : decimal v ≡ decimal x ++ digits
  pub is : e ≡ written i digits d

pub fill_none : (v : ℕ) (d : List ℕ) (n : ℕ) → v < 2 ^ 64 → n ≡ length (decimal v) → n ≤ length d → Filled v d v d n
fill_none v d n l e h = record {
  some = omega (arith, length_some v l);
  inside = h;
  same = refl;
  fits = l;
  left = sym e;
  digits = [];
  all = sym (append-nil (decimal v));
  is = written_none d n;
}

-- One item before what is there.
written-before : (xs d : List ℕ) (a j : ℕ) → j < length d → set (written (suc j) xs d) j a ≡ written j (a ∷ xs) d
unfolding placed written
written-before xs d a j h =
    let r : List ℕ = xs ++ drop (length xs) (drop (suc j) d) in
    rw (take-suc d j 0 h, append_snoc (take j d) (get_or d j 0) r, drop-cons d j 0 h)
    (set_at (take j d) (get_or d j 0) r a j (length-take-le j d (omega arith)))

pub fill_one : {v x i : ℕ} {d e : List ℕ} → Filled v d x e i → 1 < i → Filled v d (x / 10) (set e (i - 1) (48 + x % 10)) (i - 1)
fill_one {v} {x} {i} {d} {e} q h =
    let b : 10 ≤ x = long_large x (omega (arith, q.left)) in
    let i' : i ≡ suc (i - 1) = omega arith in
    record {
      some = omega arith;
      inside = omega arith;
      same = simp length-set q.same;
      fits = omega arith;
      left = omega (arith, length_large x b q.fits);
      digits = (48 + x % 10) ∷ q.digits;
      all = q.all ∙ rw (decimal_split x b q.fits, append_snoc);
      is = ap (λ (z : List ℕ). set z (i - 1) (48 + x % 10)) (q.is ∙ ap (λ (z : ℕ). written z q.digits d) i')
          ∙ written-before q.digits d (48 + x % 10) (i - 1) (omega arith);
    }

-- The first digit is what is left.
pub first_small : {v x i : ℕ} {d e : List ℕ} → Filled v d x e i → i ≡ 1 → x < 10
first_small {v} {x} q h =
    tell _ x (λ s. s) (λ b. absurd (omega (arith, q.left, length_large x b q.fits, length_some (x / 10) (omega (arith, q.fits)))))

pub fill_all : {v x i n : ℕ} {d e : List ℕ} → Filled v d x e i → i ≡ 1 → n ≡ length (decimal v) → Put (decimal v) d (set e 0 (48 + x)) n
fill_all {v} {x} {i} {n} {d} q h m = record {
  size = m;
  is = ap (λ (z : List ℕ). set z 0 (48 + x)) (q.is ∙ ap (λ (z : ℕ). written z q.digits d) h)
      ∙ written-before q.digits d (48 + x) 0 (omega arith)
      ∙ written_front ((48 + x) ∷ q.digits) d
      ∙ rw (q.all, decimal-one x (first_small q h));
}

-- ---- parts
-- The rest of a buffer was lent, and ys written to it.
pub lent : {ys e f : List ℕ} {p n : ℕ} → p ≤ length e → Put ys (take (length e - p) (drop p e)) f n → Added p ys e (put_mid p (length e - p) e f) (p + n)
unfolding placed written
lent {ys} {e} {f} {p} {n} h q =
    let all : take (length e - p) (drop p e) ≡ drop p e = take_all (length e - p) (drop p e) (rw length-drop (omega arith)) in
    record { inside = h; size = omega (arith, q.size); is = rw (q.is, all, Post-is p (length e) e h, drop-length, append-nil) }

-- From the front on: there is room as far as the buffer goes. f is the buffer, as its owner has it back.
pub from_front : {b : Buffer} {xs : List ℕ} → b.at ≡ 0 → length xs ≤ length b.all.now → BufferFits b xs
from_front e h = record { room = omega arith }

pub front : {xs d e f : List ℕ} {n : ℕ} → f ≡ e → Added 0 xs d e n → Put xs d f n
front {xs} {d} back a = record { size = omega (arith, a.size); is = back ∙ a.is ∙ written_front xs d }
