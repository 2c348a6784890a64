-- Lists of items at a place of a text, as a loop reads them, and the words that it writes.
-- Assumes nothing.
use Prim.Native.Nat.{ℕ, zero, suc, ◌+◌, ◌-◌, ◌*◌, ◌≤◌, ◌<◌}
use mathlib.Core.Path.{◌≡◌, refl, sym, ap, ◌∙◌}
use mathlib.Core.List.{List, [], ◌∷◌, ◌++◌, append-nil}
use mathlib.Core.Bool.{true, false}
use mathlib.Core.Logic.{⊎_elim}
use native.Mathlib.Omega.{arith}
use native.Mathlib.Nat.{add-zero, sub-zero, suc-mul}
use native.Mathlib.Numerals.{add-one}
use lib.ListN.{length, drop, length-append}
use lib.Seq.{append_snoc}
use Rattle.numbers.specs.Numbers.{joined}
use Rattle.numbers.proofs.Tests.{lt_or_le}
use Rattle.numbers.proofs.Lists.{joined-one}
use Rattle.text.specs.Reading.{Res, got, bad, map_res, seq, many, starts, read_at}
use Rattle.lists.specs.Writing.{written}
use Rattle.lists.proofs.Writing.{written_none, extend}
use Rattle.std.specs.Prelude.{Result, Ok, Err}
use Rattle.scanner.specs.Steps.{Reads}
use Rattle.scanner.specs.declared.Cursor.{Cursor}
use Rattle.scanner.specs.declared.Departure.{Departure}
use Rattle.scanner.proofs.Places.{seq_at, map_id, behind as goes_on}
use Rattle.forms.specs.Forms.{Wrote, Gives, plain}
use Rattle.forms.proofs.Gives.{gives}

-- The items so far in front of those that are left.
abbrev pub behind : {A : Type 0} → List A → Res (List A) → Res (List A)
behind xs = map_res (λ ys. xs ++ ys)

behind-one : {A : Type 0} (xs : List A) (v : A) (y : Res (List A)) → behind xs (map_res (λ ys. v ∷ ys) y) ≡ behind (xs ++ (v ∷ [])) y
behind-one xs v (got ys i) = ap (λ z. got z i) (sym (append_snoc xs v ys))
behind-one xs v (bad o) = refl

-- The words of a number.
abbrev pub alone : ℕ → List ℕ
alone v = v ∷ []

joined-alone : (xs : List ℕ) → joined alone xs ≡ xs
joined-alone [] = refl
joined-alone (x ∷ xs) = ap (λ (ys : List ℕ). x ∷ ys) (joined-alone xs)

-- The words of numbers, one by one, are the numbers.
pub plainly : {p : List ℕ → Res (List ℕ)} {x y : Cursor} {k : ℕ} {d e : List ℕ} {r : Result ℕ Departure}
    → Gives length (joined alone) p x y k d e r → Gives length plain p x y k d e r
plainly {p} {x} {y} {k} {d} {e} g = record { reads = g.reads; wrote = go (read_at p x.text.now x.at) g.wrote }
  where
    go : (w : Res (List ℕ)) → Wrote (joined alone) k d e w → Wrote plain k d e w
    go (got xs i) h = rw joined-alone at h
    go (bad o) h = tt

-- What is left of a list after n items.
abbrev left : {A : Type 0} → (List ℕ → Res A) → ℕ → ℕ → ℕ → ℕ → List ℕ → Res (List A)
left p c low spare n = many p c (low - n) (spare - (n - low))

-- A loop that reads low items and up to so many more, each of which starts with the byte c and has so many words, f of
-- it.
module _ {A : Type 0} (p : List ℕ → Res A) (c low spare : ℕ) (f : A → List ℕ) (size : ℕ) where
  -- n of them are read, their words stand in the list from k on, and with those that are left, read at the place in
  -- hand, they give the whole answer: x is the cursor before, y now, and d the list before, e now.
  pub record SoFar (x : Cursor) (k : ℕ) (d : List ℕ) (y : Cursor) (n : ℕ) (e : List ℕ) : Type 0 where
    pub most : n ≤ low + spare
    pub items : List A
    pub count : length items ≡ n
    pub words : length (joined f items) ≡ n * size
    pub same : length e ≡ length d
    pub in_place : e ≡ written k (joined f items) d
    pub text : y.text.now ≡ x.text.now
    pub rest : read_at (many p c low spare) x.text.now x.at ≡ behind items (read_at (left p c low spare n) y.text.now y.at)

  pub none_yet : (x : Cursor) (k : ℕ) (d : List ℕ) → SoFar x k d x 0 d
  none_yet x k d =
      let none : 0 - low ≡ 0 = omega arith in
      record {
        most = omega arith;
        items = [];
        count = refl;
        words = omega arith;
        same = refl;
        in_place = written_none d k;
        text = refl;
        rest = rw (none, sub-zero, sub-zero) (sym (map_id (read_at (many p c low spare) x.text.now x.at)));
      }

module _ {A : Type 0} {p : List ℕ → Res A} {c low spare : ℕ} {f : A → List ℕ} {size : ℕ}
    {x : Cursor} {k : ℕ} {d : List ℕ} {y : Cursor} {n : ℕ} {e : List ℕ} (h : SoFar p c low spare f size x k d y n e) where
  -- The next item is wanted, or is there.
  module _ (more : n < low + spare) (starting : low ≤ n → starts c (drop y.at y.text.now) ≡ true) where
    turn : read_at (left p c low spare n) y.text.now y.at
        ≡ read_at (seq ◌∷◌ p (λ _. left p c low spare (n + 1))) y.text.now y.at
    unfolding many read_at
    turn =
        ⊎_elim
        (λ (l : n < low).
        let a : low - n ≡ suc (low - (n + 1)) = omega arith in
        let b : n - low ≡ n + 1 - low = omega arith in
        rw (a, b))
        (λ (l : low ≤ n).
        let a : low - n ≡ 0 = omega arith in
        let b : low - (n + 1) ≡ 0 = omega arith in
        let t : spare - (n - low) ≡ suc (spare - (n + 1 - low)) = omega arith in
        rw (a, b, t, starting l))
        (lt_or_le n low)

    pub one_more : (a : A) {z : Cursor} (e' : List ℕ) → Reads p y z (Ok a) → length (f a) ≡ size → k ≤ length d
        → length e' ≡ length e → e' ≡ written (k + n * size) (f a) e → SoFar p c low spare f size x k d z (n + 1) e'
    one_more a {z} e' q l room same' w = record {
      most = omega arith;
      items = h.items ++ (a ∷ []);
      count = length-append h.items (a ∷ []) ∙ rw h.count;
      words = ap length (joined-one f h.items a) ∙ length-append (joined f h.items) (f a) ∙ rw (h.words, l, add-one, suc-mul);
      same = same' ∙ h.same;
      in_place = extend (joined f h.items) (f a) d e e' k (k + n * size) (ap (λ (v : ℕ). k + v) (sym h.words)) room h.in_place w
          ∙ ap (λ (v : List ℕ). written k v d) (sym (joined-one f h.items a));
      text = q.same ∙ h.text;
      rest = h.rest ∙ ap (behind h.items) (turn ∙ behind_item) ∙ behind-one h.items a (read_at (left p c low spare (n + 1)) z.text.now z.at);
    }
      where
        behind_item : read_at (seq ◌∷◌ p (λ _. left p c low spare (n + 1))) y.text.now y.at
            ≡ map_res (λ ys. a ∷ ys) (read_at (left p c low spare (n + 1)) z.text.now z.at)
        behind_item = goes_on ◌∷◌ p (λ _. left p c low spare (n + 1)) q

    pub refused : {z : Cursor} {o : Departure} → Reads p y z (Err o) → Reads (many p c low spare) x z (Err o)
    refused q = record { same = q.same ∙ h.text; answers = sym (h.rest ∙ rw (turn, seq_at, sym q.answers)) }

  all_read : (m : ℕ) → n ≡ m → read_at (left p c low spare n) y.text.now y.at ≡ got [] y.at
      → Gives length (joined f) (many p c low spare) x y k d e (Ok m)
  all_read m s q =
      let a : read_at (many p c low spare) x.text.now x.at ≡ got h.items y.at = h.rest ∙ rw (q, append-nil) in
      gives length (joined f) (many p c low spare) {a = h.items} (record { same = h.text; answers = sym a }) (h.count ∙ s) h.in_place

  -- No item stands here, and none must.
  pub stopped : low ≤ n → starts c (drop y.at y.text.now) ≡ false
      → Gives length (joined f) (many p c low spare) x y k d e (Ok n)
  unfolding many read_at
  stopped l none =
      let a : low - n ≡ 0 = omega arith in
      all_read n refl (rw a (go (spare - (n - low))))
    where
      go : (m : ℕ) → read_at (many p c 0 m) y.text.now y.at ≡ got [] y.at
      go zero = rw add-zero
      go (suc m) = rw (none, add-zero)

  -- There may be no more.
  pub full : low + spare ≤ n → Gives length (joined f) (many p c low spare) x y k d e (Ok (low + spare))
  unfolding many read_at
  full l =
      let a : low - n ≡ 0 = omega arith in
      let t : spare - (n - low) ≡ 0 = omega arith in
      all_read (low + spare) (omega (arith, h.most)) (rw (a, t, add-zero))
