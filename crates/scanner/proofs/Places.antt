-- The readers at a place of a text, as the code walks it.
-- Assumes nothing.
use Prim.Native.Nat.{ℕ, ◌+◌, ◌*◌, ◌^◌, ◌≤◌, ◌<◌}
use mathlib.Core.Path.{◌≡◌, refl, sym, ap, ◌∙◌}
use mathlib.Core.List.{List, ◌∷◌}
use mathlib.Core.Bool.{true, false}
use native.Mathlib.Omega.{arith}
use native.Mathlib.Nat.{add-zero, zero-add}
use native.Mathlib.Numerals.{add-one}
use lib.ListN.{length, get_or, drop, drop_of_length-le}
use lib.Seq.{drop-cons, drop-drop}
use borrow.Author.Tests.{eq-eqb, ne_eqb}
use Rattle.text.specs.Reading.{Res, got, bad, ext, next, later, map_res, mapped, after, seq, skip, up_to, literal, more, number}
use Rattle.text.specs.Reading.{starts, either, read_at}
use Rattle.text.proofs.Digits.{NoDigit}
use Rattle.std.specs.Prelude.{Result, Ok, Err}
use Rattle.std.specs.Result.{IsErrAnd}
use Rattle.std.proofs.lemmas.Result.{err_from_is_err_and}
use Rattle.scanner.specs.Steps.{Stands, of_read, Reads, Stays}
use Rattle.scanner.specs.declared.Cursor.{Cursor}
use Rattle.scanner.specs.declared.Departure.{Departure}
use Rattle.scanner.specs.declared.Class.TheVariants.{Digit}
use Rattle.text.proofs.Numerals.{more_digit, more_large, first_digit, more_stop, no_number}

pub later-zero : {A : Type 0} (x : Res A) → later 0 x ≡ x
later-zero (got a n) = rw zero-add
later-zero (bad o) = rw zero-add

later-next : {A : Type 0} (i : ℕ) (x : Res A) → later i (next x) ≡ later (i + 1) x
later-next i (got a n) = ap (got a) (omega arith)
later-next i (bad o) = ap bad (omega arith)

later-later : {A : Type 0} (i n : ℕ) (x : Res A) → later i (later n x) ≡ later (i + n) x
later-later i n (got a k) = ap (got a) (omega arith)
later-later i n (bad o) = ap bad (omega arith)

later-map : {A B : Type 0} (f : A → B) (i : ℕ) (x : Res A) → later i (map_res f x) ≡ map_res f (later i x)
later-map f i (got a n) = refl
later-map f i (bad o) = refl

pub map_id : {A : Type 0} (x : Res A) → map_res (λ a. a) x ≡ x
map_id (got a n) = refl
map_id (bad o) = refl

-- One or the other, where the next byte is known; and a value that is turned into another.
module _ {A : Type 0} (c : ℕ) (p q : List ℕ → Res A) (s : List ℕ) (at : ℕ) where
  pub either_first : starts c (drop at s) ≡ true → read_at (either c p q) s at ≡ read_at p s at
  unfolding read_at
  either_first e = rw e

  pub either_second : starts c (drop at s) ≡ false → read_at (either c p q) s at ≡ read_at q s at
  unfolding read_at
  either_second e = rw e

pub map_at : {A B : Type 0} (f : A → B) (p : List ℕ → Res A) (s : List ℕ) (at : ℕ) → read_at
    (mapped f p) s at ≡ map_res f (read_at p s at)
unfolding read_at
map_at f p s at = later-map f at (p (drop at s))

-- Going on after a piece.
abbrev pub onward : {A B C : Type 0} → (A → B → C) → (A → List ℕ → Res B) → List ℕ → Res A → Res C
onward mk f s (got a i) = map_res (mk a) (read_at (f a) s i)
onward mk f s (bad o) = bad o

pub seq_at : {A B C : Type 0} (mk : A → B → C) (p : List ℕ → Res A) (f : A → List ℕ → Res B) (s : List ℕ) (at : ℕ)
    → read_at (seq mk p f) s at ≡ onward mk f s (read_at p s at)
unfolding read_at
seq_at {A} {B} {C} mk p f s at = go (p (drop at s))
  where
    go : (x : Res A) → later at (after mk (drop at s) f x) ≡ onward mk f s (later at x)
    go (got a n) = rw (drop-drop n at s, later-later, later-map)
    go (bad o) = refl

-- ---- what is read at a cursor, piece by piece
-- An answer whose value is turned into another.
abbrev pub on_value : {A B : Type 0} → (A → B) → Result A Departure → Result B Departure
on_value f (Ok a) = Ok (f a)
on_value f (Err d) = Err d

of_value : {A B : Type 0} (f : A → B) (r : Result A Departure) (i : ℕ) → of_read (on_value f r) i ≡ map_res f (of_read r i)
of_value f (Ok a) i = refl
of_value f (Err d) i = refl

pub shown : {A B : Type 0} (f : A → B) (p : List ℕ → Res A) {x y : Cursor} (r : Result A Departure) → Reads p x y r
    → Reads (mapped f p) x y (on_value f r)
shown f p {x} {y} r h = record {
  same = h.same;
  answers = of_value f r y.at ∙ ap (map_res f) h.answers ∙ sym (map_at f p x.text.now x.at);
}

-- A piece, and then a piece that may depend on its value: the first departs, or the second gives the answer.
module _ {A B C : Type 0} (mk : A → B → C) (p : List ℕ → Res A) (f : A → List ℕ → Res B) {x y : Cursor} where
  pub first_departs : {d : Departure} → Reads p x y (Err d) → Reads (seq mk p f) x y (Err d)
  first_departs h = record { same = h.same; answers = rw (seq_at, sym h.answers) }

  module _ {a : A} (h : Reads p x y (Ok a)) where
    pub behind : read_at (seq mk p f) x.text.now x.at ≡ map_res (mk a) (read_at (f a) y.text.now y.at)
    behind = rw (seq_at, sym h.answers, ← h.same)

    pub second : {z : Cursor} (r : Result B Departure) → Reads (f a) y z r → Reads (seq mk p f) x z (on_value (mk a) r)
    second {z} r k = record {
      same = k.same ∙ h.same;
      answers = of_value (mk a) r z.at ∙ ap (map_res (mk a)) k.answers ∙ sym behind;
    }

-- A fixed string in front of a piece.
module _ {A : Type 0} (l : List ℕ) (p : List ℕ → Res A) {x y : Cursor} where
  pub skip_departs : {d : Departure} → Reads (literal l) x y (Err d) → Reads (skip l p) x y (Err d)
  skip_departs h = first_departs (λ _ a. a) (literal l) (λ _. p) h

  pub behind_string : {u : Unit {0}} → Reads (literal l) x y (Ok u) → read_at (skip l p) x.text.now x.at ≡ read_at p y.text.now y.at
  behind_string h = behind (λ _ a. a) (literal l) (λ _. p) h ∙ map_id (read_at p y.text.now y.at)

  pub skipped : {z : Cursor} {u : Unit {0}} {r : Result A Departure} → Reads (literal l) x y (Ok u) → Reads p y z r
      → Reads (skip l p) x z r
  skipped h k = record { same = k.same ∙ h.same; answers = k.answers ∙ sym (behind_string h) }

-- A piece in front of a fixed string.
module _ {A : Type 0} (p : List ℕ → Res A) (l : List ℕ) {x y : Cursor} where
  pub piece_departs : {d : Departure} → Reads p x y (Err d) → Reads (up_to p l) x y (Err d)
  piece_departs h = first_departs (λ a _. a) p (λ _. literal l) h

  pub closed : {z : Cursor} {a : A} (r : Result (Unit {0}) Departure) → Reads p x y (Ok a) → Reads (literal l) y z r
      → Reads (up_to p l) x z (on_value (λ _. a) r)
  closed r h k = second (λ a _. a) p (λ _. literal l) h r k

-- One piece or another.
module _ {A : Type 0} (c : ℕ) (p q : List ℕ → Res A) {x y : Cursor} {r : Result A Departure} where
  pub reads_first : starts c (drop x.at x.text.now) ≡ true → Reads p x y r → Reads (either c p q) x y r
  reads_first e h = record { same = h.same; answers = h.answers ∙ sym (either_first c p q x.text.now x.at e) }

  pub reads_second : starts c (drop x.at x.text.now) ≡ false → Reads q x y r → Reads (either c p q) x y r
  reads_second e h = record { same = h.same; answers = h.answers ∙ sym (either_second c p q x.text.now x.at e) }

-- What was read, of which an answer shows v.
pub record Took {A B : Type 0} (f : A → B) (p : List ℕ → Res A) (x y : Cursor) (v : B) : Type 0 where
  pub item : A
  pub reads : Reads p x y (Ok item)
  pub shows : f item ≡ v

pub took : {A B : Type 0} (f : A → B) (p : List ℕ → Res A) {x y : Cursor} {v : B} → Reads (mapped f p) x y (Ok v) → Took f p x y v
took {A} f p {x} {y} {v} h = go (read_at p x.text.now x.at) refl (h.answers ∙ map_at f p x.text.now x.at)
  where
    go : (w : Res A) → w ≡ read_at p x.text.now x.at → got v y.at ≡ map_res f w → Took f p x y v
    go (got a i) e q = record { item = a; reads = record { same = h.same; answers = ap (got a) (ap ext q) ∙ e }; shows = cc }
    go (bad o) e q = absurd cc

pub lost : {A B : Type 0} (f : A → B) (p : List ℕ → Res A) {x y : Cursor} {d : Departure} → Reads (mapped f p) x y (Err d)
    → Reads p x y (Err d)
lost {A} f p {x} {y} {d} h = go (read_at p x.text.now x.at) refl (h.answers ∙ map_at f p x.text.now x.at)
  where
    go : (w : Res A) → w ≡ read_at p x.text.now x.at → bad d.at ≡ map_res f w → Reads p x y (Err d)
    go (got a i) e q = absurd cc
    go (bad o) e q = record { same = h.same; answers = ap bad (ap ext q) ∙ e }

-- Where a text departs tells nothing of where the cursor then stands.
pub anywhere : {A : Type 0} {p : List ℕ → Res A} {x y z : Cursor} {d : Departure} → z.text.now ≡ y.text.now → Reads p x y (Err d)
    → Reads p x z (Err d)
anywhere e h = record { same = e ∙ h.same; answers = h.answers }

-- A `?` hands the departure on, and the cursor as it stands.
pub kept : {A : Type 0} (x y : Cursor) (d : Departure) (r : Result A Departure) → IsErrAnd r (λ e. e ≡ d) → y.at ≡ x.at → Stays x y r
kept x y d r q h = let e = err_from_is_err_and r q in rw e.1 h

-- A `?` hands the departure on.
pub handed : {A : Type 0} {p : List ℕ → Res A} {x y : Cursor} {d : Departure} (r : Result A Departure) → IsErrAnd r (λ e. e ≡ d)
    → Reads p x y (Err d) → Reads p x y r
handed r q h = let e = err_from_is_err_and r q in rw (e.1, e.2) h

module _ (l s : List ℕ) (i j : ℕ) where
  pub literal_on : i < length s → j < length l → get_or s i 0 ≡ get_or l j 0
      → read_at (literal (drop j l)) s i ≡ read_at (literal (drop (j + 1) l)) s (i + 1)
  unfolding literal read_at
  literal_on h k e =
      rw (add-one j, drop-cons s i 0 h, drop-cons l j 0 k, eq-eqb (get_or s i 0) (get_or l j 0) e, later-next) (rw (add-one i))

  pub literal_departs : i < length s → j < length l → (get_or s i 0 ≡ get_or l j 0 → ⊥) → read_at (literal (drop j l)) s i ≡ bad i
  unfolding literal read_at
  literal_departs h k e = rw (drop-cons s i 0 h, drop-cons l j 0 k, ne_eqb (get_or s i 0) (get_or l j 0) e, add-zero)

  pub literal-ends : length s ≤ i → j < length l → read_at (literal (drop j l)) s i ≡ bad i
  unfolding literal read_at
  literal-ends h k = rw (drop_of_length-le s h, drop-cons l j 0 k, add-zero)

  pub literal_done : length l ≤ j → read_at (literal (drop j l)) s i ≡ got tt i
  unfolding literal read_at
  literal_done h = rw (drop_of_length-le l h, add-zero)

module _ (s : List ℕ) (i : ℕ) where
  module _ (d : ℕ) (h : Stands (Digit d) s i) where
    byte : drop i s ≡ (48 + d) ∷ drop (i + 1) s
    byte = let e : get_or s i 0 ≡ 48 + d = omega arith in rw (add-one i, drop-cons s i 0 h.0.inside, e)

    pub more_on : (v : ℕ) → v * 10 + d < 2 ^ 32 → read_at (more v) s i ≡ read_at (more (v * 10 + d)) s (i + 1)
    unfolding read_at
    more_on v l = rw (byte, more_digit v d (drop (i + 1) s) (omega arith) l, later-next)

    pub more-over : (v : ℕ) → 2 ^ 32 ≤ v * 10 + d → read_at (more v) s i ≡ bad i
    unfolding read_at
    more-over v l = rw (byte, more_large v d (drop (i + 1) s) (omega arith) l, add-zero)

    pub number_on : 1 ≤ d → read_at number s i ≡ read_at (more d) s (i + 1)
    unfolding read_at
    number_on l = rw (byte, first_digit d (drop (i + 1) s) l (omega arith), later-next)

    pub number-zero : d ≡ 0 → read_at number s i ≡ got 0 (i + 1)
    unfolding read_at number
    number-zero e = rw (byte, e)

  module _ (h : NoDigit (drop i s)) where
    pub more-ends : (v : ℕ) → read_at (more v) s i ≡ got v i
    unfolding read_at
    more-ends v = rw (more_stop v (drop i s) h, add-zero)

    pub number-none : read_at number s i ≡ bad i
    unfolding read_at
    number-none = rw (no_number (drop i s) h, add-zero)
