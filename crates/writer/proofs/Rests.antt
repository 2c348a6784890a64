-- A buffer of which the rest, from a place on, is lent to what writes the next form there.
-- Assumes nothing.
use Prim.Native.Nat.{ℕ, ◌+◌, ◌-◌, ◌≤◌}
use mathlib.Core.Path.{◌≡◌, sym, ◌∙◌}
use mathlib.Core.List.{List, ◌++◌}
use native.Mathlib.Omega.{arith}
use lib.ListN.{length, take, drop, length-append, length-take, length-drop}
use borrow.Rule.Slice.PartMut.{put_mid}
use Rattle.lists.proofs.Writing.{written_front}
use Rattle.printer.specs.Puts.{Put, Added}
use Rattle.printer.specs.Sinks.{SinkLaws}
use Rattle.printer.specs.Taken.{none_added, then_added, added_length}
use Rattle.printer.proofs.Puts.{lent}

-- A buffer and the place at which its rest begins: a sink like the others.
pub record RestFits (s : List ℕ × ℕ) (xs : List ℕ) : Type 0 where
  pub room : s.1 + length xs ≤ length s.0

pub record RestTakes (s : List ℕ × ℕ) (xs : List ℕ) (t : List ℕ × ℕ) : Type 0 where
  pub fits : RestFits s xs
  pub added : Added s.1 xs s.0 t.0 t.1

pub rest_laws : SinkLaws RestFits RestTakes
rest_laws = record {
  none = λ {s} h. record { fits = h; added = none_added s.0 s.1 (omega arith) };
  then = λ {s} {t} {u} {xs} {ys} a b. record {
    fits = record { room = omega (arith, b.fits.room, length-append xs ys, added_length (omega (arith, a.fits.room)) a.added, a.added.size) };
    added = then_added a.added b.added;
  };
  front = λ {s} xs ys h. record { room = omega (arith, h.room, length-append xs ys) };
  behind = λ {s} {t} {xs} {ys} h a. record {
    room = omega (arith, h.room, length-append xs ys, added_length (omega (arith, a.fits.room)) a.added, a.added.size);
  };
}

-- The whole buffer was lent, or its rest, and xs put there.
pub first_took : {xs e f : List ℕ} {n : ℕ} → RestFits (e, 0) xs → Put xs e f n → RestTakes (e, 0) xs (f, n)
first_took {xs} {e} h q =
    record { fits = h; added = record { inside = omega arith; size = omega (arith, q.size); is = q.is ∙ sym (written_front xs e) } }

pub rest_took : {xs e f : List ℕ} {p n : ℕ} → RestFits (e, p) xs → Put xs (take (length e - p) (drop p e)) f n
    → RestTakes (e, p) xs (put_mid p (length e - p) e f, p + n)
rest_took h q = record { fits = h; added = lent (omega (arith, h.room)) q }

-- Room in the rest is room in what is lent.
pub rest_room : {xs e : List ℕ} {p : ℕ} → RestFits (e, p) xs → length xs ≤ length (take (length e - p) (drop p e))
rest_room h = simp (length-take, length-drop) (omega (arith, h.room))

-- The place is inside, wherever something has room.
pub rest_inside : {xs e : List ℕ} {p : ℕ} → RestFits (e, p) xs → p ≤ length e
rest_inside h = omega (arith, h.room)
