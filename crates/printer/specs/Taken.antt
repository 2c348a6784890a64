-- The buffer as a sink. Not part of what a reader must believe.
use Rattle.std.specs.Prelude.{ℕ, ◌+◌, ◌≤◌, ◌≡◌, List, [], ◌++◌, length}
use Rattle.std.proofs.Common.{refl, ap, ◌∙◌, arith}
use Rattle.std.proofs.Math.ListN.{length-append}
use Rattle.printer.specs.Sinks.{SinkLaws}
use Rattle.printer.specs.Puts.{Added}
use Rattle.lists.specs.Writing.{written}
use Rattle.lists.proofs.Writing.{written_none, length-written, written_then}
use Rattle.printer.specs.declared.Buffer.{Buffer}

-- The bytes fit behind the place, and are put there, in the same buffer; and the place is then behind them.
pub record BufferFits (s : Buffer) (xs : List ℕ) : Type 0 where
  pub room : s.at + length xs ≤ length s.all.now

pub record BufferTakes (s : Buffer) (xs : List ℕ) (t : Buffer) : Type 0 where
  pub same : t.all.ghost_name ≡ s.all.ghost_name
  pub fits : BufferFits s xs
  pub added : Added s.at xs s.all.now t.all.now t.at

-- Nothing yet, from a place on; and a part, and then a part behind it. A buffer stays as long as it was.
pub none_added : (d : List ℕ) (at : ℕ) → at ≤ length d → Added at [] d d at
none_added d at h = record { inside = h; size = omega arith; is = written_none d at }

pub then_added : {xs ys d e f : List ℕ} {at p r : ℕ} → Added at xs d e p → Added p ys e f r → Added at (xs ++ ys) d f r
then_added {xs} {ys} {d} {e} {f} {at} {p} {r} a b = record {
  inside = a.inside;
  size = omega (arith, a.size, b.size, length-append xs ys);
  is = b.is ∙ ap (written p ys) a.is ∙ written_then xs ys d at p a.size a.inside;
}

pub added_length : {xs d e : List ℕ} {at n : ℕ} → n ≤ length d → Added at xs d e n → length e ≡ length d
added_length {xs} {d} {e} {at} {n} h a = ap length a.is ∙ length-written xs d at (omega (arith, a.size))

pub buffer_laws : SinkLaws BufferFits BufferTakes
buffer_laws = record {
  none = λ {s} h. record { same = refl; fits = h; added = none_added s.all.now s.at (omega arith) };
  then = λ {s} {t} {u} {xs} {ys} a b. record {
    same = b.same ∙ a.same;
    fits = record { room = omega (arith, length-append xs ys, added_length (omega arith) a.added) };
    added = then_added a.added b.added;
  };
  front = λ {s} xs ys h. record { room = omega (arith, length-append xs ys) };
  behind = λ {s} {t} {xs} {ys} h a. record { room = omega (arith, length-append xs ys, added_length (omega arith) a.added) };
}
