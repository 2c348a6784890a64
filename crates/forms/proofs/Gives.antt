-- What the reader of a form gives, from what its pieces give.
-- Assumes nothing.
use Prim.Native.Nat.{ℕ}
use mathlib.Core.Path.{◌≡◌, refl, sym, ap, ◌∙◌}
use mathlib.Core.List.{List}
use mathlib.Core.Bool.{true, false}
use lib.ListN.{drop}
use Rattle.std.specs.Prelude.{Result, Ok, Err}
use Rattle.std.specs.Result.{IsErrAnd}
use Rattle.std.proofs.lemmas.Result.{err_from_is_err_and}
use Rattle.text.specs.Reading.{Res, got, bad, map_res, mapped, seq, skip, up_to, literal, either, starts, read_at}
use Rattle.lists.specs.Writing.{written}
use Rattle.scanner.specs.Steps.{Reads}
use Rattle.scanner.specs.declared.Cursor.{Cursor}
use Rattle.scanner.specs.declared.Departure.{Departure}
use Rattle.scanner.proofs.Places.{map_at, either_first, either_second, shown, behind, behind_string, map_id, closed, took}
use Rattle.forms.specs.Forms.{Wrote, Gives, no_value}

-- The form departs; or it was read, and the list says so.
module _ {A B : Type 0} (value : A → B) (words : A → List ℕ) (p : List ℕ → Res A) {x y : Cursor} {k : ℕ} {d e : List ℕ} where
  pub refuses : {o : Departure} → Reads p x y (Err o) → Gives value words p x y k d e (Err o)
  refuses {o} h = record { reads = shown value p (Err o) h; wrote = rw (sym h.answers) tt }

  pub gives : {a : A} {v : B} → Reads p x y (Ok a) → value a ≡ v → e ≡ written k (words a) d → Gives value words p x y k d e (Ok v)
  gives {a} h s w = record { reads = rw (← s) (shown value p (Ok a) h); wrote = rw (sym h.answers) w }

  -- A `?` hands the departure on.
  pub handed : {o : Departure} (r : Result B Departure) → IsErrAnd r (λ o'. o' ≡ o) → Gives value words p x y k d e (Err o)
      → Gives value words p x y k d e r
  handed r q h = let e = err_from_is_err_and r q in rw (e.1, e.2) h

-- What was read, and its words in the list.
pub record Told {A B : Type 0} (value : A → B) (words : A → List ℕ) (p : List ℕ → Res A) (x y : Cursor) (k : ℕ)
    (d e : List ℕ) (v : B) : Type 0 where
  pub item : A
  pub reads : Reads p x y (Ok item)
  pub shows : value item ≡ v
  pub wrote : e ≡ written k (words item) d

pub told : {A B : Type 0} (value : A → B) (words : A → List ℕ) (p : List ℕ → Res A) {x y : Cursor} {k : ℕ} {d e : List ℕ} {v : B}
    → Gives value words p x y k d e (Ok v) → Told value words p x y k d e v
told value words p g =
    let t = took value p g.reads in
    record { item = t.item; reads = t.reads; shows = t.shows; wrote = rw (sym t.reads.answers) at g.wrote }

map-map : {A B C : Type 0} (f : B → C) (g : A → B) (w : Res A) → map_res f (map_res g w) ≡ map_res (λ a. f (g a)) w
map-map f g (got a i) = refl
map-map f g (bad o) = refl

-- A form whose value is turned into that of another.
through : {A B C : Type 0} {value : B → C} {words : B → List ℕ} (g : A → B) (p : List ℕ → Res A) (q : List ℕ → Res B)
    {x y z : Cursor} {k : ℕ} {d e : List ℕ} {r : Result C Departure}
    → y.text.now ≡ x.text.now → read_at q x.text.now x.at ≡ map_res g (read_at p y.text.now y.at)
    → Gives (λ a. value (g a)) (λ a. words (g a)) p y z k d e r → Gives value words q x z k d e r
through {A} {B} {C} {value} {words} g p q {x} {y} {z} {k} {d} {e} {r} s is h = record {
  reads = record {
    same = h.reads.same ∙ s;
    answers = h.reads.answers ∙ map_at (λ a. value (g a)) p y.text.now y.at
        ∙ sym (map_at value q x.text.now x.at ∙ ap (map_res value) is ∙ map-map value g (read_at p y.text.now y.at));
  };
  wrote = rw is (go (read_at p y.text.now y.at) h.wrote);
}
  where
    go : (w : Res A) → Wrote (λ a. words (g a)) k d e w → Wrote words k d e (map_res g w)
    go (got a i) l = l
    go (bad o) l = tt

-- A piece was read, and what follows it gives the rest.
module _ {A B C D : Type 0} {value : C → D} {words : C → List ℕ} (mk : A → B → C) (p : List ℕ → Res A) (f : A → List ℕ → Res B)
    {x y z : Cursor} {k : ℕ} {d e : List ℕ} {r : Result D Departure} where
  pub then_gives : {a : A} → Reads p x y (Ok a) → Gives (λ b. value (mk a b)) (λ b. words (mk a b)) (f a) y z k d e r
      → Gives value words (seq mk p f) x z k d e r
  then_gives {a} h g = through (mk a) (f a) (seq mk p f) h.same (behind mk p f h) g

module _ {A B : Type 0} {value : A → B} {words : A → List ℕ} {x y z : Cursor} {k : ℕ} {d e : List ℕ} {r : Result B Departure} where
  pub skip_gives : (l : List ℕ) (p : List ℕ → Res A) {u : Unit {0}} → Reads (literal l) x y (Ok u) → Gives value words p y z k d e r
      → Gives value words (skip l p) x z k d e r
  skip_gives l p h g = through (λ a. a) p (skip l p) h.same (behind_string l p h ∙ sym (map_id (read_at p y.text.now y.at))) g

-- The same place, by another name.
module _ {A B : Type 0} {value : A → B} {words : A → List ℕ} (c : ℕ) (p q : List ℕ → Res A) {x y : Cursor} {k : ℕ} {d e : List ℕ}
    {r : Result B Departure} where
  pub first_gives : starts c (drop x.at x.text.now) ≡ true → Gives value words p x y k d e r → Gives value words (either c p q) x y k d e r
  first_gives e g = through (λ a. a) p (either c p q) refl
      (either_first c p q x.text.now x.at e ∙ sym (map_id (read_at p x.text.now x.at))) g

  pub second_gives : starts c (drop x.at x.text.now) ≡ false → Gives value words q x y k d e r → Gives value words (either c p q) x y k d e r
  second_gives e g = through (λ a. a) q (either c p q) refl
      (either_second c p q x.text.now x.at e ∙ sym (map_id (read_at q x.text.now x.at))) g

pub map_gives : {A B C : Type 0} {value : B → C} {words : B → List ℕ} (f : A → B) (p : List ℕ → Res A) {x y : Cursor} {k : ℕ}
    {d e : List ℕ} {r : Result C Departure} → Gives (λ a. value (f a)) (λ a. words (f a)) p x y k d e r
    → Gives value words (mapped f p) x y k d e r
map_gives f p {x} g = through f p (mapped f p) refl (map_at f p x.text.now x.at) g

-- What is left is a fixed string: then the words stand there.
pub closes : {A : Type 0} (words : A → List ℕ) (p : List ℕ → Res A) (l : List ℕ) {x y z : Cursor} {k : ℕ} {d e : List ℕ} {a : A}
    (r : Result (Unit {0}) Departure) → Reads p x y (Ok a) → e ≡ written k (words a) d → Reads (literal l) y z r
    → Gives no_value words (up_to p l) x z k d e r
closes words p l (Ok u) h w q = gives no_value words (up_to p l) (closed p l (Ok u) h q) refl w
closes words p l (Err o) h w q = refuses no_value words (up_to p l) (closed p l (Err o) h q)
