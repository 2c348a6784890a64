-- Whether a fixed string stands at a place of a text, byte by byte and as a whole.
-- Assumes nothing.
use Prim.Native.Nat.{ℕ, ◌+◌, ◌-◌, ◌≤◌, ◌<◌}
use mathlib.Core.Path.{◌≡◌, refl, sym, ap, ◌∙◌}
use mathlib.Core.List.{List, [], ◌∷◌}
use mathlib.Core.Bool.{Bool, true, false, cond, ◌&&◌, true≢false}
use mathlib.Core.Logic.{⊎_elim}
use native.Mathlib.Omega.{arith}
use lib.Dec.{eqb}
use lib.ListN.{length, get_or, drop, length-drop}
use borrow.Author.Tests.{eqb-true, eqb-false}
use Rattle.numbers.proofs.Tests.{bool_cases, lt_or_le}
use Rattle.text.specs.Reading.{Res, got, bad, ext, next, later, map_res, literal, read_at}
use Rattle.scanner.specs.Steps.{taken}
use Rattle.scanner.proofs.Places.{literal_on, literal_departs, literal_done}

taken_next : {A : Type 0} (x : Res A) → taken (next x) ≡ taken x
taken_next (got a n) = refl
taken_next (bad o) = refl

taken-later : {A : Type 0} (i : ℕ) (x : Res A) → taken (later i x) ≡ taken x
taken-later i (got a n) = refl
taken-later i (bad o) = refl

pub not_taken : {A B : Type 0} (f : A → B) (x : Res A) → taken x ≡ false → map_res f x ≡ bad (ext x)
not_taken f (got a n) e = absurd (true≢false e)
not_taken f (bad o) e = refl

-- A string that is read is read whole, and there is room for it.
record Whole (l t : List ℕ) (x : Res (Unit {0})) : Type 0 where
  all : x ≡ got tt (length l)
  fits : length l ≤ length t

whole_next : (c b : ℕ) (l t : List ℕ) (x : Bool) → (taken (literal l t) ≡ true → Whole l t (literal l t))
    → taken (cond x (next (literal l t)) (bad 0)) ≡ true → Whole (c ∷ l) (b ∷ t) (cond x (next (literal l t)) (bad 0))
whole_next c b l t true w e =
    let r = w (sym (taken_next (literal l t)) ∙ e) in record { all = ap next r.all; fits = omega arith }
whole_next c b l t false w e = absurd (true≢false (sym e))

whole : (l t : List ℕ) → taken (literal l t) ≡ true → Whole l t (literal l t)
unfolding literal
whole [] t e = record { all = refl; fits = omega arith }
whole (c ∷ l) [] e = absurd (true≢false (sym e))
whole (c ∷ l) (b ∷ t) e = whole_next c b l t (eqb b c) (whole l t) e

module _ (l s : List ℕ) (at : ℕ) where
  pub fits : taken (read_at (literal l) s at) ≡ true → length l ≤ length s - at
  unfolding read_at
  fits e =
      let w = whole l (drop at s) (sym (taken-later at (literal l (drop at s))) ∙ e) in
      omega (arith, w.fits, length-drop at s)

  pub read_whole : taken (read_at (literal l) s at) ≡ true → read_at (literal l) s at ≡ got tt (at + length l)
  unfolding read_at
  read_whole e = ap (later at) (whole l (drop at s) (sym (taken-later at (literal l (drop at s))) ∙ e)).all

  pub short : length s - at < length l → taken (read_at (literal l) s at) ≡ false
  short h = ⊎_elim (λ e. let f = fits e in absurd (omega arith)) (λ e. e) (bool_cases (taken (read_at (literal l) s at)))

-- One byte more.
module _ (l s : List ℕ) (i j : ℕ) where
  agree : (x : Bool) → i < length s → j < length l → eqb (get_or s i 0) (get_or l j 0) ≡ x
      → taken (read_at (literal (drop j l)) s i) ≡ cond x (taken (read_at (literal (drop (j + 1) l)) s (i + 1))) false
  agree true h k e = ap taken (literal_on l s i j h k (eqb-true _ _ e))
  agree false h k e = ap taken (literal_departs l s i j h k (eqb-false _ _ e))

  pub one_more : (same : Bool) → i < length s → j < length l
      → cond same (taken (read_at (literal (drop j l)) s i)) false
      ≡ cond (same && eqb (get_or s i 0) (get_or l j 0)) (taken (read_at (literal (drop (j + 1) l)) s (i + 1))) false
  one_more true h k = agree (eqb (get_or s i 0) (get_or l j 0)) h k refl
  one_more false h k = refl

  -- What is left of a string that does not stand there is not nothing.
  pub left : taken (read_at (literal (drop j l)) s i) ≡ false → j < length l
  left e = ⊎_elim (λ k. k) (λ k. absurd (true≢false (sym (ap taken (literal_done l s i j k)) ∙ e))) (lt_or_le j (length l))

pub cond_self : (b : Bool) → cond b true false ≡ b
cond_self true = refl
cond_self false = refl
