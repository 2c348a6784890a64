-- What a class tells of the byte at a place, as the definition of reading tests it.
-- Assumes nothing.
use Prim.Native.Nat.{ℕ, ◌≤◌, ◌<◌}
use mathlib.Core.Path.{◌≡◌, refl}
use mathlib.Core.List.{List}
use mathlib.Core.Bool.{Bool, true, false}
use mathlib.Core.Logic.{⊎_elim}
use native.Mathlib.Omega.{arith}
use lib.ListN.{length, get_or, drop, drop_of_length-le}
use lib.Seq.{drop-cons}
use lib.Dec.{eqb}
use borrow.Author.Tests.{ne_eqb}
use Rattle.numbers.proofs.Tests.{lt_or_le, between_true}
use Rattle.text.specs.Reading.{within, starts}
use Rattle.text.proofs.Digits.{NoDigit}
use Rattle.scanner.specs.Steps.{Outside, Stands}
use Rattle.scanner.specs.declared.Class.{Class}
use Rattle.scanner.specs.declared.Class.TheVariants.{End, Digit, Bracket, Space, LineEnd, Letter, Other}

outside : (low high b : ℕ) → Outside low high b → within low high b ≡ false
outside low high b h = go (within low high b) refl
  where
    go : (x : Bool) → within low high b ≡ x → x ≡ false
    go true e = let r = between_true low high b e in absurd (h r.0 r.1)
    go false e = refl

module _ (s : List ℕ) (i : ℕ) where
  -- No byte from low to high stands there.
  abbrev pub Clear : ℕ → ℕ → Type 0
  Clear low high = i < length s → Outside low high (get_or s i 0)

  pub no_digit : Clear 48 57 → NoDigit (drop i s)
  no_digit h =
      ⊎_elim (λ l. rw (drop-cons s i 0 l) (outside 48 57 (get_or s i 0) (h l))) (λ l. rw (drop_of_length-le s {i = i} l) tt)
      (lt_or_le i (length s))

  pub not_there : (c : ℕ) → Clear c c → starts c (drop i s) ≡ false
  not_there c h =
      ⊎_elim (λ l. rw (drop-cons s i 0 l) (ne_eqb (get_or s i 0) c (λ e. h l (omega arith) (omega arith)))) (λ l. rw (drop_of_length-le s {i = i} l))
      (lt_or_le i (length s))

  pub there : (c b : ℕ) → i < length s → b ≡ get_or s i 0 → starts c (drop i s) ≡ eqb b c
  there c b l e = rw (drop-cons s i 0 l, e)

  -- What the arm of a match on a class tells that stands for every class but one.
  pub not_digit : (r : Class) → Stands r s i → ((x : ℕ) → r ≡ Digit x → ⊥) → Clear 48 57
  not_digit End e h l a b = omega arith
  not_digit (Digit d) e h l a b = absurd (h d refl)
  not_digit (Bracket x) e h l a b = omega arith
  not_digit Space e h l a b = omega arith
  not_digit LineEnd e h l a b = omega arith
  not_digit (Letter x) e h l a b = omega arith
  not_digit Other e h l a b = e.no_digit a b

  pub not_space : (r : Class) → Stands r s i → (r ≡ Space → ⊥) → Clear 32 32
  not_space End e h l a b = omega arith
  not_space (Digit d) e h l a b = omega arith
  not_space (Bracket x) e h l a b = omega arith
  not_space Space e h l a b = absurd (h refl)
  not_space LineEnd e h l a b = omega arith
  not_space (Letter x) e h l a b = omega arith
  not_space Other e h l a b = e.no_space a b

  pub not_bracket : (r : Class) → Stands r s i → ((x : ℕ) → r ≡ Bracket x → ⊥) → Clear 40 40
  not_bracket End e h l a b = omega arith
  not_bracket (Digit d) e h l a b = omega arith
  not_bracket (Bracket x) e h l a b = absurd (h x refl)
  not_bracket Space e h l a b = omega arith
  not_bracket LineEnd e h l a b = omega arith
  not_bracket (Letter x) e h l a b = omega arith
  not_bracket Other e h l a b = e.no_bracket a (omega arith)

  pub not_letter : (c : ℕ) → 97 ≤ c → c ≤ 122 → (r : Class) → Stands r s i → ((x : ℕ) → r ≡ Letter x → ⊥) → Clear c c
  not_letter c x y End e h l a b = omega arith
  not_letter c x y (Digit d) e h l a b = omega arith
  not_letter c x y (Bracket z) e h l a b = omega arith
  not_letter c x y Space e h l a b = omega arith
  not_letter c x y LineEnd e h l a b = omega arith
  not_letter c x y (Letter z) e h l a b = absurd (h z refl)
  not_letter c x y Other e h l a b = e.no_letter (omega arith) (omega arith)
