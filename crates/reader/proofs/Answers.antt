-- The answer of the call, from what reading a script gave.
-- Assumes nothing.
use Rattle.std.specs.Prelude.{Ok, Err}
use Prim.Native.Nat.{ℕ, ◌≤◌, ◌<◌}
use mathlib.Core.Path.{◌≡◌, refl, sym, ap, ◌∙◌}
use mathlib.Core.List.{List}
use mathlib.Core.Logic.{inl, inr}
use native.Mathlib.Omega.{arith}
use lib.ListN.{length}
use borrow.Author.Tests.{eq-eqb, ne_eqb}
use Rattle.numbers.specs.Numbers.{Lowest}
use Rattle.taskset.specs.declared.Refusal.TheVariants.{TextDeparts, TooShort, EnergyOver}
use Rattle.taskset.proofs.Copied.{copied}
use Rattle.text.specs.Text.{Script, script_text, ScriptOk, IsTextOf, WellFormed, FirstBad, words}
use Rattle.text.specs.Calls.{WorksOut, HasOver, ReaderGives}
use Rattle.text.specs.Reading.{Res, got, bad, ended, read_script, read_text, read_at}
use Rattle.text.proofs.Pieces.{Good, no_first_bad}
use Rattle.text.proofs.Grammar.{dom_of, script_piece}
use Rattle.text.proofs.Copies.{is_read, is_refused, NoneOver, none_refused, takes}
use Rattle.lists.specs.Writing.{placed}
use Rattle.std.specs.Prelude.{Ok, Err}
use Rattle.scanner.specs.Steps.{Reads}
use Rattle.scanner.specs.declared.Cursor.{Cursor}
use Rattle.scanner.specs.declared.Departure.{Departure}
use Rattle.scanner.proofs.Places.{later-zero}

text_is : (t : List ℕ) → read_text t ≡ ended (length t) (read_at read_script t 0)
unfolding read_text read_at
text_is t = rw (later-zero (read_script t))

-- What was read is part of the text.
pub inside : (t : List ℕ) (s : Script) (i : ℕ) → read_at read_script t 0 ≡ got s i → i ≤ length t
unfolding read_at
inside t s i e = go (read_script t) (script_piece.good t) (sym (later-zero (read_script t)) ∙ e)
  where
    go : (x : Res Script) → Good script_text ScriptOk t x → x ≡ got s i → i ≤ length t
    go (got u n) g q = let z : n ≡ i = cc in omega (arith, g.1)
    go (bad o) g q = let z : ◌≡◌ {A = ℕ} 0 1 = cc in absurd (omega arith)

-- What was read from the start of a text, and where reading departs.
module _ {A : Type 0} (p : List ℕ → Res A) (t : List ℕ) (x : Cursor) (start : (x.text.now ≡ t) × (x.at ≡ 0)) where
  from_start : read_at p t 0 ≡ read_at p x.text.now x.at
  from_start = ap (λ (s : List ℕ). read_at p s 0) (sym start.0) ∙ ap (read_at p x.text.now) (sym start.1)

  pub reads_at_start : {y : Cursor} {a : A} {i : ℕ} → i ≡ y.at → Reads p x y (Ok a) → read_at p t 0 ≡ got a i
  reads_at_start {y} {a} e h = from_start ∙ sym h.answers ∙ ap (got a) (sym e)

  pub departs_at_start : {y : Cursor} {o : Departure} → Reads p x y (Err o) → read_at p t 0 ≡ bad o.at
  departs_at_start h = from_start ∙ sym h.answers

module _ (t d : List ℕ) where
  departs : (o : ℕ) → read_text t ≡ bad o → ReaderGives t d d (Err (TextDeparts o))
  departs o e = (inl (refl, is_refused t o e), refl)

  -- Reading a script departs.
  pub not-read : (o : ℕ) → read_at read_script t 0 ≡ bad o → ReaderGives t d d (Err (TextDeparts o))
  not-read o e = departs o (text_is t ∙ rw e)

  module _ (s : Script) (i : ℕ) (e : read_at read_script t 0 ≡ got s i) where
    -- Something follows the last line.
    pub trailing : i < length t → ReaderGives t d d (Err (TextDeparts i))
    trailing h = departs i (text_is t ∙ rw (e, ne_eqb i (length t) (omega arith)))

    is_text : length t ≤ i → IsTextOf s t
    is_text h =
        (is_read s t i (text_is t ∙ rw (e, eq-eqb i (length t) (omega (arith, inside t s i e))))).0

    departs_nowhere : IsTextOf s t → (o : ℕ) → FirstBad WellFormed t o → ⊥
    departs_nowhere x o = no_first_bad WellFormed t o (s, x)

    -- An energy that was worked out is over the largest: k is the number that the code found.
    pub over : (k : ℕ) → length t ≤ i → WorksOut s.clock × Lowest (HasOver s) k → ReaderGives t d d (Err (EnergyOver k))
    over k h o =
        let x = is_text h in
        (inr (departs_nowhere x, inl (refl, (s, x, o.0, o.1))), refl)

    pub too_short : (n : ℕ) → length t ≤ i → NoneOver s → length (words s) ≡ n → length d < n
        → ReaderGives t d d (Err (TooShort n))
    too_short n h none w l =
        let x = is_text h in
        (inr (departs_nowhere x, inr (none_refused s t x none, inl (refl, (s, x, (omega arith, sym w))))), refl)

    pub all-written : (n : ℕ) (f : List ℕ) → length t ≤ i → NoneOver s → n ≡ length (words s)
        → length (words s) ≤ length d → f ≡ placed (words s) d
        → ReaderGives t d f (Ok n)
    unfolding placed
    all-written n f h none w l p =
        let x = is_text h in
        (takes s t (length d) x none l, (s, x, copied (words s) d f n w p))

-- What was read is a script that a text can say.
pub is_ok : (t : List ℕ) (s : Script) (i : ℕ) → read_at read_script t 0 ≡ got s i → ScriptOk s
is_ok t s i e = dom_of script_piece t 0 i s e
