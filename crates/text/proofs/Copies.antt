-- The answers of the reader and the writer: each is one; and when the reader takes a text.
-- Assumes nothing.
use Rattle.std.specs.Prelude.{Ok, Err}
use Prim.Native.Nat.{ℕ, ◌≤◌}
use mathlib.Core.Path.{◌≡◌, refl, sym, ap, ◌∙◌, subst}
use mathlib.Core.List.{List}
use native.Mathlib.Omega.{arith}
use lib.ListN.{length}
use Rattle.numbers.specs.Numbers.{Lowest}
use Rattle.taskset.specs.Refusals.{number, second, IsShort, Passes, Accepts, room_check, word_check, word_checks}
use Rattle.taskset.proofs.Checks.{AllSingle, lowest_single, not-both, no_word_fault}
use Rattle.layout.specs.Whole.{IsWhole}
use Rattle.layout.proofs.Whole.{whole_of}
use Rattle.layout.specs.declared.Layout.TheVariants.{Ordinary}
use Rattle.taskset.specs.Calls.{Copied}
use Rattle.taskset.proofs.Unique.{refusal_unique, short_single, single_next, word_single, copy_unique}
use Rattle.taskset.proofs.Copied.{SameCopied, copied_one}
use Rattle.text.specs.Text.{Script, script_text, IsTextOf, WellFormed, FirstBad, words, script_of}
use Rattle.text.specs.Calls.{WorksOut, HasOver, over_check, words_check, reader_checks, ReaderGives}
use Rattle.text.specs.Calls.{writer_checks, WriterGives}
use Rattle.text.specs.Reading.{Res, got, bad, read_text}
use Rattle.text.proofs.Pieces.{first_bad_one, no_first_bad}
use Rattle.text.proofs.Grammar.{Answer, read_render, read_right}
use Rattle.text.proofs.RoundTrip.{words_of_list, script_of_list}
use Rattle.taskset.specs.Answers.{CopyAnswer}

-- ---- texts and scripts
pub reads : (s : Script) (t : List ℕ) → IsTextOf s t → read_text t ≡ got s (length t)
reads s t h = subst (λ (u : List ℕ). read_text u ≡ got s (length u)) h.text (read_render s h.script)

pub is_read : (s : Script) (t : List ℕ) (n : ℕ) → read_text t ≡ got s n → IsTextOf s t × (n ≡ length t)
is_read s t n e = subst (Answer t) e (read_right t)

pub is_refused : (t : List ℕ) (o : ℕ) → read_text t ≡ bad o → FirstBad WellFormed t o
is_refused t o e = subst (Answer t) e (read_right t)

pub refuses : (t : List ℕ) (o : ℕ) → FirstBad WellFormed t o → read_text t ≡ bad o
refuses t o h = go (read_text t) (read_right t)
  where
    go : (x : Res Script) → Answer t x → x ≡ bad o
    go (got s n) a = absurd (no_first_bad WellFormed t o (s, a.0) h)
    go (bad p) a = ap (λ (k : ℕ). bad k) (first_bad_one WellFormed t p o a h)

-- One text says one script.
pub one_script : (s r : Script) (t : List ℕ) → IsTextOf s t → IsTextOf r t → s ≡ r
one_script s r t h k = let e : got s (length t) ≡ got r (length t) = sym (reads s t h) ∙ reads r t k in cc

-- No energy that is worked out for a script is over the largest.
abbrev pub NoneOver : Script → Type 0
NoneOver s = WorksOut s.clock → (k : ℕ) → HasOver s k → ⊥

pub none_refused : (s : Script) (t : List ℕ) → IsTextOf s t → NoneOver s → Passes (over_check t)
none_refused s t is none k h =
    let same : h.0 ≡ s = one_script h.0 s t h.1 is in
    none (subst (λ (r : Script). WorksOut r.clock) same h.2) k (subst (λ (r : Script). HasOver r k) same h.3.here)

-- A script's text is taken wherever none is and the list lent has room for its words.
pub takes : (s : Script) (t : List ℕ) (lent : ℕ) → IsTextOf s t → NoneOver s → length (words s) ≤ lent
    → Accepts (reader_checks t lent)
takes s t lent is none room =
    let short : Passes (words_check t lent) = λ k h.
    omega (arith, h.2.0, ap (λ (r : Script). length (words r)) (one_script h.0 s t h.1 is)) in
    ((λ o h. no_first_bad WellFormed t o (s, is) h), (none_refused s t is none, (short, tt)))

-- A list that passes check 2 has a text, which says its words.
module _ (s : List ℕ) (pass : Passes (word_check Ordinary s)) where
  whole : IsWhole Ordinary s
  whole = whole_of Ordinary s (no_word_fault Ordinary s pass)

  pub list_text : IsTextOf (script_of s) (script_text (script_of s))
  list_text = record { script = script_of_list s whole; text = refl }

  pub list-words : words (script_of s) ≡ s
  list-words = words_of_list s whole

-- ---- each answer is one
pub reader_single : (t : List ℕ) (lent : ℕ) → AllSingle (reader_checks t lent)
reader_single t lent = (first_bad_one WellFormed t, (over, (short, tt)))
  where
    over : (j k : ℕ) → (s : Script) × IsTextOf s t × WorksOut s.clock × Lowest (HasOver s) j
        → (s : Script) × IsTextOf s t × WorksOut s.clock × Lowest (HasOver s) k → j ≡ k
    over j k x y =
        lowest_single j k (subst (λ (s : Script). Lowest (HasOver s) j) (one_script x.0 y.0 t x.1 y.1) x.3) y.3

    short : (j k : ℕ) → (s : Script) × IsTextOf s t × IsShort (length (words s)) lent j
        → (s : Script) × IsTextOf s t × IsShort (length (words s)) lent k → j ≡ k
    short j k x y = x.2.1 ∙ ap (λ (s : Script). length (words s)) (one_script x.0 y.0 t x.1 y.1) ∙ sym y.2.1

writer_single : (s : List ℕ) (lent : ℕ) → AllSingle (writer_checks s lent)
writer_single s lent =
    single_next (word_checks Ordinary s) (room_check (length (script_text (script_of s))) lent) (word_single Ordinary s) (short_single (length (script_text (script_of s))) lent)

pub reader_unique : (t d d₁ d₂ : List ℕ) (a b : CopyAnswer) → ReaderGives t d d₁ a → ReaderGives t d d₂ b → SameCopied a b d₁ d₂
reader_unique t d d₁ d₂ (Ok n) (Ok k) x y =
    let same : x.1.0 ≡ y.1.0 = one_script x.1.0 y.1.0 t x.1.1 y.1.1 in
    copied_one (words y.1.0) d d₁ d₂ (Ok n) (Ok k) (subst (λ (s : Script). Copied (words s) d d₁ (Ok n)) same x.1.2) y.1.2
reader_unique t d d₁ d₂ (Ok n) (Err r) x y = absurd (not-both (reader_checks t (length d)) (number r) (second r) x.0 y.0)
reader_unique t d d₁ d₂ (Err r) (Ok n) x y = absurd (not-both (reader_checks t (length d)) (number r) (second r) y.0 x.0)
reader_unique t d d₁ d₂ (Err q) (Err r) x y = record {
  answer = ap Err (refusal_unique (reader_checks t (length d)) (reader_single t (length d)) q r x.0 y.0);
  list = x.1 ∙ sym y.1;
}

pub writer_unique : (s d d₁ d₂ : List ℕ) (a b : CopyAnswer) → WriterGives s d d₁ a → WriterGives s d d₂ b → SameCopied a b d₁ d₂
writer_unique s d = copy_unique (writer_checks s (length d)) (writer_single s (length d)) (script_text (script_of s)) d
