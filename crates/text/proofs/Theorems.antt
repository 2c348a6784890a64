-- The theorems on the bracketed text, each in one statement, for a reader of the proofs.
-- Assumes nothing.
use Rattle.std.specs.Prelude.{Ok}
use Prim.Native.Nat.{ℕ, suc, ◌^◌, ◌≤◌, ◌<◌}
use mathlib.Core.Path.{◌≡◌, refl, sym, ◌∙◌}
use mathlib.Core.List.{List, ◌++◌}
use mathlib.Core.Logic.{◌↔◌, ◌⊎◌, inl, inr}
use mathlib.Core.Option.{Option, none}
use native.Mathlib.Omega.{arith}
use lib.ListN.{length, take, drop}
use Rattle.numbers.specs.Numbers.{All}
use Rattle.layout.specs.declared.Layout.TheVariants.{Ordinary}
use Rattle.chips.specs.declared.Chip.{Chip}
use Rattle.chips.proofs.Limits.{most_cycles}
use Rattle.taskset.specs.Refusals.{Passes, Accepts, word_check, word_checks, idle_check, room_check}
use Rattle.taskset.proofs.Checks.{accepts_next, passed}
use Rattle.taskset.proofs.Copied.{SameCopied}
use Rattle.text.specs.Text.{TaskLine, Script, decimal, script_text, IsTextOf, WellFormed, FirstBad, words, script_of}
use Rattle.text.specs.Calls.{HasOver, reader_checks, ReaderGives, writer_checks, WriterGives}
use Rattle.text.specs.Reading.{Res, got, bad, read_text}
use Rattle.text.proofs.Numerals as numerals
use Rattle.text.proofs.Numerals.{said}
use Rattle.text.proofs.Pieces.{first_bad_one, no_first_bad}
use Rattle.text.proofs.Grammar.{Answer, read_render, read_right}
use Rattle.text.proofs.Sizes.{text_length}
use Rattle.text.proofs.Copies.{reads, is_read, one_script, list_text, list-words}
use Rattle.text.proofs.Copies.{reader_unique, writer_unique}
use Rattle.text.proofs.Written.{read_back, read_again}
use Rattle.text.proofs.Expanded.{chip_script, line_at, over_iff, LineIn, IdleIn, passes_over, list_passes, own_passes}
use Rattle.taskset.specs.Answers.{CopyAnswer}

-- ---- numbers
-- The digits of a number say it, read from the first on: for every number of 64 bits, and so for every one that is read
-- or printed.
pub decimal_says : (n : ℕ) → n < 10 ^ 20 → said 0 (decimal n) ≡ n
decimal_says = numerals.decimal_says

-- ---- texts
-- Reading gives a script, and all of the text's bytes, just where the text is the text of that script.
pub accepts_well_formed : (s : Script) (t : List ℕ) → (read_text t ≡ got s (length t)) ↔ IsTextOf s t
accepts_well_formed s t = ((λ e. (is_read s t (length t) e).0), reads s t)

-- Every text is well formed or has a first bad offset.
pub well_formed_or_bad : (t : List ℕ) → WellFormed t ⊎ ((o : ℕ) × FirstBad WellFormed t o)
well_formed_or_bad t = go (read_text t) (read_right t)
  where
    go : (x : Res Script) → Answer t x → WellFormed t ⊎ ((o : ℕ) × FirstBad WellFormed t o)
    go (got s n) a = inl (s, a.0)
    go (bad o) a = inr (o, a)

-- Whatever the form, a text has at most one first bad offset, and a text of the form has none.
pub one-first_bad : (Form : List ℕ → Type 0) (t : List ℕ) (o p : ℕ) → FirstBad Form t o → FirstBad Form t p → o ≡ p
one-first_bad = first_bad_one

pub none_in_form : (Form : List ℕ → Type 0) (t : List ℕ) (o : ℕ) → Form t → FirstBad Form t o → ⊥
none_in_form = no_first_bad

-- A script has one text, and a text one script.
pub script_has_one_text : (s : Script) (t u : List ℕ) → IsTextOf s t → IsTextOf s u → t ≡ u
script_has_one_text s t u h k = sym h.text ∙ k.text

pub text_has_one_script : (s r : Script) (t : List ℕ) → IsTextOf s t → IsTextOf r t → s ≡ r
text_has_one_script = one_script

-- "A well-formed text is now under 6,000 bytes."
pub under_6000 : (t : List ℕ) → WellFormed t → length t < 6000
under_6000 t h = text_length h.0 t h.1

-- ---- lists
-- A list that passes check 2 has a text; reading that text gives its script back, whose words are the list.
pub record ReadsBack (s : List ℕ) : Type 0 where
  pub text : IsTextOf (script_of s) (script_text (script_of s))
  pub script : read_text (script_text (script_of s)) ≡ got (script_of s) (length (script_text (script_of s)))
  pub list : words (script_of s) ≡ s

pub round_trip : (s : List ℕ) → Passes (word_check Ordinary s) → ReadsBack s
round_trip s a = record { text = list_text s a; script = read_render (script_of s) (list_text s a).script; list = list-words s a }

-- ---- calls
-- Of one text and lent list the reader has one answer, and of one set and lent buffer the writer.
pub one_reading : (t d d₁ d₂ : List ℕ) (a b : CopyAnswer) → ReaderGives t d d₁ a → ReaderGives t d d₂ b → SameCopied a b d₁ d₂
one_reading = reader_unique

pub one_writing : (s d d₁ d₂ : List ℕ) (a b : CopyAnswer) → WriterGives s d d₁ a → WriterGives s d d₂ b → SameCopied a b d₁ d₂
one_writing = writer_unique

-- What the writer wrote of a list, the reader turns back into it, in any list e that has room.
pub written_then_read : (s d d' e : List ℕ) (n : ℕ) → WriterGives s d d' (Ok n) → length s ≤ length e
    → (e' : List ℕ) (a : CopyAnswer) → ReaderGives (take n d') e e' a → SameCopied a (Ok (length s)) e' (s ++ drop (length s) e)
written_then_read = read_back

-- "The round trip is about lists and holds for these too." The list of a script, also of one that names a chip, where
-- the writer takes it: what was written reads back as that list.
pub words_then_read : (r : Script) (d d' e : List ℕ) (n : ℕ) → WriterGives (words r) d d' (Ok n) → length (words r) ≤ length e
    → (e' : List ℕ) (a : CopyAnswer) → ReaderGives (take n d') e e' a
    → SameCopied a (Ok (length (words r))) e' (words r ++ drop (length (words r)) e)
words_then_read r = written_then_read (words r)

-- Reading a text, a chip's or another, and reading what the writer writes of its list, give one list: in e the reader
-- leaves e₁ of the one, n words, and the same of the other.
pub read-written-read : (t e e₁ d d' : List ℕ) (n k : ℕ) → ReaderGives t e e₁ (Ok n) → WriterGives (take n e₁) d d' (Ok k)
    → (e₂ : List ℕ) (a : CopyAnswer) → ReaderGives (take k d') e e₂ a → SameCopied a (Ok n) e₂ e₁
read-written-read = read_again

-- Of a chip's text, refusal 9 goes by the cycles alone: the task at place t, which is number t + 1, has an energy over
-- the largest exactly where its job has more cycles than the chip's most.
pub over_by_cycles : (c : Chip) (g : ℕ) (o : Option ℕ) (ts : List TaskLine) (t : List ℕ)
    → let s : Script = chip_script c g o ts in
    IsTextOf s t → (k : ℕ) → k < length ts → HasOver s (suc k) ↔ (most_cycles c < (line_at ts k).cycles)
over_by_cycles c g o ts t is k h = over_iff c g o ts is.script k h

-- A chip's text that the reader takes gives a list that passes checks 2 and 3, if its slack, its idle line where it has
-- one, its periods, its cycles and its first releases where they are given are in their ranges: of what the tables bring
-- nothing is refused.
pub chip_passes : (c : Chip) (g : ℕ) (o : Option ℕ) (ts : List TaskLine) (t d d' : List ℕ) (n : ℕ)
    → let s : Script = chip_script c g o ts in
    IsTextOf s t → ReaderGives t d d' (Ok n) → (1 ≤ g) × (g ≤ 1000) → IdleIn o → All LineIn ts → Accepts
    (word_checks Ordinary (words s))
chip_passes c g o ts t d d' n is gives slack_in idle_in_lem lines-in =
    list_passes c g o ts is.script slack_in idle_in_lem lines-in
    (passes_over (chip_script c g o ts) t is (passed 9 (reader_checks t (length d)) refl gives.0))

-- And so the writer takes it, wherever the buffer has room for its text; what it writes then reads back as that list
-- (words_then_read).
pub chip_written : (c : Chip) (g : ℕ) (o : Option ℕ) (ts : List TaskLine) (t d d' : List ℕ) (n : ℕ)
    → let s : Script = chip_script c g o ts in
    IsTextOf s t → ReaderGives t d d' (Ok n) → (1 ≤ g) × (g ≤ 1000) → IdleIn o → All LineIn ts
    → (lent : ℕ) → length (script_text (script_of (words s))) ≤ lent → Accepts (writer_checks (words s) lent)
chip_written c g o ts t d d' n is gives slack_in idle_in_lem lines-in lent room =
    let ws : List ℕ = words (chip_script c g o ts) in
    accepts_next (word_checks Ordinary ws) (room_check (length (script_text (script_of ws))) lent)
    (chip_passes c g o ts t d d' n is gives slack_in idle_in_lem lines-in) (λ k h. omega (arith, h.0))

-- A chip's text without an idle line gives a list that passes check 10 too, whatever its numbers are: each energy that
-- is worked out is at least what the chip draws in that time when it waits.
pub chip_above_idle : (c : Chip) (g : ℕ) (ts : List TaskLine) (t : List ℕ) → IsTextOf (chip_script c g none ts) t
    → Passes (idle_check Ordinary (words (chip_script c g none ts)))
chip_above_idle c g ts t is = own_passes c g ts is.script
