-- What the writer wrote the reader reads back; and what was read, written and read again is the same.
-- Assumes nothing.
use Rattle.std.specs.Prelude.{Ok}
use Prim.Native.Nat.{ℕ, ◌≤◌, ◌<◌}
use mathlib.Core.Path.{◌≡◌, refl, sym, ap, ◌∙◌}
use mathlib.Core.List.{List, ◌++◌}
use mathlib.Core.Logic.{⊎_elim}
use lib.ListN.{length, take, drop}
use Rattle.numbers.proofs.Tests.{lt_or_le}
use Rattle.taskset.specs.Refusals.{Passes, word_check}
use Rattle.taskset.proofs.Checks.{passed}
use Rattle.layout.specs.declared.Layout.TheVariants.{Ordinary}
use Rattle.taskset.proofs.Copied.{SameCopied, copied, count_is, front_is}
use Rattle.text.specs.Text.{script_text, IsTextOf, words, script_of}
use Rattle.text.specs.Calls.{reader_checks, ReaderGives}
use Rattle.text.specs.Calls.{writer_checks, WriterGives}
use Rattle.text.proofs.Copies.{list_text, list-words, takes, reader_unique}
use Rattle.taskset.specs.Answers.{CopyAnswer}

-- ---- written and read back
module _ (s d d' e : List ℕ) (n : ℕ) (wrote : WriterGives s d d' (Ok n)) (room : length s ≤ length e) where
  passes : Passes (word_check Ordinary s)
  passes = passed 2 (writer_checks s (length d)) refl wrote.0

  written : take n d' ≡ script_text (script_of s)
  written = front_is (script_text (script_of s)) d d' n wrote.1

  -- The list that was written, all of it, is what the reader may answer.
  back : ReaderGives (take n d') e (s ++ drop (length s) e) (Ok (length s))
  unfolding script_of
  back =
      let is : IsTextOf (script_of s) (take n d') = rw written (list_text s passes) in
      let same : words (script_of s) ≡ s = list-words s passes in (
        takes (script_of s) (take n d') (length e) is (λ w. absurd w) (rw same room),
        (script_of s, is, rw same (copied s e (s ++ drop (length s) e) (length s) refl refl)),
      )

  -- And the only thing.
  pub read_back : (e' : List ℕ) (a : CopyAnswer) → ReaderGives (take n d') e e' a → SameCopied a (Ok (length s)) e' (s ++ drop (length s) e)
  read_back e' a h = reader_unique (take n d') e e' (s ++ drop (length s) e) a (Ok (length s)) h back

-- ---- read, written and read again
module _ (t e e₁ d d' : List ℕ) (n k : ℕ) (gives : ReaderGives t e e₁ (Ok n))
    (wrote : WriterGives (take n e₁) d d' (Ok k)) where
  abbrev said : List ℕ
  said = words gives.1.0

  -- The words that were read, and that the list lent has room for them.
  front : take n e₁ ≡ said
  front = front_is said e e₁ n gives.1.2

  enough : length said ≤ length e
  enough =
      ⊎_elim
      (λ (l : length e < length said). absurd (passed 6 (reader_checks t (length e)) refl gives.0 (length said)
      (gives.1.0, gives.1.1, (l, refl))))
      (λ (l : length said ≤ length e). l)
      (lt_or_le (length e) (length said))

  pub read_again : (e₂ : List ℕ) (a : CopyAnswer) → ReaderGives (take k d') e e₂ a → SameCopied a (Ok n) e₂ e₁
  read_again e₂ a h =
      let x = read_back (take n e₁) d d' e k wrote (rw front enough) e₂ a h in
      record {
        answer = x.answer ∙ ap (λ (l : List ℕ). Ok (length l)) front ∙ ap Ok (sym (count_is said e e₁ n gives.1.2));
        list = x.list ∙ ap (λ (l : List ℕ). l ++ drop (length l) e) front ∙ sym gives.1.2.list_is;
      }
