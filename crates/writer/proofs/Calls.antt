-- Checks 2 and 3, then 6, then the text: what the writer answers.
-- Assumes nothing.
use Rattle.std.specs.Prelude.{Ok, Err}
use Prim.Native.Nat.{ℕ, ◌≤◌, ◌<◌}
use mathlib.Core.Path.{◌≡◌, refl}
use mathlib.Core.List.{List}
use native.Mathlib.Omega.{arith}
use lib.ListN.{length}
use Rattle.layout.specs.declared.Layout.TheVariants.{Ordinary}
use Rattle.layout.proofs.Whole.{whole_of}
use Rattle.taskset.specs.Refusals.{number, second, Check, room_check, word_checks}
use Rattle.taskset.specs.Calls.{CountsAfter}
use Rattle.taskset.specs.declared.Refusal.{Refusal}
use Rattle.taskset.specs.declared.Refusal.TheVariants.{TooShort}
use Rattle.taskset.proofs.Checks.{passed, no_word_fault, accepts_next, refuses_next, refuses_before}
use Rattle.taskset.proofs.Copied.{copied}
use Rattle.text.specs.Text.{script_text, script_of}
use Rattle.text.specs.Calls.{WriterGives}
use Rattle.lists.specs.Writing.{placed}
use Rattle.printer.specs.Puts.{Put}
use Rattle.checks.specs.Steps.{OfCounts}
use Rattle.taskset.specs.Answers.{Shape, ok_counts}

-- What checks 2 and 3 answer of a list.
abbrev pub Checked : List ℕ → Shape → Type 0
Checked s = CountsAfter (word_checks Ordinary s) Ordinary s

pub counted : (s : List ℕ) (m n : ℕ) → Checked s (ok_counts m n) → OfCounts Ordinary m n s
counted s m n good = record {
  whole = whole_of Ordinary s (no_word_fault Ordinary s (passed 2 (word_checks Ordinary s) refl good.0));
  counted = good.1;
  numbered = good.2;
}

module _ (s d : List ℕ) where
  abbrev room : Check
  room = room_check (length (script_text (script_of s))) (length d)

  -- A refusal of the set is this call's.
  pub set_refused : (r : Refusal) → Checked s (Err r) → WriterGives s d d (Err r)
  set_refused r h = (refuses_before (word_checks Ordinary s) room (number r) (second r) h, refl)

  module _ (m n : ℕ) (good : Checked s (ok_counts m n)) where
    pub too_short : (k : ℕ) → k ≡ length (script_text (script_of s)) → length d < k → WriterGives s d d (Err (TooShort k))
    too_short k e h = (refuses_next (word_checks Ordinary s) room k good.0 (omega arith, e), refl)

    pub wrote : (k : ℕ) (e : List ℕ) → length (script_text (script_of s)) ≤ length d → Put (script_text (script_of s)) d e k → WriterGives s d e (Ok k)
    unfolding placed
    wrote k e h p = (
      accepts_next (word_checks Ordinary s) room good.0 (λ j x. omega (arith, x.0)),
      copied (script_text (script_of s)) d e k p.size p.is,
    )
