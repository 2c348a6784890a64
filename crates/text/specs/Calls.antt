-- What the reader and the writer answer, and what they leave in the list lent to them.
use Rattle.std.specs.Prelude.{ℕ, ◌-◌, ◌≤◌, ◌<◌, ◌≡◌, List, [], ◌∷◌, length, Ok, Err}
use Rattle.numbers.specs.Numbers.{Lowest}
use Rattle.layout.specs.Words.{most_energy, energy}
use Rattle.layout.specs.declared.Layout.TheVariants.{Ordinary}
use Rattle.taskset.specs.Refusals.{number, second, IsShort, Check, check, Accepts, Refuses, ◌▹◌, room_check, word_checks}
use Rattle.taskset.specs.Calls.{Copied, CopyGives}
use Rattle.text.specs.Text.{Clock, rates, chip, Script, script_text, IsTextOf, WellFormed, FirstBad}
use Rattle.text.specs.Text.{rates_of, words, script_of}
use Rattle.taskset.specs.Answers.{CopyAnswer}

-- "Reader: 1, 6", and between them 9, "after 1, before 6". lent is the length of the word list; 9 and 6 are of the
-- script that the text says.
abbrev pub form_check : List ℕ → Check
form_check t = check 1 (FirstBad WellFormed t)

-- 9: "an energy worked out here is over 1,000,000, with the first such task's number". Worked out are the energies of a
-- script that names a chip.
abbrev pub WorksOut : Clock → Type 0
WorksOut (rates fs) = ⊥
WorksOut (chip c) = Unit {0}

-- In the words of the script the task with number k, from 1 on, has an energy over the largest.
pub record HasOver (s : Script) (k : ℕ) : Type 0 where
  pub from : 1 ≤ k
  pub to : k ≤ length s.tasks
  pub rate : ℕ
  pub rate_from : 1 ≤ rate
  pub rate_to : rate ≤ length (rates_of s.clock)
  pub over : most_energy < energy Ordinary (words s) (k - 1) rate

abbrev pub over_check : List ℕ → Check
over_check t = check 9 (λ k. (s : Script) × IsTextOf s t × WorksOut s.clock × Lowest (HasOver s) k)

abbrev pub words_check : List ℕ → ℕ → Check
words_check t lent = check 6 (λ k. (s : Script) × IsTextOf s t × IsShort (length (words s)) lent k)

abbrev pub reader_checks : List ℕ → ℕ → List Check
reader_checks t lent = (form_check t ∷ []) ▹ over_check t ▹ words_check t lent

-- t is the text, d the list as lent, d' as given back: a success writes the words of the text's script, a refusal
-- nothing.
abbrev pub ReaderGives : (t d d' : List ℕ) → CopyAnswer → Type 0
ReaderGives t d d' (Ok n) =
    Accepts (reader_checks t (length d)) × ((s : Script) × IsTextOf s t × Copied (words s) d d' (Ok n))
ReaderGives t d d' (Err r) = Refuses (reader_checks t (length d)) (number r) (second r) × (d' ≡ d)

-- "Writer: 2, 3, 6." lent is the length of the buffer. "The writer takes a set that passes checks 2 and 3".
abbrev pub writer_checks : List ℕ → ℕ → List Check
writer_checks s lent = word_checks Ordinary s ▹ room_check (length (script_text (script_of s))) lent

abbrev pub WriterGives : (s d d' : List ℕ) → CopyAnswer → Type 0
WriterGives s d = CopyGives (writer_checks s (length d)) (script_text (script_of s)) d
