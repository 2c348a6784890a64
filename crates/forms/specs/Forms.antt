-- What the functions that read a form give: what the form reads as at a place, and the words that stand written after
-- it. Not part of what a reader must believe: the reader's contract speaks of scripts and their texts.
use Rattle.std.specs.Prelude.{ℕ, ◌≤◌, ◌≡◌, List, ◌∷◌, ◌++◌, length, Option, Some, None, Result}
use Rattle.std.proofs.Math.Option.{Option as Optional, none, some}
use Rattle.layout.specs.Words.{most_rates}
use Rattle.chips.specs.Chips.{chip_count, chip_energies, chip_idle}
use Rattle.text.specs.Text as Text
use Rattle.text.specs.Text.{bytes, TaskLine, Script, rates_of, extra_words, words}
use Rattle.text.specs.Reading.{Res, got, bad, mapped, field, read_at}
use Rattle.lists.specs.Writing.{written}
use Rattle.scanner.specs.Steps.{Reads}
use Rattle.scanner.specs.declared.Cursor.{Cursor}
use Rattle.scanner.specs.declared.Departure.{Departure}
use Rattle.forms.specs.declared.Head.{Head}
use Rattle.forms.specs.declared.Clock.{Clock}
use Rattle.forms.specs.declared.Clock.TheVariants.{Rates, Named}
use Rattle.forms.specs.declared.Said.{Said}

-- A space and a number.
abbrev pub spaced_number : List ℕ → Res ℕ
spaced_number = field (bytes " ")

-- The words of what was read stand in the list from k on, and all else is as it was: d is the list before, e after.
-- Nothing is said where nothing was read.
abbrev pub Wrote : {A : Type 0} → (A → List ℕ) → ℕ → List ℕ → List ℕ → Res A → Type 0
Wrote f k d e (got a i) = e ≡ written k (f a) d
Wrote f k d e (bad o) = Unit {0}

-- What the reader of a form gives: p is how the form reads, x the cursor before, y after and r the code's answer. The
-- answer is the value of what was read, and its words stand in the list.
pub record Gives {A B : Type 0} (value : A → B) (words : A → List ℕ) (p : List ℕ → Res A) (x y : Cursor) (k : ℕ)
    (d e : List ℕ) (r : Result B Departure) : Type 0 where
  pub reads : Reads (mapped value p) x y r
  pub wrote : Wrote words k d e (read_at p x.text.now x.at)

-- Of some forms the words are all that is told.
abbrev pub no_value : {A : Type 0} → A → Unit {0}
no_value a = tt

-- A list of numbers is its own words.
abbrev pub plain : List ℕ → List ℕ
plain xs = xs

-- The idle line as the code has it, and the head.
abbrev pub given : Optional ℕ → Option ℕ
given none = None
given (some h) = Some h

abbrev pub head_from : ℕ × Optional ℕ → Head
head_from h = record { slack = h.0; idle = given h.1 }

-- The clock as the code has it: of a line of rates their number.
abbrev pub clock_of : Text.Clock → Clock
clock_of (Text.rates fs) = Rates (length fs)
clock_of (Text.chip c) = Named c

-- How many rates it has, and how many energies each task's line.
abbrev pub rates_in : Clock → ℕ
rates_in (Rates m) = m
rates_in (Named c) = chip_count c

abbrev pub energies_in : Clock → ℕ
energies_in (Rates m) = m
energies_in (Named c) = 0

-- The idle energy that the line or the clock brings.
abbrev pub idle_in : Option ℕ → Clock → ℕ
idle_in (Some h) k = h
idle_in None (Rates m) = 0
idle_in None (Named c) = chip_idle c

-- A line of rates has some, and not too many.
abbrev pub Fits : Clock → Type 0
Fits (Rates m) = (1 ≤ m) × (m ≤ most_rates)
Fits (Named c) = Unit {0}

-- The energies of a job of so many cycles: those that stand in the line, or the chip's; and all words of the line.
abbrev pub energies_by : Clock → ℕ → List ℕ → List ℕ
energies_by (Rates m) cycles es = es
energies_by (Named c) cycles es = chip_energies c cycles

abbrev pub words_by : Clock → TaskLine → List ℕ
words_by k t = t.period ∷ t.cycles ∷ (extra_words t ++ energies_by k t.cycles t.energies)

-- What reading a set tells of its script.
abbrev pub said_of : Script → Said
said_of s = record {
  clock = clock_of s.clock;
  rates = length (rates_of s.clock);
  tasks = length s.tasks;
  words = length (words s);
}
